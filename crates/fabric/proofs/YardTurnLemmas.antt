-- What one turn of a seat at the yard found, and left.
use Rattle.std.proofs.Common.{◌≡◌, ◌↔◌, ℕ, ◌+◌, ◌≤◌, [], ◌∷◌, ◌++◌, Result, Ok, Err, IsErr, IfOk, IfErr, OnOk, OnErr, refl, sym, ap, ◌∙◌, subst}
use Rattle.domains.specs.Drive.{Drive}
use Rattle.domains.specs.Shape.{Shape}
use Rattle.flex_io.specs.declared.raw_place.RawPlace.{RawPlace}
use Rattle.held_slots.specs.declared.empty.Empty.{Empty}
use Rattle.held_slots.specs.Slots.{drive_of}
use Rattle.slot_yard.specs.Queues.{IsOldest, queue_of, with_slot}
use Rattle.slot_yard.specs.Tallies.{numbers_of, tally_at}
use Rattle.slot_yard.specs.Yards.{IsYard, YardView, moved}
use Rattle.slot_yard.specs.declared.counts.Move.TheVariants.{Put, Take, Retire}
use Rattle.turn_cell.specs.Seats.{Enters, SeatView, left}
use Rattle.fabric.specs.YardTurns.{FollowsYard, LooksOn, NoneWaits, Puts, Retires, TakesOldest, YardTurn}
use Rattle.fabric.proofs.PoolTurnLemmas.{Remains, has_left}

module _ {S : Type 0} where
  -- the yard once its turn has passed
  abbrev pub yard_passed : YardView S → YardView S
  yard_passed y = record y { turns = y.turns + 1 }

  -- what a turn at the yard tells at its start
  abbrev pub EntersYard : SeatView (YardView S) → SeatView (YardView S) → YardView S → YardView S → Type 0
  EntersYard before within y state =
      Enters {E = Unit {0}} {F = Shape} (λ (y : YardView S). y.turns) (λ (y : YardView S). []) (λ (y : YardView S) (k : ℕ). numbers_of (tally_at y.tallies k)) (λ (y : YardView S). y.shape)
      (λ (y : YardView S) (number : ℕ). record y { seat = number }) before within y state

  -- what a turn leaves of its seat
  pub yard_remains : (how : YardView S → YardView S) (y : YardView S) (old new : SeatView (YardView S)) → YardTurn how y old new → Remains old new
  yard_remains how y old new turn = record { cell = ap (λ v. v.cell) turn.now; number = ap (λ v. v.number) turn.now; idle = ap (λ v. v.idle) turn.now }

  -- a turn changes nothing of the shape
  pub same_shape : (how : YardView S → YardView S) (y : YardView S) (old new : SeatView (YardView S)) → YardTurn how y old new
      → ((z : YardView S) → (how z).shape ≡ z.shape) → new.last.shape ≡ old.last.shape
  same_shape how y old new turn same = ap (λ v. v.last.shape) turn.now ∙ (same (record y { seat = old.number }) ∙ turn.follows.fixed)

module _ {S : Type 0} (place_of : S → RawPlace) where
  -- a yard stays one, however many turns have passed
  pub IsYard-turns : (y : YardView S) (turns : ℕ) → IsYard place_of y → IsYard place_of (record y { turns = turns })
  IsYard-turns y turns is = record {
    shape = is.shape;
    seat = is.seat;
    seats = is.seats;
    drives = is.drives;
    waiting = is.waiting;
    retired = is.retired;
    few_retired = is.few_retired;
    add_up = is.add_up;
  }

  -- the turn of the seat found x, began with it as state, and left y
  pub record YardTurned (before after : SeatView (YardView S)) (x state y : YardView S) : Type 0 where
    pub turns : before.turns ≤ x.turns
    pub follows : FollowsYard before.number before.last x
    pub lone : before.cell.seats ≡ 1 → x ≡ before.last
    pub begins : state ≡ record x { seat = before.number }
    pub yard : IsYard place_of y
    pub leaves : after ≡ left before (x.turns + 1) (yard_passed y)

  -- what the turn told at its start and at its end
  pub yard_turned : (before within after : SeatView (YardView S)) (x begun state y : YardView S) → EntersYard before within x begun → state ≡ begun → IsYard place_of y
      → after ≡ left within (x.turns + 1) (yard_passed y) → YardTurned before after x state y
  yard_turned before within after x begun state y entered same yard leaves = record {
    turns = entered.turns;
    follows = entered.follows;
    lone = entered.lone;
    begins = same ∙ entered.begins;
    yard = yard;
    leaves = has_left before within after _ _ entered.seat leaves;
  }

  module _ (before after : SeatView (YardView S)) (x state y : YardView S) (turned : YardTurned before after x state y) where
    -- the turn did this with the yard
    pub yard_turn : (how : YardView S → YardView S) → (how (record x { seat = before.number })).turns ≡ x.turns → y ≡ how state → YardTurn how x before after
    yard_turn how kept done = record {
      turns = turned.turns;
      follows = turned.follows;
      lone = turned.lone;
      now = turned.leaves
          ∙ (ap (λ z. left before (x.turns + 1) (yard_passed z)) (done ∙ ap how turned.begins)
          ∙ ap (λ turns. left before (x.turns + 1) (record (how (record x { seat = before.number })) { turns = turns + 1 })) kept);
    }

    -- and what it left is a yard
    pub last_yard : IsYard place_of after.last
    last_yard = subst (λ (v : SeatView (YardView S)). IsYard place_of v.last) (sym turned.leaves) (IsYard-turns y (y.turns + 1) turned.yard)

    -- what each kind of turn is
    pub puts : (held : S) → y ≡ moved Put (drive_of place_of held) (with_slot place_of held state.waiting) state.retired state → Puts place_of held before after
    puts held done = record {
      found = x;
      turn = yard_turn (moved Put (drive_of place_of held) (with_slot place_of held x.waiting) x.retired) refl
          (done ∙ ap (λ z. moved Put (drive_of place_of held) (with_slot place_of held z.waiting) z.retired state) turned.begins);
      yard = last_yard;
    }

    pub retires : (held : S) → y ≡ moved Retire (drive_of place_of held) state.waiting (state.retired ++ held ∷ []) state → Retires place_of held before after
    retires held done = record {
      found = x;
      turn = yard_turn (moved Retire (drive_of place_of held) x.waiting (x.retired ++ held ∷ [])) refl
          (done ∙ ap (λ z. moved Retire (drive_of place_of held) z.waiting (z.retired ++ held ∷ []) state) turned.begins);
      yard = last_yard;
    }

    pub looks_on : y ≡ state → LooksOn place_of before after
    looks_on same = record { found = x; turn = yard_turn (λ z. z) refl same; yard = last_yard }

    pub takes_oldest : (d : Drive) (r : Result S Empty) → IfOk r (λ held. IsOldest place_of d held state.waiting y.waiting)
        → OnOk r (y ≡ moved Take d y.waiting state.retired state) → IfOk r (λ held. TakesOldest place_of d held before after)
    takes_oldest d (Ok held) oldest done = record {
      found = x;
      rest = y.waiting;
      oldest = subst (λ (z : YardView S). IsOldest place_of d held z.waiting y.waiting) turned.begins oldest;
      turn = yard_turn (moved Take d y.waiting x.retired) refl (done ∙ ap (λ z. moved Take d y.waiting z.retired state) turned.begins);
      yard = last_yard;
    }
    takes_oldest d (Err empty) oldest done = tt

    pub none_waits : (d : Drive) (r : Result S Empty) → (IsErr r ↔ (queue_of d state.waiting ≡ [])) → IfErr r (λ empty. empty.turn ≡ state.turns)
        → OnErr r (y ≡ state) → IfErr r (λ empty. NoneWaits place_of d empty.turn before after)
    none_waits d (Ok held) none turn same = tt
    none_waits d (Err empty) none turn same = record {
      found = x;
      turns_are = sym (turn ∙ ap (λ z. z.turns) turned.begins);
      none = sym (ap (λ z. queue_of d z.waiting) turned.begins) ∙ none.0 refl;
      turn = yard_turn (λ z. z) refl same;
      yard = last_yard;
    }
