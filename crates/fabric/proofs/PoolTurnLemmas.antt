-- What one turn of a seat found, and left.
use Rattle.std.proofs.Common.{◌≡◌, ◌↔◌, ℕ, ◌+◌, ◌<◌, ◌≤◌, true, false, [], ◌∷◌, ◌++◌, length, Result, Ok, Err, IsOk, IfOk, IfErr, OnOk, OnErr, refl, sym, ap, ◌∙◌, subst, inl, inr, arith}
use Rattle.std.proofs.lemmas.Bool.{both_ways, cases_lt}
use Rattle.domains.specs.Place.{IsPlace}
use Rattle.flex_io.specs.declared.raw_place.RawPlace.{RawPlace}
use Rattle.held_slots.specs.declared.empty.Empty.{Empty}
use Rattle.held_slots.specs.Slots.{IsOn, place_from}
use Rattle.slot_pool.proofs.ClosedPool.{drive_slots}
use Rattle.slot_pool.specs.Pools.{PoolView, IsPool, counted}
use Rattle.slot_pool.specs.Tallies.{found_none, gave, numbers_of, tally_at, took}
use Rattle.slot_pool.specs.declared.chronicle.DriveSlots.{DriveSlots}
use Rattle.turn_cell.specs.Seats.{Enters, SeatView, in_turn, left}
use Rattle.fabric.specs.PoolTurns.{FindsAll, FindsNone, FollowsPool, Gives, PoolTurn, Takes}

-- the seat is in no turn, at its cell and with its number
pub record Remains {A : Type 0} (old new : SeatView A) : Type 0 where
  pub cell : new.cell ≡ old.cell
  pub number : new.number ≡ old.number
  pub idle : new.idle ≡ true

-- the seat is once more in no turn
pub has_left : {A : Type 0} (before within after : SeatView A) (turns : ℕ) (state : A) → within ≡ in_turn before → after ≡ left within turns state → after ≡ left before turns state
has_left before within after turns state entered leaves = leaves ∙ ap (λ seat. left seat turns state) entered

module _ {S : Type 0} where
  -- the pool once its turn has passed
  abbrev pub passed : PoolView S → PoolView S
  passed p = record p { turns = p.turns + 1 }

  -- what a turn at a pool tells at its start
  abbrev pub EntersPool : SeatView (PoolView S) → SeatView (PoolView S) → PoolView S → PoolView S → Type 0
  EntersPool before within x state =
      Enters {E = Unit {0}} {F = DriveSlots} (λ (p : PoolView S). p.turns) (λ (p : PoolView S). []) (λ (p : PoolView S) (k : ℕ). numbers_of (tally_at p.tallies k)) (λ (p : PoolView S). record { drive = p.drive; slots = p.slots })
      (λ (p : PoolView S) (number : ℕ). record p { seat = number }) before within x state

  -- what a turn leaves of its seat
  pub remains : (how : PoolView S → PoolView S) (p : PoolView S) (old new : SeatView (PoolView S)) → PoolTurn how p old new → Remains old new
  remains how p old new turn = record { cell = ap (λ v. v.cell) turn.now; number = ap (λ v. v.number) turn.now; idle = ap (λ v. v.idle) turn.now }

  -- a turn that takes or gives slots, or looks, changes nothing of what the seat knows of the drive
  pub same_drive_slots : (how : PoolView S → PoolView S) (p : PoolView S) (old new : SeatView (PoolView S)) → PoolTurn how p old new
      → ((q : PoolView S) → drive_slots (how q) ≡ drive_slots q) → drive_slots new.last ≡ drive_slots old.last
  same_drive_slots how p old new turn same = ap (λ v. drive_slots v.last) turn.now ∙ (same (record p { seat = old.number }) ∙ turn.follows.fixed)

module _ {S : Type 0} (place_of : S → RawPlace) where
  -- a pool stays one as its turn passes
  IsPool-passed : (p : PoolView S) → IsPool place_of p → IsPool place_of (passed p)
  IsPool-passed p is = record { drive = is.drive; few = is.few; seat = is.seat; seats = is.seats; on = is.on; within = is.within; add_up = is.add_up }

  -- the turn of the seat found x, began with it as state, and left y
  pub record PoolTurned (before after : SeatView (PoolView S)) (x state y : PoolView S) : Type 0 where
    pub turns : before.turns ≤ x.turns
    pub follows : FollowsPool before.number before.last x
    pub lone : before.cell.seats ≡ 1 → x ≡ before.last
    pub begins : state ≡ record x { seat = before.number }
    pub pool : IsPool place_of y
    pub leaves : after ≡ left before (x.turns + 1) (passed y)

  -- what the turn told at its start and at its end
  pub pool_turned : (before within after : SeatView (PoolView S)) (x begun state y : PoolView S) → EntersPool before within x begun → state ≡ begun → IsPool place_of y
      → after ≡ left within (x.turns + 1) (passed y) → PoolTurned before after x state y
  pool_turned before within after x begun state y entered same pool leaves = record {
    turns = entered.turns;
    follows = entered.follows;
    lone = entered.lone;
    begins = same ∙ entered.begins;
    pool = pool;
    leaves = has_left before within after _ _ entered.seat leaves;
  }

  module _ (before after : SeatView (PoolView S)) (x state y : PoolView S) (turned : PoolTurned before after x state y) where
    -- the turn did this with the pool
    pub pool_turn : (how : PoolView S → PoolView S) → (how (record x { seat = before.number })).turns ≡ x.turns → y ≡ how state → PoolTurn how x before after
    pool_turn how kept done = record {
      turns = turned.turns;
      follows = turned.follows;
      lone = turned.lone;
      now = turned.leaves
          ∙ (ap (λ p. left before (x.turns + 1) (passed p)) (done ∙ ap how turned.begins)
          ∙ ap (λ turns. left before (x.turns + 1) (record (how (record x { seat = before.number })) { turns = turns + 1 })) kept);
    }

    -- and what it left is a pool
    pub last_pool : IsPool place_of after.last
    last_pool = subst (λ (v : SeatView (PoolView S)). IsPool place_of v.last) (sym turned.leaves) (IsPool-passed y turned.pool)

    -- the turn took the slot on top
    pub takes : (r : Result S Empty) → IfOk r (λ held. state.free ≡ y.free ++ held ∷ []) → IfOk r (λ held. IsPlace (place_from (place_of held)) × IsOn state.drive state.slots (place_from (place_of held)))
        → OnOk r (y ≡ counted (took 1) y.free state) → IfOk r (λ held. Takes place_of held before after)
    takes (Err empty) top place done = tt
    takes (Ok held) top place done = record {
      found = x;
      rest = y.free;
      top = sym (ap (λ p. p.free) turned.begins) ∙ top;
      turn = pool_turn (counted (took 1) y.free) refl done;
      on = subst (λ (known : DriveSlots). IsOn known.drive known.slots (place_from (place_of held))) (ap drive_slots turned.begins ∙ turned.follows.fixed) place.1;
      pool = last_pool;
    }

    -- it put the slot on top
    pub gives : (held : S) → y ≡ counted gave (state.free ++ held ∷ []) state → Gives place_of held before after
    gives held done = record {
      found = x;
      turn = pool_turn (counted gave (x.free ++ held ∷ [])) refl (done ∙ ap (λ p. counted gave (p.free ++ held ∷ []) state) turned.begins);
      pool = last_pool;
    }

    -- all slots of the drive were free
    pub finds_all : {T E : Type 0} (r : Result T E) → IfErr r (λ refused. y ≡ state) → (IsOk r ↔ (length state.free < state.slots)) → OnErr r (FindsAll place_of before after)
    finds_all (Ok value) same accepts = tt
    finds_all (Err refused) same accepts =
        let most : length state.free ≤ state.slots = subst (λ (p : PoolView S). length p.free ≤ p.slots) same turned.pool.within in
        let full : length state.free ≡ state.slots = elim (cases_lt (length state.free) state.slots) [
          | inl less ↦ absurd (both_ways false refl (accepts.1 less))
          | inr past ↦ omega (arith, most, past)
        ] in
        record {
          found = x;
          full = subst (λ (p : PoolView S). length p.free ≡ p.slots) turned.begins full;
          turn = pool_turn (λ p. p) refl same;
          pool = last_pool;
        }

    -- a turn in which no slot was free
    pub finds_none : (r : Result S Empty) → IfErr r (λ empty. (empty.turn ≡ state.turns) × (state.free ≡ [])) → OnErr r (y ≡ counted found_none state.free state)
        → IfErr r (λ empty. FindsNone place_of empty.turn before after)
    finds_none (Ok held) none kept = tt
    finds_none (Err empty) none kept = record {
      found = x;
      turns_are = sym (none.0 ∙ ap (λ p. p.turns) turned.begins);
      none = sym (ap (λ p. p.free) turned.begins) ∙ none.1;
      turn = pool_turn (counted found_none []) refl (kept ∙ ap (λ free. counted found_none free state) none.1);
      pool = last_pool;
    }
