-- What a turn at the yard changes of the account of each drive.
use Rattle.std.proofs.Common.{◌≡◌, ℕ, ◌+◌, ◌<◌, true, false, List, [], length, refl, sym, ap, ◌∙◌, subst, inl, inr, arith}
use Rattle.std.proofs.lemmas.Bool.{cases_Bool}
use Rattle.std.proofs.lemmas.Grind.{get_or-set_at}
use Rattle.std.proofs.lemmas.List.{get_or-set_other, length-set}
use Rattle.domains.specs.Counts.{one_if}
use Rattle.domains.specs.Shape.{Shape, is_of}
use Rattle.domains.specs.Drive.{Drive, same_drive}
use Rattle.flex_io.specs.declared.raw_place.RawPlace.{RawPlace}
use Rattle.slot_pool.specs.declared.tally.Tally.{Tally}
use Rattle.slot_yard.proofs.KnownCounts.{counts_known, same_counts}
use Rattle.domains.proofs.DriveLemmas.{same_drive-eq}
use Rattle.domains.proofs.ShapeLemmas.{IsDrive-of}
use Rattle.slot_yard.proofs.DriveRanks.{rank_of-apart}
use Rattle.slot_yard.specs.declared.counts.Counts.{Counts}
use Rattle.slot_yard.specs.declared.counts.Move.{Move}
use Rattle.slot_yard.specs.declared.counts.Move.TheVariants.{Put, Take, Retire}
use Rattle.held_slots.specs.Slots.{drive_of}
use Rattle.slot_yard.specs.Tallies.{count_one, counts_of, no_counts, rank_of, tally_at, with_counts, with_tally}
use Rattle.slot_yard.specs.Yards.{IsYard, YardView, moved, moved_by}
use Rattle.turn_cell.specs.Seats.{SeatView, seat_view}
use Rattle.fabric.specs.Accounts.{Balances, Gains, Holds, Loses, Stays, own_counts, own_tally}
use Rattle.fabric.specs.HandTurns.{AtYard}
use Rattle.fabric.specs.YardTurns.{LooksOn, NoneWaits, Puts, Retires, TakesOldest, YardTurn}
use Rattle.fabric.specs.declared.hand.Hand.{Hand}
use Rattle.fabric.proofs.PoolAccounts.{Balances-put, Balances-retire, Balances-take}
use Rattle.fabric.proofs.YardTurnLemmas.{IsYard-turns}

module _ {S : Type 0} (place_of : S → RawPlace) where
  -- what a turn counts for its seat, of the drive whose slot it moved
  own_counts-moved : (what : Move) (d : Drive) (waiting : List (List S)) (retired : List S) (y : YardView S) (old new : SeatView (YardView S))
      → YardTurn (moved what d waiting retired) y old new → IsYard place_of new.last → is_of old.last.shape d ≡ true
      → own_counts d new ≡ count_one what (own_counts d old)
  own_counts-moved what d waiting retired y old new turn is of =
      let left_yard : IsYard place_of (moved what d waiting retired (record y { seat = old.number })) =
      IsYard-turns place_of (record (moved what d waiting retired (record y { seat = old.number })) { turns = y.turns + 1 }) y.turns
      (subst (λ (v : SeatView (YardView S)). IsYard place_of v.last) turn.now is) in
      ap (λ v. counts_of d (tally_at v.last.tallies v.number)) turn.now
      ∙ counts_known place_of what d waiting retired old.last y (record y { seat = old.number }) (moved what d waiting retired (record y { seat = old.number })) old.number
      turn.follows.tally refl refl left_yard (ap (λ shape. is_of shape d) turn.follows.fixed ∙ of)

  -- and of every other
  pub own_counts-other : (counted : Counts → Counts) (d e : Drive) (waiting : List (List S)) (retired : List S) (y : YardView S) (old new : SeatView (YardView S))
      → YardTurn (moved_by counted d waiting retired) y old new → IsYard place_of new.last → is_of old.last.shape d ≡ true → is_of old.last.shape e ≡ true → same_drive e d ≡ false
      → own_counts e new ≡ own_counts e old
  own_counts-other counted d e waiting retired y old new turn is of_d of_e apart =
      let number = old.number in
      let tally = tally_at y.tallies number in
      let tallies : new.last.tallies ≡ with_tally number (with_counts d counted) y.tallies = ap (λ v. v.last.tallies) turn.now in
      let seat : new.last.seat ≡ number = ap (λ v. v.last.seat) turn.now in
      let few = is.seat in
      let all = is.seats in
      let long = ap length tallies ∙ length-set y.tallies number (with_counts d counted tally) in
      let within : number < length y.tallies = omega (arith, seat, few, all, long) in
      let shape : new.last.shape ≡ old.last.shape = ap (λ v. v.last.shape) turn.now ∙ turn.follows.fixed in
      let of : (x : Drive) → is_of old.last.shape x ≡ true → is_of new.last.shape x ≡ true = λ x of. ap (λ shape. is_of shape x) shape ∙ of in
      ap (λ v. counts_of e (tally_at v.last.tallies v.number)) turn.now
      ∙ (ap (counts_of e) (get_or-set_at y.tallies number number (with_counts d counted tally) [] refl within)
      ∙ (get_or-set_other tally (rank_of d) (rank_of e) (counted (counts_of d tally)) no_counts
      (λ same. rank_of-apart e d (IsDrive-of new.last.shape e is.shape (of e of_e)) (IsDrive-of new.last.shape d is.shape (of d of_d)) apart (sym same))
      ∙ ap (counts_of e) (same_counts _ _ turn.follows.tally)))

  -- nor does a turn that moves none count
  pub own_counts-same : (e : Drive) (y : YardView S) (old new : SeatView (YardView S)) → YardTurn (λ y. y) y old new → own_counts e new ≡ own_counts e old
  own_counts-same e y old new turn = ap (λ v. counts_of e (tally_at v.last.tallies v.number)) turn.now ∙ ap (counts_of e) (same_counts _ _ turn.follows.tally)

module _ {S : Type 0} where
  -- how many slots the hand holds of a drive, after a turn at the yard
  yard_holds_after : (shape : Shape) (what : SeatView (YardView S) → SeatView (YardView S) → Type 0) (old new : Hand S) → AtYard shape what old new
      → (e : Drive) (m n : ℕ) → is_of shape e ≡ true
      → ((t : Tally) → Balances t (own_counts e (seat_view old.yard)) m → Balances t (own_counts e (seat_view new.yard)) n)
      → Holds shape e m old → Holds shape e n new
  yard_holds_after shape what old new at e m n of step holds = record {
    pool = holds.pool;
    pool_is = at.pools e of ∙ holds.pool_is;
    sum = step (own_tally holds.pool) holds.sum;
  }

module _ {S : Type 0} (place_of : S → RawPlace) (shape : Shape) (old new : Hand S) (knows : (seat_view old.yard).last.shape ≡ shape) where
  -- a slot of the drive was moved, from the yard to the hand or the other way
  moves : (what : Move) (d : Drive) (waiting : List (List S)) (retired : List S) (y : YardView S) → YardTurn (moved what d waiting retired) y (seat_view old.yard) (seat_view new.yard)
      → IsYard place_of (seat_view new.yard).last → is_of shape d ≡ true → (e : Drive) → is_of shape e ≡ true → (m n : ℕ)
      → (same_drive e d ≡ true → (t : Tally) (c : Counts) → Balances t c m → Balances t (count_one what c) n) → (same_drive e d ≡ false → m ≡ n)
      → (t : Tally) → Balances t (own_counts e (seat_view old.yard)) m → Balances t (own_counts e (seat_view new.yard)) n
  moves what d waiting retired y turn is of_d e of_e m n here apart t sum =
      let of : (x : Drive) → is_of shape x ≡ true → is_of (seat_view old.yard).last.shape x ≡ true = λ x of. ap (λ shape. is_of shape x) knows ∙ of in
      elim (cases_Bool (same_drive e d)) [
        | inl same ↦ (
            let is_d : d ≡ e = sym (same_drive-eq e d same) in
            let counts = own_counts-moved place_of what d waiting retired y (seat_view old.yard) (seat_view new.yard) turn is (of d of_d) in
            subst (λ (c : Counts). Balances t c n) (sym (subst (λ (x : Drive). own_counts x (seat_view new.yard) ≡ count_one what (own_counts x (seat_view old.yard))) is_d counts))
            (here same t (own_counts e (seat_view old.yard)) sum)
            )
        | inr other ↦ (
            subst (λ (c : Counts). Balances t c n) (sym (own_counts-other place_of (count_one what) d e waiting retired y (seat_view old.yard) (seat_view new.yard) turn is (of d of_d) (of e of_e) other))
            (subst (λ (n : ℕ). Balances t (own_counts e (seat_view old.yard)) n) (apart other) sum)
            )
      ]

  -- what the hand holds after each kind of turn
  pub loses_put : (held : S) → is_of shape (drive_of place_of held) ≡ true → AtYard shape (Puts place_of held) old new → Loses shape (drive_of place_of held) old new
  loses_put held of_d at e many of_e =
      let d = drive_of place_of held in
      yard_holds_after shape (Puts place_of held) old new at e (many + one_if (same_drive e d)) many of_e
      (moves Put d _ _ at.done.found at.done.turn at.done.yard of_d e of_e (many + one_if (same_drive e d)) many
      (λ same t c sum. Balances-put t c many (subst (λ (n : ℕ). Balances t c (many + n)) (ap one_if same) sum))
      (λ other. let none : one_if (same_drive e d) ≡ 0 = ap one_if other in omega (arith, none)))

  pub loses_retired : (held : S) → is_of shape (drive_of place_of held) ≡ true → AtYard shape (Retires place_of held) old new → Loses shape (drive_of place_of held) old new
  loses_retired held of_d at e many of_e =
      let d = drive_of place_of held in
      yard_holds_after shape (Retires place_of held) old new at e (many + one_if (same_drive e d)) many of_e
      (moves Retire d _ _ at.done.found at.done.turn at.done.yard of_d e of_e (many + one_if (same_drive e d)) many
      (λ same t c sum. Balances-retire t c many (subst (λ (n : ℕ). Balances t c (many + n)) (ap one_if same) sum))
      (λ other. let none : one_if (same_drive e d) ≡ 0 = ap one_if other in omega (arith, none)))

  pub gains_oldest : (d : Drive) (held : S) → is_of shape d ≡ true → AtYard shape (TakesOldest place_of d held) old new → Gains shape d old new
  gains_oldest d held of_d at e many of_e =
      yard_holds_after shape (TakesOldest place_of d held) old new at e many (many + one_if (same_drive e d)) of_e
      (moves Take d _ _ at.done.found at.done.turn at.done.yard of_d e of_e many (many + one_if (same_drive e d))
      (λ same t c sum. subst (λ (n : ℕ). Balances t (count_one Take c) (many + n)) (sym (ap one_if same)) (Balances-take t c many sum))
      (λ other. let none : one_if (same_drive e d) ≡ 0 = ap one_if other in omega (arith, none)))

  -- a turn that moves no slot
  looked : (what : SeatView (YardView S) → SeatView (YardView S) → Type 0) (y : YardView S) → YardTurn (λ y. y) y (seat_view old.yard) (seat_view new.yard)
      → AtYard shape what old new → Stays shape old new
  looked what y turn at e many of_e =
      yard_holds_after shape what old new at e many many of_e (λ t. subst (λ (c : Counts). Balances t c many) (sym (own_counts-same place_of e y (seat_view old.yard) (seat_view new.yard) turn)))

  pub stays_on : AtYard shape (LooksOn place_of) old new → Stays shape old new
  stays_on at = looked (LooksOn place_of) at.done.found at.done.turn at

  pub stays_none_waits : (d : Drive) (turns : ℕ) → AtYard shape (NoneWaits place_of d turns) old new → Stays shape old new
  stays_none_waits d turns at = looked (NoneWaits place_of d turns) at.done.found at.done.turn at
