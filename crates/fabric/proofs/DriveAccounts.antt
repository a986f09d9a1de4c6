-- What the turns that retire a drive change of the account of each drive: nothing.
use Rattle.std.proofs.Common.{◌≡◌, ℕ, ◌+◌, ◌-◌, true, false, List, [], length, refl, sym, ap, ◌∙◌, subst, inl, inr, arith}
use Rattle.std.proofs.lemmas.Bool.{cases_Bool}
use Rattle.std.proofs.lemmas.Option.{same_Some}
use Rattle.domains.specs.Shape.{Shape, is_of}
use Rattle.domains.specs.Drive.{Drive, same_drive}
use Rattle.flex_io.specs.declared.raw_place.RawPlace.{RawPlace}
use Rattle.slot_pool.specs.declared.tally.Tally.{Tally}
use Rattle.slot_pool.specs.Pools.{PoolView}
use Rattle.slot_pool.specs.Tallies.{took}
use Rattle.slot_yard.proofs.KnownCounts.{counts_retired}
use Rattle.domains.proofs.DriveLemmas.{same_drive-eq}
use Rattle.slot_yard.specs.declared.counts.Counts.{Counts}
use Rattle.slot_yard.specs.Queues.{queue_of}
use Rattle.slot_yard.specs.Tallies.{count_all, counts_of, tally_at}
use Rattle.slot_yard.specs.Yards.{IsYard, YardView, without_drive}
use Rattle.turn_cell.specs.Seats.{SeatView, seat_view}
use Rattle.fabric.specs.Accounts.{Balances, Stays, own_counts, own_tally}
use Rattle.fabric.specs.DriveTurns.{LooksOnBoth, RetiresAll}
use Rattle.fabric.specs.HandTurns.{AtBoth}
use Rattle.fabric.specs.Views.{seat_on}
use Rattle.fabric.specs.YardTurns.{YardTurn}
use Rattle.fabric.specs.declared.hand.Hand.{Hand}
use Rattle.fabric.proofs.PoolAccounts.{own_tally-counted, own_tally-same}
use Rattle.fabric.proofs.YardAccounts.{own_counts-other, own_counts-same}
use Rattle.fabric.proofs.YardTurnLemmas.{IsYard-turns}

-- what the hand took it retired
Balances-all : (t : Tally) (c : Counts) (held free waited many : ℕ) → many ≡ free + waited → Balances t c held → Balances (took free t) (count_all (many - free) many c) held
Balances-all t c held free waited many many_are old = omega (arith, old, many_are)

module _ {S : Type 0} (place_of : S → RawPlace) where
  -- what the turn at the yard counts for its seat, of the drive
  own_counts-retired : (d : Drive) (free : List S) (many : ℕ) (y : YardView S) (old new : SeatView (YardView S)) → many ≡ length free + length (queue_of d y.waiting)
      → YardTurn (without_drive d free) y old new → IsYard place_of new.last → is_of old.last.shape d ≡ true
      → own_counts d new ≡ count_all (many - length free) many (own_counts d old)
  own_counts-retired d free many y old new many_are turn is of =
      let left_yard : IsYard place_of (without_drive d free (record y { seat = old.number })) =
      IsYard-turns place_of (record (without_drive d free (record y { seat = old.number })) { turns = y.turns + 1 }) y.turns
      (subst (λ (v : SeatView (YardView S)). IsYard place_of v.last) turn.now is) in
      ap (λ v. counts_of d (tally_at v.last.tallies v.number)) turn.now
      ∙ counts_retired place_of d free many old.last y (record y { seat = old.number }) (without_drive d free (record y { seat = old.number })) old.number
      turn.follows.tally refl many_are refl left_yard (ap (λ shape. is_of shape d) turn.follows.fixed ∙ of)

  module _ (shape : Shape) (d : Drive) (old new : Hand S) (what : SeatView (PoolView S) → SeatView (PoolView S) → SeatView (YardView S) → SeatView (YardView S) → Type 0)
      (at : AtBoth shape d what old new) where
    -- turns of both seats that keep the balance of each drive
    stays_both : ((many : ℕ) → Balances (own_tally at.before) (own_counts d (seat_view old.yard)) many → Balances (own_tally at.after) (own_counts d (seat_view new.yard)) many)
        → ((e : Drive) → is_of shape e ≡ true → same_drive e d ≡ false → own_counts e (seat_view new.yard) ≡ own_counts e (seat_view old.yard)) → Stays shape old new
    stays_both here apart e many of holds =
        elim (cases_Bool (same_drive e d)) [
          | inl same ↦ (
              let is : e ≡ d = same_drive-eq e d same in
              let pool_is : at.before ≡ holds.pool = same_Some at.before holds.pool (sym at.before_is ∙ (ap (seat_on shape old) (sym is) ∙ holds.pool_is)) in
              let sum : Balances (own_tally at.before) (own_counts d (seat_view old.yard)) many =
              subst (λ (x : Drive). Balances (own_tally at.before) (own_counts x (seat_view old.yard)) many) is
              (subst (λ (pool : SeatView (PoolView S)). Balances (own_tally pool) (own_counts e (seat_view old.yard)) many) (sym pool_is) holds.sum) in
              record {
                pool = at.after;
                pool_is = ap (seat_on shape new) is ∙ at.after_is;
                sum = subst (λ (x : Drive). Balances (own_tally at.after) (own_counts x (seat_view new.yard)) many) (sym is) (here many sum);
              }
              )
          | inr other ↦ record {
            pool = holds.pool;
            pool_is = at.others e of other ∙ holds.pool_is;
            sum = subst (λ (c : Counts). Balances (own_tally holds.pool) c many) (sym (apart e of other)) holds.sum;
          }
        ]

  module _ (shape : Shape) (d : Drive) (old new : Hand S) where
    -- the slots go from the pool and the yard to the retired ones, and none through the hand
    pub stays_retired : (many : ℕ) → is_of shape d ≡ true → (seat_view old.yard).last.shape ≡ shape → AtBoth shape d (RetiresAll place_of d many) old new → Stays shape old new
    stays_retired many of knows at =
        let done = at.done in
        let of_yard : (e : Drive) → is_of shape e ≡ true → is_of (seat_view old.yard).last.shape e ≡ true = λ e of. ap (λ shape. is_of shape e) knows ∙ of in
        let free = length done.pool.free in
        let waited = length (queue_of d done.yard.waiting) in
        let tally = own_tally-counted place_of (took free) [] done.pool at.before at.after done.pool_turn done.is_pool in
        let counts = own_counts-retired d done.pool.free many done.yard (seat_view old.yard) (seat_view new.yard) done.many_are done.yard_turn done.is_yard (of_yard d of) in
        stays_both shape d old new (RetiresAll place_of d many) at
        (λ held sum.
        subst (λ (t : Tally). Balances t (own_counts d (seat_view new.yard)) held) (sym tally)
        (subst (λ (c : Counts). Balances (took free (own_tally at.before)) c held) (sym counts)
        (Balances-all (own_tally at.before) (own_counts d (seat_view old.yard)) held free waited many done.many_are sum)))
        (λ e of_e other. own_counts-other place_of (count_all waited (free + waited)) d e _ _ done.yard (seat_view old.yard) (seat_view new.yard)
        (record { turns = done.yard_turn.turns; follows = done.yard_turn.follows; lone = done.yard_turn.lone; now = done.yard_turn.now }) done.is_yard (of_yard d of) (of_yard e of_e) other)

    pub stays_both_on : AtBoth shape d (LooksOnBoth place_of) old new → Stays shape old new
    stays_both_on at =
        let done = at.done in
        let counts : (e : Drive) → own_counts e (seat_view new.yard) ≡ own_counts e (seat_view old.yard) =
        λ e. own_counts-same place_of e done.yard (seat_view old.yard) (seat_view new.yard) done.yard_turn in
        stays_both shape d old new (LooksOnBoth place_of) at
        (λ many sum.
        subst (λ (t : Tally). Balances t (own_counts d (seat_view new.yard)) many) (sym (own_tally-same done.pool at.before at.after done.pool_turn))
        (subst (λ (c : Counts). Balances (own_tally at.before) c many) (sym (counts d)) sum))
        (λ e of_e other. counts e)
