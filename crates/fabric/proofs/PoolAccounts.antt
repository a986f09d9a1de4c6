-- What a turn changes of the account of each drive.
use Rattle.std.proofs.Common.{◌≡◌, ℕ, ◌+◌, ◌<◌, true, false, List, length, refl, sym, ap, ◌∙◌, subst, inl, inr, arith}
use Rattle.std.specs.Prelude.{slice_index}
use Rattle.std.proofs.lemmas.Bool.{cases_Bool}
use Rattle.std.proofs.lemmas.Grind.{get_or-set_at}
use Rattle.std.proofs.lemmas.List.{length-set}
use Rattle.std.proofs.lemmas.Option.{same_Some}
use Rattle.domains.specs.Counts.{one_if}
use Rattle.domains.specs.Shape.{Shape, is_of}
use Rattle.domains.specs.Drive.{Drive, same_drive}
use Rattle.flex_io.specs.declared.raw_place.RawPlace.{RawPlace}
use Rattle.slot_pool.specs.declared.tally.Tally.{Tally}
use Rattle.slot_pool.specs.Pools.{PoolView, IsPool, counted}
use Rattle.slot_pool.specs.Tallies.{gave, found_none, no_tally, numbers_of, tally_at, took, with_tally}
use Rattle.domains.proofs.DriveLemmas.{same_drive-eq}
use Rattle.slot_yard.specs.declared.counts.Counts.{Counts}
use Rattle.slot_yard.specs.declared.counts.Move.TheVariants.{Put, Take, Retire}
use Rattle.slot_yard.specs.Tallies.{count_one}
use Rattle.turn_cell.specs.Seats.{SeatView, seat_view}
use Rattle.fabric.specs.Accounts.{Balances, Gains, Holds, Loses, Stays, own_counts, own_tally}
use Rattle.fabric.specs.PoolTurns.{FindsAll, FindsNone, Gives, Looks, PoolTurn, Takes}
use Rattle.fabric.specs.HandTurns.{AtPool}
use Rattle.fabric.specs.Views.{seat_on}
use Rattle.fabric.specs.declared.hand.Hand.{Hand}

-- the balance, once a slot was moved: taken from the pool, given to it, put into the yard, taken from it, retired
Balances-took : (t : Tally) (c : Counts) (many : ℕ) → Balances t c many → Balances (took 1 t) c (many + 1)
Balances-took t c many old = omega (arith, old)

Balances-gave : (t : Tally) (c : Counts) (many : ℕ) → Balances t c (many + 1) → Balances (gave t) c many
Balances-gave t c many old = omega (arith, old)

pub Balances-put : (t : Tally) (c : Counts) (many : ℕ) → Balances t c (many + 1) → Balances t (count_one Put c) many
Balances-put t c many old = omega (arith, old)

pub Balances-take : (t : Tally) (c : Counts) (many : ℕ) → Balances t c many → Balances t (count_one Take c) (many + 1)
Balances-take t c many old = omega (arith, old)

pub Balances-retire : (t : Tally) (c : Counts) (many : ℕ) → Balances t c (many + 1) → Balances t (count_one Retire c) many
Balances-retire t c many old = omega (arith, old)

-- tallies with the same numbers are one
same_tally : (s t : Tally) → numbers_of s ≡ numbers_of t → s ≡ t
same_tally s t same =
    let taken : s.taken ≡ t.taken = ap (λ l. slice_index l 0) same in
    let given : s.given ≡ t.given = ap (λ l. slice_index l 1) same in
    let empties : s.empties ≡ t.empties = ap (λ l. slice_index l 2) same in
    let drawn : s.drawn ≡ t.drawn = ap (λ l. slice_index l 3) same in
    λ i. record { taken = taken i; given = given i; empties = empties i; drawn = drawn i }

module _ {S : Type 0} where
  -- what a turn counts for its seat
  pub own_tally-counted : (place_of : S → RawPlace) (how : Tally → Tally) (free : List S) (p : PoolView S) (old new : SeatView (PoolView S))
      → PoolTurn (counted how free) p old new → IsPool place_of new.last → own_tally new ≡ how (own_tally old)
  own_tally-counted place_of how free p old new turn is =
      let number = old.number in
      let tallies : new.last.tallies ≡ with_tally number how p.tallies = ap (λ v. v.last.tallies) turn.now in
      let seat : new.last.seat ≡ number = ap (λ v. v.last.seat) turn.now in
      let few = is.seat in
      let all = is.seats in
      let long = ap length tallies ∙ length-set p.tallies number (how (tally_at p.tallies number)) in
      let within : number < length p.tallies = omega (arith, seat, few, all, long) in
      ap (λ v. tally_at v.last.tallies v.number) turn.now
      ∙ (get_or-set_at p.tallies number number (how (tally_at p.tallies number)) no_tally refl within
      ∙ ap how (same_tally _ _ turn.follows.tally))

  -- and where it counts nothing
  pub own_tally-same : (p : PoolView S) (old new : SeatView (PoolView S)) → PoolTurn (λ p. p) p old new → own_tally new ≡ own_tally old
  own_tally-same p old new turn = ap (λ v. tally_at v.last.tallies v.number) turn.now ∙ same_tally _ _ turn.follows.tally

  -- how many slots the hand holds of a drive, after a turn at a pool
  holds_after : (shape : Shape) (d : Drive) (what : SeatView (PoolView S) → SeatView (PoolView S) → Type 0) (old new : Hand S) → AtPool shape d what old new
      → (e : Drive) (m n : ℕ) → is_of shape e ≡ true
      → (same_drive e d ≡ true → (before after : SeatView (PoolView S)) → what before after → (c : Counts) → Balances (own_tally before) c m → Balances (own_tally after) c n)
      → (same_drive e d ≡ false → m ≡ n) → Holds shape e m old → Holds shape e n new
  holds_after shape d what old new at e m n of here apart holds =
      elim (cases_Bool (same_drive e d)) [
        | inl same ↦ (
            let is : e ≡ d = same_drive-eq e d same in
            let pool_is : at.before ≡ holds.pool = same_Some at.before holds.pool (sym at.before_is ∙ (ap (seat_on shape old) (sym is) ∙ holds.pool_is)) in
            let counts = own_counts e (seat_view old.yard) in
            let sum : Balances (own_tally at.before) counts m = subst (λ (pool : SeatView (PoolView S)). Balances (own_tally pool) counts m) (sym pool_is) holds.sum in
            record {
              pool = at.after;
              pool_is = ap (seat_on shape new) is ∙ at.after_is;
              sum = subst (λ (yard : SeatView _). Balances (own_tally at.after) (own_counts e yard) n) (sym at.yard) (here same at.before at.after at.done counts sum);
            }
            )
        | inr other ↦ record {
          pool = holds.pool;
          pool_is = at.others e of other ∙ holds.pool_is;
          sum = subst (λ (yard : SeatView _). Balances (own_tally holds.pool) (own_counts e yard) n) (sym at.yard)
              (subst (λ (n : ℕ). Balances (own_tally holds.pool) (own_counts e (seat_view old.yard)) n) (apart other) holds.sum);
        }
      ]

  module _ (place_of : S → RawPlace) (shape : Shape) (d : Drive) (old new : Hand S) where
    -- one slot counts for its drive, and for no other
    one_here : (e : Drive) → same_drive e d ≡ true → one_if (same_drive e d) ≡ 1
    one_here e same = ap one_if same

    none_apart : (e : Drive) → same_drive e d ≡ false → one_if (same_drive e d) ≡ 0
    none_apart e other = ap one_if other

    -- what the hand holds after each kind of turn
    pub gains_taken : (held : S) → AtPool shape d (Takes place_of held) old new → Gains shape d old new
    gains_taken held at e many of =
        holds_after shape d (Takes place_of held) old new at e many (many + one_if (same_drive e d)) of
        (λ same before after takes c sum.
        let one = one_here e same in
        subst (λ (n : ℕ). Balances (own_tally after) c (many + n)) (sym one)
        (subst (λ (t : Tally). Balances t c (many + 1)) (sym (own_tally-counted place_of (took 1) takes.rest takes.found before after takes.turn takes.pool))
        (Balances-took (own_tally before) c many sum)))
        (λ other. let none = none_apart e other in omega (arith, none))

    pub loses_given : (held : S) → AtPool shape d (Gives place_of held) old new → Loses shape d old new
    loses_given held at e many of =
        holds_after shape d (Gives place_of held) old new at e (many + one_if (same_drive e d)) many of
        (λ same before after gives c sum.
        let one = one_here e same in
        subst (λ (t : Tally). Balances t c many) (sym (own_tally-counted place_of gave _ gives.found before after gives.turn gives.pool))
        (Balances-gave (own_tally before) c many (subst (λ (n : ℕ). Balances (own_tally before) c (many + n)) one sum)))
        (λ other. let none = none_apart e other in omega (arith, none))

    -- a turn that takes and gives no slot
    stays_same : (what : SeatView (PoolView S) → SeatView (PoolView S) → Type 0)
        → ((before after : SeatView (PoolView S)) → what before after → (c : Counts) (many : ℕ) → Balances (own_tally before) c many → Balances (own_tally after) c many)
        → AtPool shape d what old new → Stays shape old new
    stays_same what same at e many of = holds_after shape d what old new at e many many of (λ here before after done c. same before after done c many) (λ other. refl)

    pub stays_none : (turns : ℕ) → AtPool shape d (FindsNone place_of turns) old new → Stays shape old new
    stays_none turns = stays_same (FindsNone place_of turns)
        (λ before after finds c many. subst (λ (t : Tally). Balances t c many) (sym (own_tally-counted place_of found_none _ finds.found before after finds.turn finds.pool)))

    pub stays_full : AtPool shape d (FindsAll place_of) old new → Stays shape old new
    stays_full = stays_same (FindsAll place_of)
        (λ before after finds c many. subst (λ (t : Tally). Balances t c many) (sym (own_tally-same finds.found before after finds.turn)))

    pub stays_looked : (free : ℕ) → AtPool shape d (Looks place_of free) old new → Stays shape old new
    stays_looked free = stays_same (Looks place_of free)
        (λ before after looks c many. subst (λ (t : Tally). Balances t c many) (sym (own_tally-same looks.found before after looks.turn)))
