-- How many of the free slots of a cluster's pools are on a drive.
use Rattle.std.proofs.Common.{◌≡◌, ℕ, zero, suc, ◌+◌, ◌*◌, ◌<◌, ◌≤◌, true, false, List, [], ◌∷◌, ◌++◌, length, Option, Some, slice_get, refl, sym, ap, subst, ◌∙◌, arith}
use Rattle.std.specs.List.{All, sum}
use Rattle.std.specs.Prelude.{unwrap_or}
use Rattle.std.proofs.lemmas.Bool.{false_from_ne_true}
use Rattle.std.proofs.lemmas.Option.{slice_get_within}
use Rattle.domains.specs.Counts.{one_if}
use Rattle.domains.specs.Drive.{Drive, same_drive}
use Rattle.domains.specs.Shape.{Shape, is_of}
use Rattle.domains.proofs.DriveLemmas.{same_drive-eq, same_drive-self}
use Rattle.flex_io.specs.declared.raw_place.RawPlace.{RawPlace}
use Rattle.held_slots.specs.Slots.{IsOn, count_on, is_on, place_from}
use Rattle.held_slots.proofs.SlotCounts.{count_on-append, count_on-cons, count_on-none}
use Rattle.fabric.specs.Cells.{place_in}
use Rattle.fabric.specs.ClosedFabric.{ArePoolsOf}
use Rattle.fabric.specs.declared.hand.Hand.{Hand}
use Rattle.slot_pool.specs.Pools.{IsPool, PoolView}
use Rattle.returned_slots.specs.FabricEnds.{HaveAllSlots}
use Rattle.returned_slots.specs.Returns.{free_slots}
use Rattle.returned_slots.proofs.PoolNumbers.{drive_at, place_within, same_place}

module _ {S : Type 0} (place_of : S → RawPlace) (shape : Shape) where
  -- the pool is that of a drive of the cluster, which has this place
  pub record IsPoolAt (place : ℕ) (p : PoolView S) : Type 0 where
    pub pool : IsPool place_of p
    pub of : is_of shape p.drive ≡ true
    pub place_is : place_in shape p.drive ≡ place

  -- the pools are those of the places from this one on
  abbrev ArePoolsFrom : ℕ → List (PoolView S) → Type 0
  ArePoolsFrom start [] = Unit {0}
  ArePoolsFrom start (p ∷ ps) = IsPoolAt start p × ArePoolsFrom (suc start) ps

  -- of slots of a drive all are on it
  all_on : (d : Drive) (slots : List S) (room : ℕ) → All (λ slot. IsOn d room (place_from (place_of slot))) slots → count_on place_of d slots ≡ length slots
  all_on d [] room each = refl
  all_on d (slot ∷ slots) room each =
      let first : IsOn d room (place_from (place_of slot)) = each 0 slot (omega arith) in
      let on : one_if (is_on place_of d slot) ≡ 1 = ap (λ (e : Drive). one_if (same_drive e d)) first.drive_is ∙ ap one_if (same_drive-self d) in
      let here = count_on-cons place_of d slot slots in
      let rest = all_on d slots room (λ k default l. each (suc k) default (omega (arith, l))) in
      let all : length (slot ∷ slots) ≡ length slots + 1 = omega arith in
      omega (arith, on, here, rest, all)

  -- and none on another
  none_on : (d e : Drive) (slots : List S) (room : ℕ) → same_drive e d ≡ false → All (λ slot. IsOn e room (place_from (place_of slot))) slots → count_on place_of d slots ≡ 0
  none_on d e slots room apart each =
      count_on-none place_of d slots (λ k default l. ap (λ (x : Drive). same_drive x d) (each k default l).drive_is ∙ apart)

  -- the pool of another place is that of another drive
  apart : (d : Drive) (p : PoolView S) (place : ℕ) → is_of shape d ≡ true → IsPoolAt place p → (place_in shape d ≡ place → ⊥) → same_drive p.drive d ≡ false
  apart d p place of is other =
      false_from_ne_true (same_drive p.drive d) (λ same. other (ap (place_in shape) (sym (same_drive-eq p.drive d same)) ∙ is.place_is))

  -- no pool of these is that of the drive
  none_free : (d : Drive) (start : ℕ) (pools : List (PoolView S)) → is_of shape d ≡ true → ArePoolsFrom start pools → place_in shape d < start → count_on place_of d (free_slots pools) ≡ 0
  none_free d start [] of are before = refl
  none_free d start (p ∷ ps) of are before =
      let here = none_on d p.drive p.free p.slots (apart d p start of are.0 (λ same. omega (arith, same, before))) are.0.pool.on in
      let rest = none_free d (suc start) ps of are.1 (omega (arith, before)) in
      let all = count_on-append place_of d p.free (free_slots ps) in
      omega (arith, here, rest, all)

  -- the free slots on a drive are those of its pool
  pub free_count : (d : Drive) (start : ℕ) (pools : List (PoolView S)) (i : ℕ) (p : PoolView S) → is_of shape d ≡ true → ArePoolsFrom start pools
      → slice_get pools i ≡ Some p → place_in shape d ≡ start + i → count_on place_of d (free_slots pools) ≡ length p.free
  free_count d start [] i p of are there place = absurd (let low = slice_get_within [] i p there in omega (arith, low))
  free_count d start (q ∷ ps) zero p of are there place =
      let same : q ≡ p = ap (λ (o : Option (PoolView S)). unwrap_or o q) there in
      let drive : q.drive ≡ d = same_place shape q.drive d are.0.of of (are.0.place_is ∙ (let here : start ≡ start + 0 = omega arith in here) ∙ sym place) in
      let here = all_on d q.free q.slots (subst (λ (e : Drive). All (λ slot. IsOn e q.slots (place_from (place_of slot))) q.free) drive are.0.pool.on) in
      let rest = none_free d (suc start) ps of are.1 (omega (arith, place)) in
      let all = count_on-append place_of d q.free (free_slots ps) in
      let free : length q.free ≡ length p.free = ap (λ (r : PoolView S). length r.free) same in
      omega (arith, here, rest, all, free)
  free_count d start (q ∷ ps) (suc i) p of are there place =
      let here = none_on d q.drive q.free q.slots (apart d q start of are.0 (λ same. omega (arith, same, place))) are.0.pool.on in
      let rest = free_count d (suc start) ps i p of are.1 there (omega (arith, place)) in
      let all = count_on-append place_of d q.free (free_slots ps) in
      omega (arith, here, rest, all)

  -- the pools of a closed fabric are those of all places
  pools_from : (hands : List (Hand S)) (pools : List (PoolView S)) → ArePoolsOf place_of shape hands pools
      → (start : ℕ) (rest : List (PoolView S)) → ((k : ℕ) (p : PoolView S) → slice_get rest k ≡ Some p → slice_get pools (start + k) ≡ Some p)
      → start + length rest ≤ shape.nodes * shape.drives → ArePoolsFrom start rest
  pools_from hands pools are start [] at within = tt
  pools_from hands pools are start (p ∷ ps) at within =
      let place = drive_at shape start (omega (arith, within)) in
      let there : slice_get pools (place_in shape place.drive) ≡ Some p =
      ap (slice_get pools) (place.place_is ∙ (let here : start ≡ start + 0 = omega arith in here)) ∙ at 0 p refl in
      let is = are.each place.drive p place.of there in (
        record {
          pool = is.closed.pool;
          of = ap (is_of shape) is.drive ∙ place.of;
          place_is = ap (place_in shape) is.drive ∙ place.place_is;
        },
        pools_from hands pools are (suc start) ps
            (λ k q rest. ap (slice_get pools) (let next : suc start + k ≡ start + suc k = omega arith in next) ∙ at (suc k) q rest) (omega (arith, within)),
      )

element_within : {A : Type 0} (xs : List A) (i : ℕ) → i < length xs → (x : A) × (slice_get xs i ≡ Some x)
element_within [] i within = absurd (omega (arith, within))
element_within (x ∷ xs) zero within = (x, refl)
element_within (x ∷ xs) (suc i) within = element_within xs i (omega (arith, within))

module _ {S : Type 0} (place_of : S → RawPlace) where
  pub have_all_slots : HaveAllSlots place_of
  have_all_slots shape hands pools waited retired are exact d held n of holding sum few =
      let low = place_within shape d of in
      let many = are.many in
      let at = element_within pools (place_in shape d) (omega (arith, low, many)) in
      let from = pools_from place_of shape hands pools are 0 pools (λ k p there. ap (slice_get pools) (let here : 0 + k ≡ k = omega arith in here) ∙ there) (omega (arith, many)) in
      let free = free_count place_of shape d 0 pools (place_in shape d) at.0 of from at.1 (omega arith) in
      let all = exact d at.0 held n of at.1 holding sum few in
      let outer = count_on-append place_of d (waited ++ retired) (free_slots pools) in
      let inner = count_on-append place_of d waited retired in
      omega (arith, free, all, outer, inner)
