-- Slots that were placed stand where they may, and hold what was written.
use Rattle.std.proofs.Common.{◌≡◌, ℕ, zero, suc, ◌+◌, ◌*◌, ◌<◌, false, Bool, if◌then◌else◌, List, [], ◌∷◌, length, map, slice_index_or, Option, refl, sym, ap, subst, ◌∙◌, arith}
use Rattle.std.specs.List.{AllByRecursion}
use Rattle.std.proofs.lemmas.Bool.{and_parts}
use Rattle.std.proofs.lemmas.List.Elements.{recursion_from_All}
use Rattle.domains.specs.Drive.{Drive, is_in}
use Rattle.domains.specs.Place.{IsPlaceOf}
use Rattle.domains.specs.Room.{drives_on}
use Rattle.domains.specs.Shape.{Shape}
use Rattle.flex_io.specs.Slots.{Holds}
use Rattle.flex_io.specs.declared.raw_place.RawPlace.{RawPlace}
use Rattle.galois.specs.Codeword.{unit_at}
use Rattle.held_slots.specs.Slots.{place_from}
use Rattle.fabric.specs.declared.hand.Hand.{Hand}
use Rattle.placement_order.specs.Order.{DrawRequest}
use Rattle.placement_order.specs.OrderLaws.{MayGive}
use Rattle.placement_order.proofs.OrderMembers.{prefixes_may_give}
use Rattle.placement.specs.PlacedGroups.{spent_by}
use Rattle.slot_search.specs.HandSeats.{AreOfCluster, drives_at, drives_of_all}
use Rattle.striped_groups.specs.StoredGroups.{GroupSlots, HoldEach}
use Rattle.placed_runs.specs.PlacedRuns.{DrawsInode, IsFreshGroup, PlacesGroup, PlacesRun}
use Rattle.placed_runs.specs.Terms.{IsAskedFor}
use Rattle.placed_runs.specs.declared.terms.RunTerms.{RunTerms}
use Rattle.range_writes.specs.StandingRuns.{HoldBytes, HoldsData, StandsOnSlots}

none_used : (count node : ℕ) (used : Drive → Bool) → ((d : Drive) → used d ≡ false) → drives_on count node used ≡ 0
none_used zero node used none = refl
none_used (suc n) node used none =
    let rest = none_used n node used none in
    let here = ap {B = ℕ} (λ b. if b then 1 else 0) (none (record { node = node; drive = suc n })) in
    omega (arith, rest, here)

-- what holds at each position holds one by one
each_holds : {S : Type 0} (content : S → Option (List ℕ)) (xs : List S) (units : List (List ℕ)) → length xs ≡ length units
    → ((k : ℕ) (default : S) → k < length xs → Holds (content (slice_index_or xs k default)) (unit_at units k)) → HoldEach (map content xs) units
each_holds content [] [] many each = tt
each_holds content [] (u ∷ us) many each = absurd (omega (arith, many))
each_holds content (x ∷ xs) [] many each = absurd (omega (arith, many))
each_holds content (x ∷ xs) (u ∷ us) many each =
    (each 0 x (omega arith), each_holds content xs us (omega (arith, many)) (λ k default below. each (suc k) default (omega (arith, below))))

each_sized : {S : Type 0} (len_of : S → ℕ) (unit : ℕ) (xs : List S) (units : List (List ℕ)) → length xs ≡ length units
    → AllByRecursion (λ (u : List ℕ). length u ≡ unit) units
    → ((k : ℕ) (default : S) → k < length xs → len_of (slice_index_or xs k default) ≡ length (unit_at units k)) → AllByRecursion (λ (y : S). len_of y ≡ unit) xs
each_sized len_of unit [] units many lengths each = tt
each_sized len_of unit (x ∷ xs) [] many lengths each = absurd (omega (arith, many))
each_sized len_of unit (x ∷ xs) (u ∷ us) many lengths each =
    (each 0 x (omega arith) ∙ lengths.0, each_sized len_of unit xs us (omega (arith, many)) lengths.1 (λ k default below. each (suc k) default (omega (arith, below))))

module _ {S : Type 0} (place_of : S → RawPlace) (t : RunTerms) (shape : Shape) where
  stands : (spin n : ℕ) (s : DrawRequest) (spent : Drive → Bool) (g : GroupSlots S) → IsAskedFor t shape spin s → IsFreshGroup place_of n t.level.m g
      → MayGive s spent (drives_of_all place_of g.slots) → AreOfCluster place_of s.shape g.slots → length g.slots ≡ n + t.level.m → StandsOnSlots place_of t shape n g
  stands spin n s spent g asks fresh may places whole = record {
    group = fresh;
    places = subst (λ (c : Shape). AllByRecursion (λ (y : S). IsPlaceOf c (place_from (place_of y))) g.slots) asks.shape_is
        (recursion_from_All (λ (y : S). IsPlaceOf s.shape (place_from (place_of y))) g.slots places);
    usable = λ d there. sym (asks.usable d) ∙ (and_parts _ _ (may.left d there)).0;
    apart = may.apart;
    spread = λ node.
        let most = may.spread node in
        let none = none_used s.shape.drives node s.used asks.used in
        let k : s.level.k ≡ t.level.k = ap (λ v. v.k) asks.level in
        omega (arith, most, none, k);
    whole = whole;
  }

  -- the inode's slots
  pub inode_stands : (spin : ℕ) (inode : GroupSlots S) (old new : Hand S) → DrawsInode place_of t shape spin inode old new → StandsOnSlots place_of t shape 1 inode
  inode_stands spin inode old new draws =
      let found = is_in (drives_at draws.drawn.found) in
      let many = draws.drawn.many in
      stands spin 1 draws.request found inode draws.asks draws.group
      (subst (MayGive draws.request found) (sym draws.drawn.order) (prefixes_may_give draws.request found (t.level.m + 1)).1)
      draws.drawn.drew.places (omega (arith, many))

module _ {S : Type 0} (place_of : S → RawPlace) (content : S → Option (List ℕ)) (len_of faults : S → ℕ) (t : RunTerms) (shape : Shape) where
  -- a group's slots
  pub group_stands : (spin n : ℕ) (bytes : List ℕ) (g : GroupSlots S) (old new : Hand S) → PlacesGroup place_of content len_of faults t shape spin n bytes g old new
      → HoldsData place_of content len_of t shape n bytes g
  group_stands spin n bytes g old new placed =
      let made = placed.placed in record {
        stands = stands place_of t shape spin n placed.request (spent_by made.failed made.found) g placed.asks placed.group made.may
            (λ k default below. (made.written k default below).of_shape) (made.many ∙ placed.coded.codeword.count);
        holds = record {
          units = placed.units;
          codeword = placed.coded.codeword;
          lengths = placed.coded.lengths;
          joined = placed.coded.joined;
          held = each_holds content g.slots placed.units made.many (λ k default below. (made.written k default below).holds);
        };
        sized = each_sized len_of t.unit g.slots placed.units made.many placed.coded.lengths (λ k default below. (made.written k default below).len);
      }

  pub run_stands : (bytes chunks : List ℕ) (spin from : ℕ) (groups : List (GroupSlots S)) (inode : GroupSlots S) (old new : Hand S)
      → PlacesRun place_of content len_of faults t shape spin bytes from chunks groups inode old new
      → HoldBytes place_of content len_of t shape bytes from chunks groups × StandsOnSlots place_of t shape 1 inode
  run_stands bytes [] spin from [] inode old new run = (tt, inode_stands place_of t shape spin inode old new run)
  run_stands bytes [] spin from (g ∷ gs) inode old new run = absurd run
  run_stands bytes (n ∷ ns) spin from [] inode old new run = absurd run
  run_stands bytes (n ∷ ns) spin from (g ∷ gs) inode old new run =
      let rest = run_stands bytes ns (spin + 1) (from + n * t.unit) gs inode run.0 new run.2 in
      ((group_stands spin n _ g old run.0 run.1, rest.0), rest.1)
