-- Changes: their new places, and what comes back.
use Rattle.std.proofs.Common.{◌≡◌, ℕ, ◌-◌, min, false, arith, List, [], ◌∷◌, ◌++◌, length, map, take, drop, Option, None, Some, inl, inr, refl, sym, ap, subst, ◌∙◌}
use Rattle.std.specs.List.{AllByRecursion, list_any}
use Rattle.std.specs.BTreeSet.{BTreeSet}
use Rattle.std.proofs.lemmas.Bool.{cases_lt, or_from, or_parts}
use Rattle.std.proofs.lemmas.List.{drop_all, length-drop, take_all}
use Rattle.std.proofs.lemmas.Simd.{map-map}
use Rattle.flex_io.specs.declared.raw_place.RawPlace.{RawPlace}
use Rattle.domains.specs.Place.{IsPlace, Place, same_place}
use Rattle.domains.proofs.DriveLemmas.{same_place-sym}
use Rattle.domains.specs.Level.{Level}
use Rattle.domains.specs.declared.group.Group.{Group}
use Rattle.held_slots.specs.Slots.{place_from, places_from}
use Rattle.file_history.specs.Layout.{Layout, all_groups, group_list, is_taken, places_of}
use Rattle.map_changes.specs.ChangedMaps.{AreFree}
use Rattle.map_changes.proofs.Pairs.{Cross, Cross-turned}
use Rattle.map_changes.proofs.ChangedPlaces.{apart_all, places_of-append}
use Rattle.stale_changes.specs.PlaceMarks.{AreMarked, is_marked}
use Rattle.map_switches.specs.declared.change.MapChange.{MapChange}
use Rattle.stale_changes.specs.declared.basis.Basis.{Basis}
use Rattle.stale_changes.specs.declared.stale.Stale.{Stale}
use Rattle.stale_changes.specs.declared.stale.Stale.TheVariants.{NoMemory}
use Rattle.map_switches.specs.Switches.{IsRefusal, IsSlotFault, last_generation}

none_there : (s : Place) (ts : List Place) → AllByRecursion (λ (t : Place). same_place s t ≡ false) ts → list_any (same_place s) ts ≡ false
none_there s [] all = refl
none_there s (t ∷ ts) all = or_from (same_place s t) (list_any (same_place s) ts) all.0 (none_there s ts all.1)

-- unmarked places are apart from those that were marked
marked_apart : (ts ss : List Place) (before marks : BTreeSet ℕ) → AllByRecursion IsPlace ts → AreMarked ss before marks
    → AllByRecursion (λ (t : Place). is_marked marks t ≡ false) ts → Cross ts ss (λ t s. same_place t s ≡ false)
marked_apart [] ss before marks are marked none = tt
marked_apart (t ∷ ts) ss before marks are marked none = (
  apart_all t ss (or_parts (list_any (same_place t) ss) (is_marked before t) (sym (marked.marked t are.0) ∙ none.0)).0,
  marked_apart ts ss before marks are.1 marked none.1,
)

-- places that were marked are free where no taken one is marked
pub free_of : (l : Layout) (ss taken : List Place) (before marks : BTreeSet ℕ) → taken ≡ places_of (all_groups l) → AllByRecursion IsPlace taken → AreMarked ss before marks
    → AllByRecursion (λ (t : Place). is_marked marks t ≡ false) taken → AreFree l ss
free_of l ss taken before marks same are marked none = record {
  free = each ss (Cross-turned taken ss (λ t s. same_place t s ≡ false) (λ s t. same_place s t ≡ false) (λ t s apart. same_place-sym s t ∙ apart) (marked_apart taken ss before marks are marked none));
  distinct = marked.were_new.distinct;
}
  where
    each : (ss : List Place) → Cross ss taken (λ s t. same_place s t ≡ false) → AllByRecursion (λ (s : Place). is_taken (all_groups l) s ≡ false) ss
    each [] all = tt
    each (s ∷ ss) all = (subst (λ (ts : List Place). list_any (same_place s) ts ≡ false) same (none_there s taken all.0), each ss all.1)

-- what stands behind an index that may be past the end
pub behind : {A : Type 0} (xs : List A) (at index : ℕ) → index ≡ min at (length xs) → take (length xs - index) (drop index xs) ≡ drop at xs
behind xs at index is =
    let long = length-drop index xs in
    take_all (length xs - index) (drop index xs) (omega (arith, long))
    ∙ elim (cases_lt at (length xs)) [
      | inl early ↦ ap (λ (n : ℕ). drop n xs) (omega (arith, is, early))
      | inr past ↦ drop_all index xs (omega (arith, is, past)) ∙ sym (drop_all at xs past)
    ]

-- the generation of the last group, and what is compared with it
pub basis_is : (unit units end : ℕ) (level : Level) (gs hs : List Group) → gs ≡ hs
    → (let made : Basis = record { unit = unit; last = last_generation gs; units = units; level = level; end = end } in made)
    ≡ (let made : Basis = record { unit = unit; last = last_generation hs; units = units; level = level; end = end } in made)
basis_is unit units end level gs hs same =
    ap (λ (xs : List Group). let made : Basis = record { unit = unit; last = last_generation xs; units = units; level = level; end = end } in made) same

-- the places of a file's groups and inode
pub places_held : (gs root : List Group) (l : Layout) → gs ≡ l.groups → root ≡ group_list l.inode → places_of gs ++ places_of root ≡ places_of (all_groups l)
places_held gs root l groups inode =
    ap (λ (x : List Group × List Group). places_of x.0 ++ places_of x.1) (λ i. (groups i, inode i)) ∙ sym (places_of-append l.groups (group_list l.inode))

module _ {S : Type 0} (place_of : S → RawPlace) (faults : S → ℕ) where
  -- the change, with these slots of its inode
  abbrev pub with_slots : MapChange S → List S → MapChange S
  with_slots change slots = record change { inode = record { group = change.inode.group; slots = slots } }

  pub same_places : (xs ys : List S) → map place_of xs ≡ map place_of ys → places_from place_of xs ≡ places_from place_of ys
  same_places xs ys same = sym (map-map place_from place_of xs) ∙ ap (map place_from) same ∙ map-map place_from place_of ys

  no_memory : (xs ys : List S) (at : ℕ) → map place_of xs ≡ map place_of ys → IsSlotFault faults ys xs at NoMemory
  no_memory xs [] at same = refl
  no_memory [] (y ∷ ys) at same = refl
  no_memory (x ∷ xs) (y ∷ ys) at same = inl tt

  -- want of memory refuses a change whose inode may have been written
  pub refused_memory : (change : MapChange S) (slots : List S) → map place_of slots ≡ map place_of change.inode.slots
      → IsRefusal place_of faults None change NoMemory (with_slots change slots)
  refused_memory change slots same = (record { same = refl; places = same }, no_memory slots change.inode.slots 0 same)

  pub refused_same : (change : MapChange S) → IsRefusal place_of faults None change NoMemory change
  refused_same change = refused_memory change change.inode.slots refl

  -- want of memory refuses a change that no entry or any entry stands against
  pub refused_early : (cause : Option Stale) (change : MapChange S) → IsRefusal place_of faults cause change NoMemory change
  refused_early None change = refused_same change
  refused_early (Some cause) change = (inr refl, refl)
