-- From slots by position to places.
use Rattle.std.proofs.Common.{◌≡◌, ℕ, false, List, [], ◌∷◌, ◌++◌, map, Option, Some, None, IfSome, IsSome, replicate, refl, sym, ap, subst, ◌∙◌, append_assoc}
use Rattle.std.specs.List.{AllByRecursion, flat_map}
use Rattle.std.proofs.lemmas.List.{map-append}
use Rattle.std.proofs.lemmas.Bool.{cond-true, cond-false, false≢true}
use Rattle.flex_io.specs.declared.raw_place.RawPlace.{RawPlace}
use Rattle.flex_io.specs.Slots.{Holds}
use Rattle.domains.specs.Place.{Place, same_place}
use Rattle.domains.specs.Shape.{Shape}
use Rattle.domains.specs.declared.group.Group.{Group}
use Rattle.domains.proofs.DriveLemmas.{same_place-self}
use Rattle.held_slots.specs.Slots.{place_from, places_from}
use Rattle.inode_codec.specs.Inode.{inode_bytes}
use Rattle.file_history.specs.Layout.{Layout, all_groups, group_list, places_of}
use Rattle.file_history.specs.Step.{AreDistinct}
use Rattle.file_history.specs.Stored.{IsStored, HoldsGroups, AreHeld, SpellsInode, inode_of}
use Rattle.file_history.proofs.DeterminedByLiveUnits.{all_left, all_right, determined}
use Rattle.file_history.proofs.KnownContents.{AllTold, told_stored}
use Rattle.file_history.proofs.RootedLayouts.{layout_rooted}
use Rattle.striped_groups.specs.StoredGroups.{AllTell, Content, GroupSlots, StoredGroup, StandsThere, HoldEach, HoldRun, SpellIn, stored_group, list_of}
use Rattle.file_core.specs.FileInvariant.{KeepsSlots}
use Rattle.file_core.specs.FileView.{layout_of, log_of}
use Rattle.file_core.specs.StoredPlaces.{LiveSlotsDetermine, PlacesHoldTheFile, content_at, slots_of, told_bytes}

abbrev head_or : {A : Type 0} → A → List A → A
head_or d [] = d
head_or d (x ∷ xs) = x

abbrev rest_of : {A : Type 0} → List A → List A
rest_of [] = []
rest_of (x ∷ xs) = xs

places_of-append : (xs ys : List Group) → places_of (xs ++ ys) ≡ places_of xs ++ places_of ys
places_of-append [] ys = refl
places_of-append (g ∷ gs) ys = ap (λ (l : List Place). g.places ++ l) (places_of-append gs ys) ∙ sym (append_assoc g.places (places_of gs) (places_of ys))

module _ {S : Type 0} (place_of : S → RawPlace) (content : S → Option (List ℕ)) (len_of : S → ℕ) where
  abbrev at : S → Place
  at x = place_from (place_of x)

  abbrev stored : GroupSlots S → StoredGroup
  stored = stored_group place_of content len_of

  abbrev flat : List (GroupSlots S) → List S
  flat gs = flat_map (λ (g : GroupSlots S). g.slots) gs

  -- each of the slots is the first among all at its place
  abbrev Found : List S → List S → Type 0
  Found all slots = AllByRecursion (λ (y : S). content_at place_of content all (at y) ≡ content y) slots

  found_behind : (x : S) (xs ys : List S) → AllByRecursion (λ (t : Place). same_place (at x) t ≡ false) (places_from place_of ys) → Found xs ys → Found (x ∷ xs) ys
  found_behind x xs [] apart found = tt
  found_behind x xs (y ∷ ys) apart found = (
    cond-false (same_place (at x) (at y)) (content x) (content_at place_of content xs (at y)) apart.0 ∙ found.0,
    found_behind x xs ys apart.1 found.1,
  )

  all_found : (xs : List S) → AreDistinct (places_from place_of xs) → Found xs xs
  all_found [] distinct = tt
  all_found (x ∷ xs) distinct = (
    cond-true (same_place (at x) (at x)) (content x) (content_at place_of content xs (at x)) (same_place-self (at x)),
    found_behind x xs xs distinct.0 (all_found xs distinct.1),
  )

  held_each : (all slots : List S) (units : List (List ℕ)) → Found all slots → HoldEach (map content slots) units
      → AreHeld (places_from place_of slots) units (content_at place_of content all)
  held_each all [] [] found hold = tt
  held_each all [] (u ∷ us) found hold = absurd hold
  held_each all (x ∷ xs) [] found hold = absurd hold
  held_each all (x ∷ xs) (u ∷ us) found hold =
      (subst (λ (c : Option (List ℕ)). IfSome c (λ content. content ≡ u)) (sym found.0) hold.0, held_each all xs us found.1 hold.1)

  held_run : (all : List S) (gs : List Group) (xs : List (GroupSlots S)) (bytes : List ℕ) (unit : ℕ)
      → map (λ (g : StoredGroup). g.group) (map stored xs) ≡ gs → AllByRecursion StandsThere (map stored xs) → Found all (flat xs)
      → HoldRun (map stored xs) bytes unit → HoldsGroups gs bytes unit (content_at place_of content all)
  held_run all gs xs bytes unit mapped stands found run =
      subst (λ (gs : List Group). HoldsGroups gs bytes unit (content_at place_of content all)) mapped (each xs bytes stands found run)
    where
      each : (xs : List (GroupSlots S)) (bytes : List ℕ) → AllByRecursion StandsThere (map stored xs) → Found all (flat xs)
          → HoldRun (map stored xs) bytes unit → HoldsGroups (map (λ (g : StoredGroup). g.group) (map stored xs)) bytes unit (content_at place_of content all)
      each [] bytes stands found run = run
      each (x ∷ xs) bytes stands found run =
          let holds = run.3 in (
            run.0,
            run.1,
            run.2,
            record {
              units = holds.units;
              codeword = holds.codeword;
              lengths = holds.lengths;
              joined = holds.joined;
              places = subst (λ (ss : List Place). AreHeld ss holds.units (content_at place_of content all)) stands.0.places
                  (held_each all x.slots holds.units (all_left (λ (y : S). content_at place_of content all (at y) ≡ content y) x.slots (flat xs) found) holds.held);
            },
            each xs run.1 stands.1 (all_right (λ (y : S). content_at place_of content all (at y) ≡ content y) x.slots (flat xs) found) run.4,
          )

  spelled : (all slots : List S) (bytes : List ℕ) → Found all slots → AllByRecursion (λ (x : Content). Holds x bytes) (map content slots)
      → AllByRecursion (λ (s : Place). IfSome (content_at place_of content all s) (λ content. content ≡ bytes)) (places_from place_of slots)
  spelled all [] bytes found each = tt
  spelled all (x ∷ xs) bytes found each =
      (subst (λ (c : Option (List ℕ)). IfSome c (λ content. content ≡ bytes)) (sym found.0) each.0, spelled all xs bytes found.1 each.1)

  root_spelled : (unit : ℕ) (l : Layout) (all : List S) (xs : List (GroupSlots S)) → AllByRecursion StandsThere (map stored xs) → Found all (flat xs)
      → AllByRecursion (λ (g : StoredGroup). SpellIn (inode_of unit l) g.contents) (map stored xs)
      → AllByRecursion (SpellsInode (content_at place_of content all) unit l) (map (λ (g : StoredGroup). g.group) (map stored xs))
  root_spelled unit l all [] stands found spell = tt
  root_spelled unit l all (x ∷ xs) stands found spell = (
    record {
      valid = spell.0.valid;
      places = subst (λ (ss : List Place). AllByRecursion (λ (s : Place). IfSome (content_at place_of content all s) (λ content. content ≡ inode_bytes (inode_of unit l))) ss) stands.0.places
          (spelled all x.slots (inode_bytes (inode_of unit l)) (all_left (λ (y : S). content_at place_of content all (at y) ≡ content y) x.slots (flat xs) found) spell.0.held);
    },
    root_spelled unit l all xs stands.1 (all_right (λ (y : S). content_at place_of content all (at y) ≡ content y) x.slots (flat xs) found) spell.1,
  )

  -- the places of the slots are those of the groups
  flat_places : (xs : List (GroupSlots S)) → AllByRecursion StandsThere (map stored xs)
      → places_from place_of (flat xs) ≡ places_of (map (λ (g : StoredGroup). g.group) (map stored xs))
  flat_places [] stands = refl
  flat_places (x ∷ xs) stands =
      map-append at x.slots (flat xs)
      ∙ ap (λ (l : List Place). l ++ places_from place_of (flat xs)) stands.0.places ∙ ap (λ (l : List Place). x.group.places ++ l) (flat_places xs stands.1)

  module _ (shape : Shape) (l : Layout) (bytes : List ℕ) (xs ys : List (GroupSlots S)) (kept : KeepsSlots shape l bytes (map stored xs) (map stored ys)) where
    all_places : places_of (all_groups l) ≡ places_from place_of (flat xs ++ flat ys)
    all_places =
        places_of-append l.groups (group_list l.inode)
        ∙ (λ i. places_of (sym kept.mapped i) ++ places_of (sym kept.root i))
        ∙ (λ i. sym (flat_places xs kept.stands) i ++ sym (flat_places ys kept.root_stands) i)
        ∙ sym (map-append at (flat xs) (flat ys))

    found : Found (flat xs ++ flat ys) (flat xs ++ flat ys)
    found = all_found (flat xs ++ flat ys) (subst AreDistinct all_places kept.distinct)

    pub holds_file : IsStored (content_at place_of content (flat xs ++ flat ys)) shape.unit l bytes
    holds_file =
        let each : S → Type 0 = λ y. content_at place_of content (flat xs ++ flat ys) (at y) ≡ content y in record {
          inode = subst (AllByRecursion (SpellsInode (content_at place_of content (flat xs ++ flat ys)) shape.unit l)) kept.root
              (root_spelled shape.unit l (flat xs ++ flat ys) ys kept.root_stands (all_right each (flat xs) (flat ys) found) kept.spelled);
          size = kept.size;
          zeros = kept.zeros;
          groups = held_run (flat xs ++ flat ys) l.groups xs (bytes ++ replicate kept.zeros 0) shape.unit kept.mapped kept.stands (all_left each (flat xs) (flat ys) found) kept.run;
        }

    told_is : (o : Option (List ℕ)) → IsSome o → o ≡ Some (told_bytes o)
    told_is None told = absurd (false≢true told)
    told_is (Some t) told = refl

    told_places : AllTell content → (slots : List S) → Found (flat xs ++ flat ys) slots
        → AllTold (content_at place_of content (flat xs ++ flat ys)) (λ s. told_bytes (content_at place_of content (flat xs ++ flat ys) s)) (places_from place_of slots)
    told_places tell [] found = tt
    told_places tell (x ∷ zs) found = (told_is _ (subst IsSome (sym found.0) (tell x)), told_places tell zs found.1)

    pub all_told : AllTell content → AllTold (content_at place_of content (flat xs ++ flat ys)) (λ s. told_bytes (content_at place_of content (flat xs ++ flat ys) s)) (places_of (all_groups l))
    all_told tell = subst (AllTold (content_at place_of content (flat xs ++ flat ys)) (λ s. told_bytes (content_at place_of content (flat xs ++ flat ys) s))) (sym all_places) (told_places tell (flat xs ++ flat ys) found)

  pub places_hold_the_file : PlacesHoldTheFile place_of content len_of
  places_hold_the_file f is = holds_file f.shape (layout_of f) _ f.groups (list_of f.inode) is.slots

  pub live_slots_determine : LiveSlotsDetermine place_of content len_of
  live_slots_determine f view is tell enough =
      let l = layout_of f in
      let tells = content_at place_of content (slots_of f) in
      let T : Place → Type 0 = λ s. tells s ≡ Some (told_bytes (tells s)) in
      let told = subst (AllByRecursion T) (places_of-append l.groups (group_list l.inode)) (all_told f.shape l _ f.groups (list_of f.inode) is.slots tell) in
      determined _ (λ s. told_bytes (tells s)) l _ (layout_rooted f.level (log_of f))
      (told_stored tells (λ s. told_bytes (tells s)) f.shape.unit l _ (all_left T (places_of l.groups) (places_of (group_list l.inode)) told)
      (all_right T (places_of l.groups) (places_of (group_list l.inode)) told) (places_hold_the_file f is)) enough
