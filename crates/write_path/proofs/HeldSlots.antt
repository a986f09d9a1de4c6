-- The slots that a file holds stand at the places of its layout.
use Rattle.std.proofs.Common.{◌≡◌, ℕ, List, [], ◌∷◌, ◌++◌, Option, Some, None, append-nil, refl, sym, ap, subst, ◌∙◌}
use Rattle.std.specs.List.{All, AllByRecursion, count_by}
use Rattle.std.proofs.lemmas.Grind.{flat_map-append}
use Rattle.std.proofs.lemmas.List.{map-append}
use Rattle.std.proofs.lemmas.List.Elements.{All-cons, All-nil}
use Rattle.domains.specs.Drive.{Drive}
use Rattle.domains.specs.Place.{IsPlaceOf, Place}
use Rattle.domains.specs.Shape.{Shape}
use Rattle.domains.specs.declared.group.Group.{Group}
use Rattle.flex_io.specs.declared.raw_place.RawPlace.{RawPlace}
use Rattle.held_slots.specs.Slots.{count_on, place_from, places_from}
use Rattle.slot_search.specs.HandSeats.{AreOfCluster}
use Rattle.file_history.specs.Layout.{all_groups, group_list, places_of}
use Rattle.file_core.specs.Accounts.{units_at}
use Rattle.file_core.specs.FileView.{FileView, IsFile, layout_of}
use Rattle.striped_groups.specs.StoredGroups.{GroupSlots, list_of}
use Rattle.file_turns.specs.PathAccounts.{on_drive}
use Rattle.write_path.specs.Releases.{slots_in}
use Rattle.write_path.proofs.ReleasedAccounts.{count_places, grouped, places_stand}

-- a deleted file hands back the slots that it held
pub slots_deleted : {S : Type 0} (x : FileView S) (groups : List (GroupSlots S)) (inode : GroupSlots S) → groups ≡ x.groups → Some inode ≡ x.inode
    → slots_in (x.groups ++ list_of x.inode) ≡ slots_in groups ++ inode.slots
slots_deleted x groups inode same root =
    (λ i. slots_in (sym same i ++ list_of (sym root i)))
    ∙ flat_map-append (λ (g : GroupSlots _). g.slots) groups (inode ∷ [])
    ∙ ap (λ l. slots_in groups ++ l) (append-nil inode.slots)

all_of_places : {S : Type 0} (place_of : S → RawPlace) (shape : Shape) (slots : List S) → AllByRecursion (IsPlaceOf shape) (places_from place_of slots)
    → AreOfCluster place_of shape slots
all_of_places place_of shape [] all = All-nil (λ held. IsPlaceOf shape (place_from (place_of held)))
all_of_places place_of shape (x ∷ xs) all = All-cons (λ held. IsPlaceOf shape (place_from (place_of held))) x xs all.0 (all_of_places place_of shape xs all.1)

module _ {S : Type 0} (place_of : S → RawPlace) (content : S → Option (List ℕ)) (len_of : S → ℕ) (x : FileView S) (is : IsFile place_of content len_of x) where
  pub places_held : places_of (all_groups (layout_of x)) ≡ places_from place_of (slots_in (x.groups ++ list_of x.inode))
  places_held =
      let groups = grouped place_of content len_of x.groups in
      let root = grouped place_of content len_of (list_of x.inode) in
      (λ i. places_of (sym is.slots.mapped i ++ sym is.slots.root i))
      ∙ flat_map-append (λ (g : Group). g.places) groups root
      ∙ ap (λ l. l ++ places_of root) (places_stand place_of content len_of x.groups is.slots.stands)
      ∙ ap (λ l. places_from place_of (slots_in x.groups) ++ l) (places_stand place_of content len_of (list_of x.inode) is.slots.root_stands)
      ∙ sym (map-append (λ (s : S). place_from (place_of s)) (slots_in x.groups) (slots_in (list_of x.inode)))
      ∙ ap (places_from place_of) (sym (flat_map-append (λ (g : GroupSlots S). g.slots) x.groups (list_of x.inode)))

  pub slots_within : AreOfCluster place_of x.shape (slots_in (x.groups ++ list_of x.inode))
  slots_within = all_of_places place_of x.shape _ (subst (AllByRecursion (IsPlaceOf x.shape)) places_held is.slots.within)

  pub units_held : (d : Drive) → units_at (on_drive d) (all_groups (layout_of x)) ≡ count_on place_of d (slots_in (x.groups ++ list_of x.inode))
  units_held d = ap (count_by (on_drive d)) places_held ∙ count_places place_of d (slots_in (x.groups ++ list_of x.inode))
