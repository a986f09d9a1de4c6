-- The slots of groups stand at the groups' places.
use Rattle.std.proofs.Common.{◌≡◌, ℕ, List, [], ◌∷◌, ◌++◌, map, Option, refl, ap, ◌∙◌}
use Rattle.std.proofs.lemmas.List.{map-append}
use Rattle.std.specs.List.{AllByRecursion}
use Rattle.domains.specs.Place.{Place}
use Rattle.flex_io.specs.declared.raw_place.RawPlace.{RawPlace}
use Rattle.held_slots.specs.Slots.{place_from, places_from}
use Rattle.file_history.specs.Layout.{places_of}
use Rattle.striped_groups.specs.StoredGroups.{GroupSlots, StandsThere, StoredGroup, list_of, stored_group}
use Rattle.file_cells.specs.FileEnds.{SlotsStand, slots_in}

module _ {S : Type 0} (place_of : S → RawPlace) (content : S → Option (List ℕ)) (len_of : S → ℕ) where
  stand : (gs : List (GroupSlots S)) → AllByRecursion StandsThere (map (stored_group place_of content len_of) gs)
      → places_from place_of (slots_in gs) ≡ places_of (map (λ (g : StoredGroup). g.group) (map (stored_group place_of content len_of) gs))
  stand [] all = refl
  stand (g ∷ gs) all =
      map-append (λ slot. place_from (place_of slot)) g.slots (slots_in gs)
      ∙ ap (λ (l : List Place). l ++ places_from place_of (slots_in gs)) all.0.places
      ∙ ap (λ (l : List Place). g.group.places ++ l) (stand gs all.1)

  pub slots_stand : SlotsStand place_of content len_of
  slots_stand f is = (
    stand f.groups is.slots.stands ∙ ap places_of is.slots.mapped,
    stand (list_of f.inode) is.slots.root_stands ∙ ap places_of is.slots.root,
  )
