-- The places of a map after a change.
use Rattle.std.proofs.Common.{ℕ, List, [], ◌∷◌, ◌++◌, length, map, Option, refl, sym, subst}
use Rattle.flex_io.specs.declared.raw_place.RawPlace.{RawPlace}
use Rattle.domains.specs.Place.{Place}
use Rattle.domains.specs.declared.group.Group.{Group}
use Rattle.file_history.specs.Layout.{Layout, all_groups, places_of}
use Rattle.file_history.specs.Step.{AreDistinct}
use Rattle.map_changes.specs.ChangedMaps.{AreFree, first_of, spliced}
use Rattle.map_changes.proofs.ChangedPlaces.{changed_places_differ}
use Rattle.map_switches.specs.declared.change.Why.{Why}
use Rattle.map_switches.specs.declared.change.Fresh.{Fresh}
use Rattle.map_switches.specs.declared.change.Fresh.TheVariants.{Groups, Units}
use Rattle.map_switches.specs.RepairedUnits.{repaired_group}
use Rattle.map_switches.specs.Switches.{HoldFresh, brought_groups, fresh_places, groups_of, numbered, run_of}
use Rattle.map_switches.proofs.BroughtStripes.{repair}
use Rattle.map_switches.proofs.NumberedGroups.{numbered-places}
use Rattle.map_switches.proofs.RepairedPlaces.{repaired_places_differ}

module _ {S : Type 0} (place_of : S → RawPlace) (content : S → Option (List ℕ)) (len_of : S → ℕ) where
  -- none comes twice if the new ones are free
  pub brought_places_differ : (l : Layout) (why : Why) (unit next : ℕ) (part : List ℕ) (old : List ℕ) (fresh : Fresh S) (inode : Group)
      → AreDistinct (places_of (all_groups l)) → AreFree l (fresh_places fresh ++ inode.places) → HoldFresh place_of content len_of why (run_of old l.groups) unit part fresh
      → AreDistinct (places_of (spliced l.groups (first_of old l.groups) (length old) (numbered (brought_groups (run_of old l.groups) fresh) next) ++ inode ∷ []))
  brought_places_differ l why unit next part old (Groups gs) inode distinct free holds =
      changed_places_differ l (first_of old l.groups) (length old) (numbered (groups_of gs) next) inode distinct
      (subst (λ (ss : List Place). AreFree l (ss ++ inode.places)) (sym (numbered-places (groups_of gs) next)) free)
  brought_places_differ l why unit next part old (Units us) inode distinct free holds =
      let r = repair content why (run_of old l.groups) unit part us holds in
      subst (λ (run : List Group). AreDistinct (places_of (spliced l.groups (first_of old l.groups) (length old) (numbered (map (repaired_group us) run) next) ++ inode ∷ [])))
      (sym r.run_is)
      (repaired_places_differ l (first_of old l.groups) (length old) r.group (record (repaired_group us r.group) { generation = next }) inode us r.run_is refl distinct free)
