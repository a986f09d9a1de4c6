-- What a change brings in the place of a run of groups.
use Rattle.std.proofs.Common.{◌≡◌, ℕ, List, [], ◌∷◌, length, map, take, drop, refl, sym, ap, ◌∙◌}
use Rattle.std.proofs.lemmas.List.{take-map, drop-map}
use Rattle.domains.specs.declared.group.Group.{Group}
use Rattle.map_changes.specs.ChangedMaps.{first_of}
use Rattle.striped_groups.specs.StoredGroups.{GroupSlots}
use Rattle.map_switches.specs.declared.change.Fresh.{Fresh}
use Rattle.map_switches.specs.declared.change.Fresh.TheVariants.{Groups, Units}
use Rattle.map_switches.specs.declared.change.FreshUnit.{FreshUnit}
use Rattle.map_switches.specs.declared.change.MapChange.{MapChange}
use Rattle.map_switches.specs.RepairedUnits.{repaired, repaired_group}
use Rattle.map_switches.specs.Switches.{brought, brought_groups, groups_of, new_groups, new_stripes, run_in, run_of}

module _ {S : Type 0} where
  repaired-groups : (us : List (FreshUnit S)) (run : List (GroupSlots S)) → groups_of (map (repaired us) run) ≡ map (repaired_group us) (groups_of run)
  repaired-groups us [] = refl
  repaired-groups us (g ∷ gs) = ap (λ (l : List Group). repaired_group us g.group ∷ l) (repaired-groups us gs)

  pub brought-groups : (run : List (GroupSlots S)) (fresh : Fresh S) → groups_of (brought run fresh) ≡ brought_groups (groups_of run) fresh
  brought-groups run (Groups gs) = refl
  brought-groups run (Units us) = repaired-groups us run

  -- the run with its slots is the run of the groups
  pub run-groups : (old : List ℕ) (gs : List (GroupSlots S)) → groups_of (run_in old gs) ≡ run_of old (groups_of gs)
  run-groups old gs =
      sym (take-map (λ (g : GroupSlots S). g.group) (length old) (drop (first_of old (groups_of gs)) gs))
      ∙ ap (λ (l : List Group). take (length old) l) (sym (drop-map (λ (g : GroupSlots S). g.group) (first_of old (groups_of gs)) gs))

  pub new-groups : (gs : List (GroupSlots S)) (change : MapChange S) → groups_of (new_stripes gs change) ≡ new_groups (groups_of gs) change
  new-groups gs change =
      brought-groups (run_in change.old gs) change.fresh
      ∙ ap (λ (l : List Group). brought_groups l change.fresh) (run-groups change.old gs)
