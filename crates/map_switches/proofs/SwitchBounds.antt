-- Changes that are ready keep within the limits of their numbers.
use Rattle.std.proofs.Common.{◌≡◌, ℕ, ◌+◌, ◌^◌, ◌≤◌, List, [], ◌∷◌, length, sym, ap, subst, ◌∙◌, arith}
use Rattle.std.specs.List.{AllByRecursion}
use Rattle.std.proofs.lemmas.List.{length-map}
use Rattle.domains.specs.declared.group.Group.{Group}
use Rattle.map_changes.specs.ChangedMaps.{first_of, spliced}
use Rattle.map_changes.proofs.SplicedLists.{All-spliced, map-spliced}
use Rattle.map_switches.specs.declared.change.Why.{Why}
use Rattle.map_switches.specs.declared.change.Why.TheVariants.{Write, Place as Place_}
use Rattle.map_switches.specs.declared.change.MapChange.{MapChange}
use Rattle.striped_groups.specs.StoredGroups.{GroupSlots}
use Rattle.map_switches.specs.Switches.{IsBounded, groups_of, new_stripes, numbered, payload_of, size_after, stripes_from}
use Rattle.map_switches.proofs.BroughtGroups.{new-groups}
use Rattle.map_switches.proofs.NumberedGroups.{stripes-groups}

pub payload_small : (why : Why) (size : ℕ) → size_after why size ≤ 2 ^ 29 → length (payload_of why) ≤ 2 ^ 29
payload_small (Write offset bytes) size low = omega (arith, low)
payload_small (Place_ job) size low = omega arith

-- the new groups, with their generations
pub stripes_narrow : {S : Type 0} (xs : List (GroupSlots S)) (next : ℕ) → AllByRecursion (λ (g : Group). length g.places ≤ 255) (numbered (groups_of xs) next)
    → AllByRecursion (λ (g : GroupSlots S). length g.group.places ≤ 255) (stripes_from xs next)
stripes_narrow [] next all = tt
stripes_narrow (x ∷ xs) next all = (all.0, stripes_narrow xs (next + 1) all.1)

-- the map with its slots is the map of the log
pub groups_switched : {S : Type 0} (xs fresh : List (GroupSlots S)) (first count next : ℕ)
    → groups_of (spliced xs first count (stripes_from fresh next)) ≡ spliced (groups_of xs) first count (numbered (groups_of fresh) next)
groups_switched xs fresh first count next =
    map-spliced (λ (g : GroupSlots _). g.group) xs first count (stripes_from fresh next)
    ∙ ap (λ (gs : List Group). spliced (groups_of xs) first count gs) (stripes-groups fresh next)

-- the map with its slots, after a change
pub narrow_exchanged : {S : Type 0} (gs : List (GroupSlots S)) (next size : ℕ) (change : MapChange S) → IsBounded gs next size change
    → AllByRecursion (λ (g : GroupSlots S). length g.group.places ≤ 255)
    (spliced gs (first_of change.old (groups_of gs)) (length change.old) (stripes_from (new_stripes gs change) next))
narrow_exchanged gs next size change bounds =
    All-spliced (λ (g : GroupSlots _). length g.group.places ≤ 255) gs (first_of change.old (groups_of gs)) (length change.old)
    (stripes_from (new_stripes gs change) next) bounds.narrow
    (stripes_narrow (new_stripes gs change) next
    (subst (λ (l : List Group). AllByRecursion (λ (g : Group). length g.places ≤ 255) (numbered l next)) (sym (new-groups gs change)) bounds.new_narrow))

pub few_exchanged : {S : Type 0} (gs : List (GroupSlots S)) (next size : ℕ) (change : MapChange S) → IsBounded gs next size change
    → length (spliced gs (first_of change.old (groups_of gs)) (length change.old) (stripes_from (new_stripes gs change) next)) ≤ 256
few_exchanged gs next size change bounds =
    subst (λ (n : ℕ). n ≤ 256)
    (sym (ap (λ (hs : List Group). length hs)
    (groups_switched gs (new_stripes gs change) (first_of change.old (groups_of gs)) (length change.old) next
    ∙ ap (λ (l : List Group). spliced (groups_of gs) (first_of change.old (groups_of gs)) (length change.old) (numbered l next)) (new-groups gs change)))
    ∙ length-map (spliced gs (first_of change.old (groups_of gs)) (length change.old) (stripes_from (new_stripes gs change) next)) (λ (g : GroupSlots _). g.group)) bounds.few

-- groups that are those of the changed map are few, and narrow
pub counted : {S : Type 0} (gs new : List (GroupSlots S)) (next size : ℕ) (change : MapChange S) → IsBounded gs next size change
    → new ≡ spliced gs (first_of change.old (groups_of gs)) (length change.old) (stripes_from (new_stripes gs change) next)
    → (length new ≤ 256) × AllByRecursion (λ (g : GroupSlots S). length g.group.places ≤ 255) new
counted gs new next size change bounds is = (
  subst (λ (l : List (GroupSlots _)). length l ≤ 256) (sym is) (few_exchanged gs next size change bounds),
  subst (λ (l : List (GroupSlots _)). AllByRecursion (λ (g : GroupSlots _). length g.group.places ≤ 255) l) (sym is) (narrow_exchanged gs next size change bounds),
)
