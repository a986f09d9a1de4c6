-- The first short group: what the code finds in the groups is what the layout says.
use Rattle.std.proofs.Common.{◌≡◌, ℕ, ◌+◌, ◌≤◌, nat_lt, Bool, true, false, ◌&&◌, not, if◌then◌else◌, List, [], ◌∷◌, ◌++◌, length, Option, Some, None, refl, sym, ap, subst, ◌∙◌, arith}
use Rattle.std.specs.List.{AllByRecursion}
use Rattle.domains.specs.Drive.{IsDrive}
use Rattle.domains.specs.Place.{Place}
use Rattle.domains.specs.declared.group.Group.{Group}
use Rattle.domains.specs.declared.group.Lost.{Lost}
use Rattle.file_history.specs.World.{Moment}
use Rattle.file_history.specs.Layout.{Layout, group_list}
use Rattle.file_history.specs.Live.{Part, is_live, live_from, live_units, short_in, first_short, groups_with, needed_of_map}
use Rattle.entry_causes.specs.Sights.{HasFewPlaces, IsSightOf, count_live, first_of, is_dead_at, live_at, lost_from, lost_of, needs, part_of}
use Rattle.entry_causes.specs.declared.needs.Asked.{Asked}
use Rattle.entry_causes.specs.declared.needs.Asked.TheVariants.{Range, Write}
use Rattle.entry_causes.specs.declared.live.Sight.{Sight}

module _ (sight : Sight) (now : Moment) (l : Layout) (is : IsSightOf sight now l) where
  count_is : (places : List Place) (position generation : ℕ) → AllByRecursion (λ (s : Place). IsDrive s.drive) places → position + length places ≤ 255
      → count_live places position (live_at sight.up.now sight.dead.now generation) ≡ live_from places position now l generation
  count_is [] position generation drives few = refl
  count_is (s ∷ ss) position generation drives few =
      ap (λ (b : Bool). (if b then 1 else 0) + count_live ss (position + 1) (live_at sight.up.now sight.dead.now generation)) (live_is)
      ∙ ap (λ (n : ℕ). (if is_live now l generation position s then 1 else 0) + n) (count_is ss (position + 1) generation drives.1 (omega (arith, few)))
    where
      live_is : live_at sight.up.now sight.dead.now generation position s ≡ is_live now l generation position s
      live_is =
          ap (λ (b : Bool). b && not (is_dead_at sight.dead.now generation position)) (is.up_is s.drive drives.0)
          ∙ ap (λ (b : Bool). now.up s.drive && not b) (is.dead_is generation position (omega (arith, few)))

  abbrev lost_at : ℕ → Group → Option Lost
  lost_at have g = if nat_lt have g.n then Some (record { generation = g.generation; have = have; need = g.n }) else None

  either : (b : Bool) (lost : Lost) (later : Option Lost) → first_of (if b then Some lost else None) later ≡ (if b then Some lost else later)
  either true lost later = refl
  either false lost later = refl

  short_cons : (g : Group) (gs : List Group) → HasFewPlaces g
      → first_of (lost_of sight.up.now sight.dead.now g) (short_in gs now l) ≡ short_in (g ∷ gs) now l
  short_cons g gs here =
      ap (λ (have : ℕ). first_of (lost_at have g) (short_in gs now l)) (count_is g.places 0 g.generation here.drives (let few = here.few in omega (arith, few)))
      ∙ either (nat_lt (live_units now l g) g.n) (record { generation = g.generation; have = live_units now l g; need = g.n }) (short_in gs now l)

  short_if : (b : Bool) (g : Group) (gs : List Group) → HasFewPlaces g
      → first_of (if b then lost_of sight.up.now sight.dead.now g else None) (short_in gs now l) ≡ short_in (if b then g ∷ gs else gs) now l
  short_if true g gs here = short_cons g gs here
  short_if false g gs here = refl

  short_with : (gs : List Group) (start unit size : ℕ) (part : Part) → AllByRecursion HasFewPlaces gs
      → lost_from gs start unit size sight.up.now sight.dead.now part ≡ short_in (groups_with gs start (λ start g ends. needs unit size part start g ends)) now l
  short_with [] start unit size part few = refl
  short_with (g ∷ []) start unit size part few = short_if (needs unit size part start g true) g [] few.0
  short_with (g ∷ h ∷ gs) start unit size part few =
      ap (first_of (if needs unit size part start g false then lost_of sight.up.now sight.dead.now g else None)) (short_with (h ∷ gs) (start + g.n) unit size part few.1)
      ∙ short_if (needs unit size part start g false) g (groups_with (h ∷ gs) (start + g.n) (λ start g ends. needs unit size part start g ends)) few.0

  first_in : (g : Group) (part : Part) → group_list l.inode ≡ g ∷ [] → HasFewPlaces g → AllByRecursion HasFewPlaces l.groups
      → groups_with l.groups 0 (λ start g ends. needs now.shape.unit l.size part start g ends) ≡ needed_of_map now.shape.unit l part
      → first_of (lost_of sight.up.now sight.dead.now g) (lost_from l.groups 0 now.shape.unit l.size sight.up.now sight.dead.now part) ≡ first_short now l part
  first_in g part root here few needed =
      ap (first_of (lost_of sight.up.now sight.dead.now g)) (short_with l.groups 0 now.shape.unit l.size part few)
      ∙ short_cons g (groups_with l.groups 0 (λ start g ends. needs now.shape.unit l.size part start g ends)) here
      ∙ ap (λ (gs : List Group). short_in (g ∷ gs) now l) needed
      ∙ ap (λ (gs : List Group). short_in (gs ++ needed_of_map now.shape.unit l part) now l) (sym root)

  needed_is : (asked : Asked) → groups_with l.groups 0 (λ start g ends. needs now.shape.unit l.size (part_of asked) start g ends)
      ≡ needed_of_map now.shape.unit l (part_of asked)
  needed_is (Range offset len) = refl
  needed_is (Write offset len width) = refl

  -- the first of the inode's group and the needed ones is the first of the layout
  pub first_short_is : (g : Group) (groups : List Group) (asked : Asked) → group_list l.inode ≡ g ∷ [] → l.groups ≡ groups
      → HasFewPlaces g → AllByRecursion HasFewPlaces groups
      → first_of (lost_of sight.up.now sight.dead.now g) (lost_from groups 0 sight.unit sight.size sight.up.now sight.dead.now (part_of asked))
      ≡ first_short now l (part_of asked)
  first_short_is g groups asked root map_is here few =
      ap (λ (gs : List Group). first_of (lost_of sight.up.now sight.dead.now g) (lost_from gs 0 sight.unit sight.size sight.up.now sight.dead.now (part_of asked))) (sym map_is)
      ∙ ap (λ (u : ℕ). first_of (lost_of sight.up.now sight.dead.now g) (lost_from l.groups 0 u sight.size sight.up.now sight.dead.now (part_of asked))) is.unit_is
      ∙ ap (λ (z : ℕ). first_of (lost_of sight.up.now sight.dead.now g) (lost_from l.groups 0 now.shape.unit z sight.up.now sight.dead.now (part_of asked))) is.size_is
      ∙ first_in g (part_of asked) root here (subst (AllByRecursion HasFewPlaces) (sym map_is) few) (needed_is asked)
