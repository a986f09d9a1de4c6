-- Why nothing is pulled: what the code finds in the groups is what the layout says.
use Rattle.std.proofs.Common.{◌≡◌, ℕ, ◌+◌, nat_lt, Bool, true, false, if◌then◌else◌, List, [], ◌∷◌, ◌++◌, Option, Some, None, refl, sym, ap, ◌∙◌}
use Rattle.board.specs.declared.board_view.View.{View}
use Rattle.domains.specs.Shape.{Shape}
use Rattle.domains.specs.Level.{Level}
use Rattle.domains.specs.Place.{Place}
use Rattle.domains.specs.declared.group.Group.{Group}
use Rattle.domains.specs.declared.group.Lost.{Lost}
use Rattle.file_history.specs.World.{Moment}
use Rattle.file_history.specs.Layout.{Layout, group_list}
use Rattle.file_history.specs.Live.{Part, range, write, one, live_from, live_units, short_in, first_short, groups_with, needed_of_map}
use Rattle.file_heads.specs.Heads.{is_there}
use Rattle.file_history.specs.Views.{moment_in}
use Rattle.file_heads.specs.Parts.{count_live, first_of, live_at, lost_from, lost_of, needs}
use Rattle.file_heads.specs.PullRefusals.{first_cause, refusal_from, refusal_in, refusal_of, unknown_in, unknown_of}

module _ (shape : Shape) (level : Level) (view : View) (l : Layout) where
  abbrev now : Moment
  now = moment_in shape level (Some (record { epoch = view.epoch; up = view.up; gone = view.gone }))

  count_is : (places : List Place) (position generation : ℕ) → count_live places position (live_at shape view l.dead generation) ≡ live_from places position now l generation
  count_is [] position generation = refl
  count_is (s ∷ ss) position generation =
      ap (λ (n : ℕ). (if live_at shape view l.dead generation position s then 1 else 0) + n) (count_is ss (position + 1) generation)

  abbrev lost_at : ℕ → Group → Option Lost
  lost_at have g = if nat_lt have g.n then Some (record { generation = g.generation; have = have; need = g.n }) else None

  either : (b : Bool) (lost : Lost) (later : Option Lost) → first_of (if b then Some lost else None) later ≡ (if b then Some lost else later)
  either true lost later = refl
  either false lost later = refl

  short_cons : (g : Group) (gs : List Group) → first_of (lost_of shape view l.dead g) (short_in gs now l) ≡ short_in (g ∷ gs) now l
  short_cons g gs =
      ap (λ (have : ℕ). first_of (lost_at have g) (short_in gs now l)) (count_is g.places 0 g.generation)
      ∙ either (nat_lt (live_units now l g) g.n) (record { generation = g.generation; have = live_units now l g; need = g.n }) (short_in gs now l)

  short_if : (b : Bool) (g : Group) (gs : List Group)
      → first_of (if b then lost_of shape view l.dead g else None) (short_in gs now l) ≡ short_in (if b then g ∷ gs else gs) now l
  short_if true g gs = short_cons g gs
  short_if false g gs = refl

  short_with : (gs : List Group) (start size : ℕ) (part : Part)
      → lost_from gs start shape view l.dead size part ≡ short_in (groups_with gs start (λ start g ends. needs shape.unit size part start g ends)) now l
  short_with [] start size part = refl
  short_with (g ∷ []) start size part = short_if (needs shape.unit size part start g true) g []
  short_with (g ∷ h ∷ gs) start size part =
      ap (first_of (if needs shape.unit size part start g false then lost_of shape view l.dead g else None)) (short_with (h ∷ gs) (start + g.n) size part)
      ∙ short_if (needs shape.unit size part start g false) g (groups_with (h ∷ gs) (start + g.n) (λ start g ends. needs shape.unit size part start g ends))

  needed_is : (unit : ℕ) (part : Part) → groups_with l.groups 0 (λ start g ends. needs unit l.size part start g ends) ≡ needed_of_map unit l part
  needed_is unit (range offset len) = refl
  needed_is unit (write offset len width) = refl
  needed_is unit (one generation) = refl

  pub refusal_is : (root : Option Group) (part : Part) → l.inode ≡ root → l.present ≡ is_there l.inode
      → refusal_in root l.groups shape view l.dead l.size part ≡ refusal_of now l part
  refusal_is None part is there =
      ap (λ (b : Bool). refusal_from b (unknown_of l part) (first_short now l part)) (sym (there ∙ ap is_there is))
  refusal_is (Some g) part is there =
      ap (first_cause (unknown_in (l.groups ++ g ∷ []) part))
      (ap (first_of (lost_of shape view l.dead g)) (short_with l.groups 0 l.size part)
      ∙ short_cons g (groups_with l.groups 0 (λ start g ends. needs shape.unit l.size part start g ends)) ∙ ap (λ (gs : List Group). short_in (g ∷ gs) now l) (needed_is shape.unit part))
      ∙ ap (λ (root : Option Group). first_cause (unknown_in (l.groups ++ group_list root) part) (short_in (group_list root ++ needed_of_map shape.unit l part) now l)) (sym is)
      ∙ ap (λ (b : Bool). refusal_from b (unknown_of l part) (first_short now l part)) (sym (there ∙ ap is_there is))
