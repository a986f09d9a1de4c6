-- How many units count after losses that a level bears.
use Rattle.std.proofs.Common.{◌≡◌, ℕ, ◌+◌, ◌≤◌, Bool, true, false, not, ◌&&◌, List, [], ◌∷◌, ◌++◌, length, cond, refl, sym, arith}
use Rattle.std.specs.List.{AllByRecursion}
use Rattle.std.proofs.lemmas.Bool.{true≢false}
use Rattle.domains.specs.Counts.{one_if}
use Rattle.domains.specs.Drive.{Drive}
use Rattle.domains.specs.Place.{Place}
use Rattle.domains.specs.Level.{Level, Bears}
use Rattle.domains.specs.AtLevel.{AtLevel, InodeAt}
use Rattle.domains.specs.Losses.{is_lost, kept_units}
use Rattle.domains.specs.declared.group.Group.{Group}
use Rattle.domains.proofs.CountLemmas.{count_by-cons}
use Rattle.domains.proofs.LossLemmas.{kept_units-most}
use Rattle.file_history.specs.World.{Moment}
use Rattle.file_history.specs.Layout.{Layout, layout_after, all_groups, group_list}
use Rattle.file_history.specs.Live.{is_dead, is_live, live_from, live_units}
use Rattle.file_history.proofs.DeterminedByLiveUnits.{determined}
use Rattle.file_history.proofs.RootedLayouts.{layout_rooted, leaves_enough}
use Rattle.loss_laws.specs.BorneLosses.{AreLostWith, BearsLosses, AreAlive}
use Rattle.loss_laws.specs.Laws.{GroupsKeepEnough, FilesBearLosses, LevelFilesBearLosses}

-- a unit that is not lost counts
kept_counts : (live lost : Bool) → (live ≡ false → lost ≡ true) → one_if (not lost) ≤ cond live 1 0
kept_counts true true from = omega arith
kept_counts true false from = omega arith
kept_counts false true from = omega arith
kept_counts false false from = absurd (true≢false (sym (from refl)))

-- as many units count as are not lost
kept_units-live : (ss : List Place) (position : ℕ) (now : Moment) (l : Layout) (generation : ℕ) (nodes : List ℕ) (drives : List Drive)
    → AreLostWith ss position now l generation nodes drives → kept_units nodes drives ss ≤ live_from ss position now l generation
kept_units-live [] position now l generation nodes drives lost = omega arith
kept_units-live (s ∷ ss) position now l generation nodes drives lost =
    let first = count_by-cons (λ (place : Place). not (is_lost nodes drives place)) s ss in
    let here = kept_counts (is_live now l generation position s) (is_lost nodes drives s) lost.0 in
    let rest = kept_units-live ss (position + 1) now l generation nodes drives lost.1 in
    omega (arith, first, here, rest)

pub keep_enough : GroupsKeepEnough
keep_enough now l g bears =
    let kept = kept_units-most bears.level g bears.nodes bears.drives bears.at_level bears.borne in
    let live = kept_units-live g.places 0 now l g.generation bears.nodes bears.drives bears.lost in
    omega (arith, kept, live)

all_keep : (now : Moment) (l : Layout) (gs : List Group) → AllByRecursion (BearsLosses now l) gs
    → AllByRecursion (λ (g : Group). g.n ≤ live_units now l g) gs
all_keep now l [] bear = tt
all_keep now l (g ∷ gs) bear = (keep_enough now l g bear.0, all_keep now l gs bear.1)

pub files_bear : FilesBearLosses
files_bear now declared log held stored one bear =
    let l : Layout = layout_after declared log in
    determined now held l _ (layout_rooted declared log) stored (leaves_enough now l (all_keep now l (all_groups l) bear) one)

-- a unit that is not dead, and on a drive that is up unless it is lost, is lost if it does not count
lost_if : (up dead lost : Bool) → dead ≡ false → (lost ≡ false → up ≡ true) → (up && not dead) ≡ false → lost ≡ true
lost_if up dead true alive only live = refl
lost_if true true false alive only live = absurd (true≢false alive)
lost_if true false false alive only live = absurd (true≢false live)
lost_if false dead false alive only live = absurd (true≢false (sym (only refl)))

only_lost : (ss : List Place) (position : ℕ) (now : Moment) (l : Layout) (generation : ℕ) (nodes : List ℕ) (drives : List Drive)
    → AreAlive ss position l generation → AllByRecursion (λ (s : Place). is_lost nodes drives s ≡ false → now.up s.drive ≡ true) ss
    → AreLostWith ss position now l generation nodes drives
only_lost [] position now l generation nodes drives alive up = tt
only_lost (s ∷ ss) position now l generation nodes drives alive up = (
  lost_if (now.up s.drive) (is_dead l generation position) (is_lost nodes drives s) alive.0 up.0,
  only_lost ss (position + 1) now l generation nodes drives alive.1 up.1,
)

all_bear : (now : Moment) (l : Layout) (level : Level) (nodes : List ℕ) (drives : List Drive) (gs : List Group)
    → Bears level (length nodes) (length drives) → AllByRecursion (λ (g : Group). AtLevel g level) gs
    → AllByRecursion (λ (g : Group). AreAlive g.places 0 l g.generation) gs
    → AllByRecursion (λ (g : Group). AllByRecursion (λ (s : Place). is_lost nodes drives s ≡ false → now.up s.drive ≡ true) g.places) gs
    → AllByRecursion (BearsLosses now l) gs
all_bear now l level nodes drives [] borne at_level alive up = tt
all_bear now l level nodes drives (g ∷ gs) borne at_level alive up = (
  record {
    level = level;
    at_level = at_level.0;
    nodes = nodes;
    drives = drives;
    borne = borne;
    lost = only_lost g.places 0 now l g.generation nodes drives alive.0 up.0;
  },
  all_bear now l level nodes drives gs borne at_level.1 alive.1 up.1,
)

all_both : (P : Group → Type 0) (xs ys : List Group) → AllByRecursion P xs → AllByRecursion P ys → AllByRecursion P (xs ++ ys)
all_both P [] ys front back = back
all_both P (x ∷ xs) ys front back = (front.0, all_both P xs ys front.1 back)

inode_level : (level : Level) (gs : List Group) → AllByRecursion (λ (g : Group). InodeAt g level) gs → AllByRecursion (λ (g : Group). AtLevel g level) gs
inode_level level [] all = tt
inode_level level (g ∷ gs) all = (all.0.at_level, inode_level level gs all.1)

inode_one : (level : Level) (gs : List Group) → AllByRecursion (λ (g : Group). InodeAt g level) gs → AllByRecursion (λ (g : Group). g.n ≡ 1) gs
inode_one level [] all = tt
inode_one level (g ∷ gs) all = (all.0.one, inode_one level gs all.1)

pub level_files_bear : LevelFilesBearLosses
level_files_bear now declared log held nodes drives stored level borne only =
    let l : Layout = layout_after declared log in
    files_bear now declared log held stored (inode_one l.requested (group_list l.inode) level.inode)
    (all_bear now l l.requested nodes drives (all_groups l) borne
    (all_both (λ (g : Group). AtLevel g l.requested) l.groups (group_list l.inode) level.groups (inode_level l.requested (group_list l.inode) level.inode))
    only.alive only.up)
