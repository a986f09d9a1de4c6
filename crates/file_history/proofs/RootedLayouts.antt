-- Layouts without an inode, and how many live units are enough.
use Rattle.std.proofs.Common.{◌≡◌, ◌≤◌, List, [], ◌∷◌, Some, None, refl, arith}
use Rattle.std.specs.List.{AllByRecursion}
use Rattle.domains.specs.Level.{Level}
use Rattle.domains.specs.declared.group.Group.{Group}
use Rattle.file_history.specs.World.{Moment}
use Rattle.file_history.specs.Layout.{Layout, layout_from, layout_after_event, empty_layout, group_list, all_groups}
use Rattle.file_history.specs.Live.{live_units}
use Rattle.file_history.specs.Stored.{IsRooted}
use Rattle.file_history.specs.Laws.{LeavesEnough, LayoutsAreRooted}
use Rattle.file_history.specs.declared.entry.FileEvent.{FileEvent}
use Rattle.file_history.specs.declared.entry.FileEvent.TheVariants as event
use Rattle.file_history.specs.declared.entry.NotedEntry.{NotedEntry}
use Rattle.file_history.proofs.DeterminedByLiveUnits.{all_left, all_right}

some_none : (g : Group) → Some g ≡ None → ⊥
some_none g h = cc

rooted_after : (declared : Level) (e : FileEvent) (l : Layout) → IsRooted l → IsRooted (layout_after_event declared e l)
rooted_after declared (event.Created inode) l rooted none = absurd (some_none inode none)
rooted_after declared event.Deleted l rooted none = (refl, refl)
rooted_after declared (event.Written offset len size change) l rooted none = absurd (some_none change.inode none)
rooted_after declared (event.Shown offset len bytes) l rooted none = rooted none
rooted_after declared (event.LevelSet level) l rooted none = rooted none
rooted_after declared (event.Placed job change) l rooted none = absurd (some_none change.inode none)
rooted_after declared (event.Dead generation position) l rooted none = rooted none
rooted_after declared (event.Barred job drives) l rooted none = rooted none
rooted_after declared (event.Cleared job drives) l rooted none = rooted none
rooted_after declared (event.Marked job count) l rooted none = rooted none
rooted_after declared (event.Refused why) l rooted none = rooted none

rooted_from : (log : List NotedEntry) (declared : Level) (l : Layout) → IsRooted l → IsRooted (layout_from log declared l)
rooted_from [] declared l rooted = rooted
rooted_from (t ∷ ts) declared l rooted =
    rooted_from ts declared (layout_after_event declared t.entry.event l) (rooted_after declared t.entry.event l rooted)

-- every log says that a file without an inode has no groups and no bytes
pub layout_rooted : LayoutsAreRooted
layout_rooted declared log = rooted_from log declared (empty_layout declared) (λ none. (refl, refl))

one_live : (now : Moment) (l : Layout) (gs : List Group) → AllByRecursion (λ (g : Group). g.n ≤ live_units now l g) gs
    → AllByRecursion (λ (g : Group). g.n ≡ 1) gs → AllByRecursion (λ (g : Group). 1 ≤ live_units now l g) gs
one_live now l [] enough one = tt
one_live now l (g ∷ gs) enough one =
    let live : g.n ≤ live_units now l g = enough.0 in
    let is_one : g.n ≡ 1 = one.0 in
    (omega (arith, live, is_one), one_live now l gs enough.1 one.1)

-- where the inode's group has one data unit, as many live units as data units are enough for it too
pub leaves_enough : (now : Moment) (l : Layout) → AllByRecursion (λ (g : Group). g.n ≤ live_units now l g) (all_groups l)
    → AllByRecursion (λ (g : Group). g.n ≡ 1) (group_list l.inode) → LeavesEnough now l
leaves_enough now l enough one =
    let P : Group → Type 0 = λ g. g.n ≤ live_units now l g in
    record {
      map = all_left P l.groups (group_list l.inode) enough;
      root = one_live now l (group_list l.inode) (all_right P l.groups (group_list l.inode) enough) one;
    }
