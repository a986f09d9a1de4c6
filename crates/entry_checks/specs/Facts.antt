-- What is known of a file when its next entry is judged.
use Rattle.std.specs.Prelude.{◌≡◌, ◌≤◌, ◌^◌, true, length}
use Rattle.std.specs.List.{AllByRecursion}
use Rattle.file_history.specs.World.{Moment}
use Rattle.file_history.specs.Layout.{Layout, group_list}
use Rattle.placed_groups.specs.NewPlaces.{IsUsableSet}
use Rattle.entry_causes.specs.Sights.{HasFewPlaces, IsSightOf}
use Rattle.entry_checks.specs.declared.facts.FileFacts.{FileFacts}

-- the facts are those of the file at this moment
pub record AreFactsOf (f : FileFacts) (now : Moment) (l : Layout) : Type 0 where
  pub usable_is : IsUsableSet f.shape f.usable.now now l
  pub present_is : l.present ≡ f.present
  pub requested_is : l.requested ≡ f.requested
  pub next_is : l.next ≡ f.next
  pub sight_is : IsSightOf f.sight now l
  pub root_is : group_list l.inode ≡ f.root.now
  pub groups_are : l.groups ≡ f.groups.now

-- the facts are within the limits of a file, and a file that is there has an inode
pub record AreSound (f : FileFacts) : Type 0 where
  pub some_unit : 1 ≤ f.sight.unit
  pub wide : f.sight.unit ≤ 131072
  pub short : f.sight.size ≤ 2 ^ 29
  pub few : length f.groups.now ≤ 256
  pub places : AllByRecursion HasFewPlaces f.groups.now
  pub root_places : AllByRecursion HasFewPlaces f.root.now
  pub root_there : f.present ≡ true → length f.root.now ≡ 1
