-- What is stored, group by group, before an entry and after it.
use Rattle.std.proofs.Common.{◌≡◌, ℕ, true, inl, inr, List, [], ◌∷◌, IfSome, refl, sym, subst, arith}
use Rattle.std.specs.List.{AllByRecursion}
use Rattle.std.proofs.lemmas.Bool.{cases_lt}
use Rattle.domains.specs.Place.{Place}
use Rattle.domains.specs.Level.{Level}
use Rattle.domains.specs.declared.group.Group.{Group}
use Rattle.inode_codec.specs.Inode.{inode_bytes}
use Rattle.file_history.specs.World.{Moment}
use Rattle.file_history.specs.Layout.{Layout, all_groups, group_list, is_taken, layout_after_event}
use Rattle.file_history.specs.Stored.{HoldsGroup, inode_of}
use Rattle.file_history.specs.Step.{IsEvent}
use Rattle.file_history.specs.declared.entry.FileEvent.{FileEvent}
use Rattle.file_history.specs.declared.entry.FileEvent.TheVariants as event
use Rattle.file_history.specs.declared.entry.NotedEntry.{NotedEntry}
use Rattle.map_changes.proofs.Pairs.{All-left, All-right}
use Rattle.map_changes.proofs.ChangedInodes.{numbered_last}
use Rattle.map_laws.specs.MappedGroups.{IsMapped, bytes_of_units}
use Rattle.map_laws.proofs.StandingGroups.{stands-all}
use Rattle.map_laws.proofs.ChangedRuns.{IsChanged, stays}
use Rattle.stored_laws.specs.WrittenUnits.{AreWritten, Contents}
use Rattle.stored_laws.proofs.TakenPlaces.{all_taken, held_group, same_contents, spelled_places}

-- the inode's units spell the inode, and a file with an inode is there
pub record IsRootHeld (held : Contents) (unit : ℕ) (l : Layout) : Type 0 where
  pub spelled : AllByRecursion (λ (g : Group). AllByRecursion (λ (s : Place). IfSome (held s) (λ content. content ≡ inode_bytes (inode_of unit l))) g.places) (group_list l.inode)
  pub present : AllByRecursion (λ (g : Group). l.present ≡ true) (group_list l.inode)

-- each group of the map holds its part of the bytes
pub record IsHeld (held : Contents) (unit : ℕ) (l : Layout) (bytes : List ℕ) : Type 0 where
  pub groups : (g : Group) (first : ℕ) → IsMapped l.groups g first → HoldsGroup held unit g (bytes_of_units unit bytes first g.n)
  pub root : IsRootHeld held unit l

abbrev AreTaken : Layout → Group → Type 0
AreTaken l g = AllByRecursion (λ (s : Place). is_taken (all_groups l) s ≡ true) g.places

taken_inode : (l : Layout) → AllByRecursion (AreTaken l) (group_list l.inode)
taken_inode l = All-right (AreTaken l) l.groups (group_list l.inode) (all_taken l)

taken_group : (l : Layout) (g : Group) (first : ℕ) → IsMapped l.groups g first → AreTaken l g
taken_group l g first mapped = stands-all (AreTaken l) l.groups 0 g first (All-left (AreTaken l) l.groups (group_list l.inode) (all_taken l)) mapped

-- an inode that stays
root_stays : (held later : Contents) (unit : ℕ) (l : Layout) → ((s : Place) → is_taken (all_groups l) s ≡ true → is_taken (all_groups l) s ≡ true → later s ≡ held s)
    → IsRootHeld held unit l → IsRootHeld later unit l
root_stays held later unit l stay root = record { spelled = over (group_list l.inode) (taken_inode l) root.spelled; present = root.present }
  where
    over : (gs : List Group) → AllByRecursion (AreTaken l) gs
        → AllByRecursion (λ (g : Group). AllByRecursion (λ (s : Place). IfSome (held s) (λ content. content ≡ inode_bytes (inode_of unit l))) g.places) gs
        → AllByRecursion (λ (g : Group). AllByRecursion (λ (s : Place). IfSome (later s) (λ content. content ≡ inode_bytes (inode_of unit l))) g.places) gs
    over [] taken spelled = tt
    over (g ∷ gs) taken spelled = (
      spelled_places g.places (inode_bytes (inode_of unit l)) held later (same_contents l l held later g.places stay taken.0 taken.0) spelled.0,
      over gs taken.1 spelled.1,
    )

pub root_next : (now : Moment) (declared : Level) (log : List NotedEntry) (l : Layout) (payload bytes : List ℕ) (e : FileEvent) (held later : Contents)
    → IsEvent now log l payload e → AreWritten now.shape.unit l (layout_after_event declared e l) bytes held later → IsRootHeld held now.shape.unit l
    → IsRootHeld later now.shape.unit (layout_after_event declared e l)
root_next now declared log l payload bytes (event.Created inode) held later legal w root = record {
  spelled = (w.inode.0 (let number = legal.number in omega (arith, number)), tt);
  present = (refl, tt);
}
root_next now declared log l payload bytes event.Deleted held later legal w root = record { spelled = tt; present = tt }
root_next now declared log l payload bytes (event.Written offset len size change) held later legal w root =
    let last = numbered_last l.next change.new change.inode legal.2.numbers in record {
      spelled = (w.inode.0 (omega (arith, last)), tt);
      present = (legal.2.present, tt);
    }
root_next now declared log l payload bytes (event.Shown offset len shown) held later legal w root = root_stays held later now.shape.unit l w.stay root
root_next now declared log l payload bytes (event.LevelSet level) held later legal w root =
    let stays = root_stays held later now.shape.unit l w.stay root in record { spelled = stays.spelled; present = stays.present }
root_next now declared log l payload bytes (event.Placed job change) held later legal w root =
    let last = numbered_last l.next change.new change.inode legal.numbers in record {
      spelled = (w.inode.0 (omega (arith, last)), tt);
      present = (legal.present, tt);
    }
root_next now declared log l payload bytes (event.Dead generation position) held later legal w root =
    let stays = root_stays held later now.shape.unit l w.stay root in record { spelled = stays.spelled; present = stays.present }
root_next now declared log l payload bytes (event.Barred job drives) held later legal w root =
    let stays = root_stays held later now.shape.unit l w.stay root in record { spelled = stays.spelled; present = stays.present }
root_next now declared log l payload bytes (event.Cleared job drives) held later legal w root = root_stays held later now.shape.unit l w.stay root
root_next now declared log l payload bytes (event.Marked job count) held later legal w root = root_stays held later now.shape.unit l w.stay root
root_next now declared log l payload bytes (event.Refused why) held later legal w root = root_stays held later now.shape.unit l w.stay root

-- the groups of the map after an entry
pub groups_next : (unit : ℕ) (gone : List ℕ) (fresh : List Group) (l after : Layout) (bytes after_bytes : List ℕ) (held later : Contents)
    → IsChanged l.next unit gone fresh l.groups after.groups bytes after_bytes → AreWritten unit l after after_bytes held later
    → ((g : Group) (first : ℕ) → IsMapped l.groups g first → HoldsGroup held unit g (bytes_of_units unit bytes first g.n))
    → (g : Group) (first : ℕ) → IsMapped after.groups g first → HoldsGroup later unit g (bytes_of_units unit after_bytes first g.n)
groups_next unit gone fresh l after bytes after_bytes held later c w each g first mapped = elim (cases_lt g.generation l.next) [
  | inl early ↦
      let here = stays l.next unit gone fresh l.groups after.groups bytes after_bytes c g first mapped early in
      subst (HoldsGroup later unit g) (sym here.bytes)
      (held_group held later unit g (bytes_of_units unit bytes first g.n)
      (same_contents l after held later g.places w.stay (taken_group l g first here.stood) (taken_group after g first mapped)) (each g first here.stood))
  | inr late ↦ w.groups g first mapped late
]
