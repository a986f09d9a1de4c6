-- When a file is clear.
use Rattle.std.specs.Prelude.{◌≡◌, ℕ, ◌+◌, ◌<◌, Bool, true, ◌&&◌, not, ◌⊎◌, List, [], ◌∷◌, length, take, Option, Some, None}
use Rattle.std.specs.List.{AllByRecursion, slice_get}
use Rattle.domains.specs.AtLevel.{AtLevel, InodeAt}
use Rattle.domains.specs.DriveSet.{has}
use Rattle.domains.specs.Level.{Level}
use Rattle.domains.specs.Place.{Place}
use Rattle.domains.specs.declared.drive_set.DriveSet.{DriveSet}
use Rattle.domains.specs.declared.group.Group.{Group}
use Rattle.file_history.specs.Layout.{Layout, Unit_, all_groups}
use Rattle.file_history.specs.Step.{AreClean}
use Rattle.file_heads.specs.DeadUnits.{names}

-- the group is at the requested level, and none of its units is dead or stands on one of the drives
pub record IsClear (l : Layout) (drives : DriveSet) (g : Group) : Type 0 where
  pub level : AtLevel g l.requested
  pub clean : AreClean g.places 0 l g.generation drives

-- the same of an inode's group
pub record IsClearInode (l : Layout) (drives : DriveSet) (g : Group) : Type 0 where
  pub level : InodeAt g l.requested
  pub clean : AreClean g.places 0 l g.generation drives

-- the groups before this position are clear, and the one there is not; the inode stands behind the last group
pub record IsFirstUnclear (l : Layout) (drives : DriveSet) (position : ℕ) : Type 0 where
  pub before : AllByRecursion (IsClear l drives) (take position l.groups)
  pub group : Group
  pub there : slice_get (all_groups l) position ≡ Some group
  pub broken : ((position < length l.groups) × (IsClear l drives group → ⊥)) ⊎ ((position ≡ length l.groups) × (IsClearInode l drives group → ⊥))

-- none of the units at these places, the first of which has this position, is one of the dead ones or stands on one of the drives
abbrev pub are_clean : List Place → ℕ → List Unit_ → ℕ → DriveSet → Bool
are_clean [] position dead generation drives = true
are_clean (s ∷ ss) position dead generation drives =
    (not (names dead generation position) && not (has drives s.drive)) && are_clean ss (position + 1) dead generation drives

-- the group is at the level, and none of its units is one of the dead ones or stands on one of the drives
pub record IsClearAt (level : Level) (dead : List Unit_) (drives : DriveSet) (g : Group) : Type 0 where
  pub level_is : AtLevel g level
  pub clean : are_clean g.places 0 dead g.generation drives ≡ true

-- the same of an inode's group
pub record IsClearInodeAt (level : Level) (dead : List Unit_) (drives : DriveSet) (g : Group) : Type 0 where
  pub level_is : InodeAt g level
  pub clean : are_clean g.places 0 dead g.generation drives ≡ true

-- the answer for an inode at this position: the position, unless the inode is clear
abbrev pub AnswersInode : Option Group → Level → List Unit_ → DriveSet → ℕ → Option ℕ → Type 0
AnswersInode None level dead drives at answer = answer ≡ None
AnswersInode (Some g) level dead drives at answer =
    ((answer ≡ None) × IsClearInodeAt level dead drives g) ⊎ ((answer ≡ Some at) × (IsClearInodeAt level dead drives g → ⊥))

-- the answer for these groups, the first of which has this position, and the inode behind them: the first that is not clear
abbrev pub AnswersFirst : List Group → Option Group → Level → List Unit_ → DriveSet → ℕ → Option ℕ → Type 0
AnswersFirst [] inode level dead drives at answer = AnswersInode inode level dead drives at answer
AnswersFirst (g ∷ gs) inode level dead drives at answer =
    (IsClearAt level dead drives g × AnswersFirst gs inode level dead drives (at + 1) answer)
    ⊎ ((answer ≡ Some at) × (IsClearAt level dead drives g → ⊥))
