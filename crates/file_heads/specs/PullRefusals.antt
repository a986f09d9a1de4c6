-- Why nothing is pulled.
use Rattle.std.specs.Prelude.{ℕ, ◌==◌, Bool, true, false, if◌then◌else◌, List, [], ◌∷◌, ◌++◌, Option, Some, None}
use Rattle.std.specs.List.{list_any}
use Rattle.board.specs.declared.board_view.View.{View}
use Rattle.domains.specs.Shape.{Shape}
use Rattle.domains.specs.declared.group.Group.{Group}
use Rattle.domains.specs.declared.group.Lost.{Lost}
use Rattle.file_history.specs.World.{Moment}
use Rattle.file_history.specs.Layout.{Layout, Unit_, all_groups}
use Rattle.file_history.specs.Live.{Part, range, write, one, first_short}
use Rattle.file_heads.specs.declared.part.PullRefusal.{PullRefusal}
use Rattle.file_heads.specs.declared.part.PullRefusal.TheVariants as refusal
use Rattle.striped_groups.specs.StoredGroups.{GroupSlots}
use Rattle.file_heads.specs.Parts.{first_of, lost_from, lost_of}

-- the generation that the part asks for, if none of these groups has it
abbrev pub unknown_in : List Group → Part → Option ℕ
unknown_in groups (range offset len) = None
unknown_in groups (write offset len width) = None
unknown_in groups (one generation) = if list_any (λ (g : Group). g.generation == generation) groups then None else Some generation

-- the same of the groups of a layout
abbrev pub unknown_of : Layout → Part → Option ℕ
unknown_of l part = unknown_in (all_groups l) part

-- of two causes, the first that there is
abbrev pub first_cause : Option ℕ → Option Lost → Option PullRefusal
first_cause (Some generation) lost = Some (refusal.Unknown generation)
first_cause None (Some lost) = Some (refusal.Lost lost)
first_cause None None = None

-- the first cause of a refusal but want of memory: the file is absent, no group has the generation, a group has too few live units
abbrev pub refusal_from : Bool → Option ℕ → Option Lost → Option PullRefusal
refusal_from false unknown lost = Some refusal.Absent
refusal_from true unknown lost = first_cause unknown lost

-- the same at a moment
abbrev pub refusal_of : Moment → Layout → Part → Option PullRefusal
refusal_of now l part = refusal_from l.present (unknown_of l part) (first_short now l part)

-- the group of the slots, if there are any
abbrev pub group_of : {S : Type 0} → Option (GroupSlots S) → Option Group
group_of None = None
group_of (Some s) = Some s.group

-- why nothing is pulled of a file with this inode's group and these groups, but for want of memory
abbrev pub refusal_in : Option Group → List Group → Shape → View → List Unit_ → ℕ → Part → Option PullRefusal
refusal_in None groups shape view dead size part = Some refusal.Absent
refusal_in (Some g) groups shape view dead size part =
    first_cause (unknown_in (groups ++ g ∷ []) part) (first_of (lost_of shape view dead g) (lost_from groups 0 shape view dead size part))
