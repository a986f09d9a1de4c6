-- Which entries stand against a change that was made ready before them.
use Rattle.std.specs.Prelude.{ℕ, ◌+◌, ◌==◌, nat_lt, Bool, false, ◌&&◌, ◌||◌, not, if◌then◌else◌, List, [], ◌∷◌, Option, None, Some}
use Rattle.std.specs.List.{list_any}
use Rattle.domains.specs.Drive.{Drive}
use Rattle.domains.specs.DriveSet.{has}
use Rattle.domains.specs.declared.drive_set.DriveSet.{DriveSet}
use Rattle.domains.specs.Place.{Place}
use Rattle.domains.specs.Level.{same_level}
use Rattle.domains.specs.declared.group.Group.{Group}
use Rattle.inode_codec.specs.Inode.{units_for}
use Rattle.file_history.specs.Layout.{is_among}
use Rattle.file_history.specs.declared.entry.FileEntry.{FileEntry}
use Rattle.file_history.specs.declared.entry.FileEvent.{FileEvent}
use Rattle.file_history.specs.declared.entry.FileEvent.TheVariants.{Created, Deleted, Written, Shown, LevelSet, Placed, Dead, Barred, Cleared, Marked, Refused}
use Rattle.stale_changes.specs.declared.basis.Basis.{Basis}
use Rattle.stale_changes.specs.declared.basis.KeptUnit.{KeptUnit}
use Rattle.stale_changes.specs.declared.stale.Stale.{Stale}
use Rattle.stale_changes.specs.declared.stale.Stale.TheVariants as stale

-- the first of two causes
abbrev pub first_cause : Option Stale → Option Stale → Option Stale
first_cause None later = later
first_cause (Some cause) later = Some cause

-- the entry replaced one of these generations: the first such
abbrev pub replaced_by : List ℕ → List ℕ → ℕ → Option Stale
replaced_by [] gone entry = None
replaced_by (g ∷ gs) gone entry = if is_among gone g then Some (stale.Replaced g entry) else replaced_by gs gone entry

-- the change writes past the last of the data units that the file had
abbrev pub adds_units : Basis → Bool
adds_units b = nat_lt b.units (units_for b.unit b.end)

-- one of the groups has the generation
abbrev pub has_generation : Option ℕ → List Group → Bool
has_generation None groups = false
has_generation (Some generation) groups = list_any (λ (g : Group). g.generation == generation) groups

-- the entry moved the end of the file
abbrev pub end_moved : Bool → ℕ → Option Stale
end_moved moved entry = if moved then Some (stale.Units entry) else None

-- the first of these places' drives that is in the set
abbrev pub drive_in : List Place → DriveSet → Option Drive
drive_in [] drives = None
drive_in (s ∷ ss) drives = if has drives s.drive then Some s.drive else drive_in ss drives

-- the entry barred this drive
abbrev pub told_barred : Option Drive → ℕ → Option Stale
told_barred None entry = None
told_barred (Some d) entry = Some (stale.Barred d entry)

-- the unit is one of these
abbrev pub is_kept : List KeptUnit → ℕ → ℕ → Bool
is_kept kept generation position = list_any (λ (u : KeptUnit). (u.generation == generation) && (u.position == position)) kept

-- why the event of the entry with this number stands against a change that replaces the groups with the generations `old`, keeps
-- these units of them, and has new units at these places, if it does
abbrev pub cause_of : Basis → List ℕ → List KeptUnit → List Place → ℕ → FileEvent → Option Stale
cause_of b old kept places entry (Created inode) = Some (stale.Presence entry)
cause_of b old kept places entry Deleted = Some (stale.Presence entry)
cause_of b old kept places entry (Written offset len size c) =
    first_cause (replaced_by old c.old entry)
    (end_moved (adds_units b && (not (units_for b.unit size == b.units) || has_generation b.last c.new)) entry)
cause_of b old kept places entry (Shown offset len bytes) = None
cause_of b old kept places entry (LevelSet level) = if same_level level b.level then None else Some (stale.Level entry)
cause_of b old kept places entry (Placed job c) =
    first_cause (replaced_by old c.old entry) (end_moved (adds_units b && has_generation b.last c.new) entry)
cause_of b old kept places entry (Dead generation position) =
    if is_kept kept generation position then Some (stale.Dead generation position entry) else None
cause_of b old kept places entry (Barred job drives) = told_barred (drive_in places drives) entry
cause_of b old kept places entry (Cleared job drives) = None
cause_of b old kept places entry (Marked job count) = None
cause_of b old kept places entry (Refused why) = None

-- why one of these entries, which stand behind `before` others, stands against the change: the first that does
abbrev pub cause_in : List FileEntry → ℕ → Basis → List ℕ → List KeptUnit → List Place → Option Stale
cause_in [] before b old kept places = None
cause_in (e ∷ es) before b old kept places =
    first_cause (cause_of b old kept places (before + 1) e.event) (cause_in es (before + 1) b old kept places)
