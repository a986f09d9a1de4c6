-- Bars on a small run: three nodes of two drives, of which the third node failed.
use Rattle.std.proofs.Common.{◌≡◌, ℕ, true, List, [], ◌∷◌, refl, sym, subst, ◌∙◌, lit≤}
use Rattle.std.proofs.lemmas.Bool.{false≢true}
use Rattle.domains.specs.Drive.{Drive, IsDrive, same_drive}
use Rattle.domains.specs.DriveSet.{has}
use Rattle.domains.specs.Shape.{Shape}
use Rattle.domains.specs.Level.{two_copies}
use Rattle.domains.specs.declared.drive_set.DriveSet.{DriveSet}
use Rattle.domains.proofs.DriveLemmas.{same_drive-eq, same_drive-self}
use Rattle.board_history.specs.declared.entry.BoardEntry.{BoardEntry}
use Rattle.board_history.specs.declared.entry.Order.TheVariants.{FailNode}
use Rattle.board_history.specs.declared.entry.Effect.TheVariants.{Changed}
use Rattle.file_history.specs.World.{Moment, world_of, moment_at}
use Rattle.file_history.specs.Layout.{Layout, empty_layout}
use Rattle.file_history.specs.Step.{Bars}

shape : Shape
shape = record { nodes = 3; drives = 2; slots = 16; unit = 8 }

board : List BoardEntry
board = record { by = record { actor = 1; call = 1 }; order = FailNode 3; effect = Changed } ∷ []

abbrev now : Moment
now = moment_at (world_of shape board two_copies) 1

abbrev drive_3 : ℕ → Drive
drive_3 number = record { node = 3; drive = number }

-- a drive that the failed node does not have is not barred
outside : (l : Layout) (drives : DriveSet) → has drives (drive_3 9) ≡ true → Bars now l drives → ⊥
unfolding shape board
outside l drives there bars =
    false≢true (bars.gone (drive_3 9) (record { some_node = lit≤ tt; nodes = lit≤ tt; some_drive = lit≤ tt; drives = lit≤ tt }) there)

-- and one that it has is
inside : (drives : DriveSet) → ((d : Drive) → IsDrive d → has drives d ≡ same_drive d (drive_3 1)) → Bars now (empty_layout two_copies) drives
unfolding shape board
inside drives only =
    let first : IsDrive (drive_3 1) = record { some_node = lit≤ tt; nodes = lit≤ tt; some_drive = lit≤ tt; drives = lit≤ tt } in
    record {
      gone = λ d is there. subst (λ (e : Drive). now.gone e ≡ true) (sym (same_drive-eq d (drive_3 1) (sym (only d is) ∙ there))) refl;
      one = drive_3 1;
      is_drive = first;
      there = only (drive_3 1) first ∙ same_drive-self (drive_3 1);
      new = refl;
    }
