use Rattle.std.proofs.Common.{◌≡◌, ℕ, List, length}
use denote.Shadow.{shadow}
use denote.Text.{Utf8}
use Rattle.std.specs.List.{AllByRecursion}
use Rattle.domains.specs.Drive.{Drive, IsDrive}
use Rattle.report.specs.Words.{drives_text}
use Rattle.scenario.specs.Ops.{drive_text}
use Rattle.report_reader.proofs.Parted.{Parted}
use Rattle.report_reader.proofs.comma_lists.drives_of.Given as goal

-- what was read and what is left are the list
abbrev pub invariant-drives : goal.invariant-drives
invariant-drives l =
    shadow (Utf8 l.rest) × (((all : List Drive) → AllByRecursion IsDrive all → l.text ≡ drives_text all → Parted drive_text IsDrive all l.drives.items l.rest) × AllByRecursion IsDrive l.drives.items)

abbrev pub decreases-drives : goal.decreases-drives
decreases-drives l = length l.rest
