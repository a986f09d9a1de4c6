use Rattle.std.proofs.Common.{◌≡◌, ℕ, List, length}
use denote.Shadow.{shadow}
use denote.Text.{Utf8}
use Rattle.std.specs.List.{AllByRecursion}
use Rattle.report_reader.specs.Lines.{IsGeneration}
use Rattle.report.specs.Words.{numbers_text}
use Rattle.std.specs.Fmt.{decimal}
use Rattle.report_reader.proofs.Parted.{Parted}
use Rattle.report_reader.proofs.comma_lists.generations_of.Given as goal

-- what was read and what is left are the list
abbrev pub invariant-generations : goal.invariant-generations
invariant-generations l =
    shadow (Utf8 l.rest) × (((all : List ℕ) → AllByRecursion IsGeneration all → l.text ≡ numbers_text all → Parted decimal IsGeneration all l.generations.items l.rest) × AllByRecursion IsGeneration l.generations.items)

abbrev pub decreases-generations : goal.decreases-generations
decreases-generations l = length l.rest
