use Rattle.std.proofs.Common.{◌≡◌, ℕ, List, length}
use denote.Shadow.{shadow}
use denote.Text.{Utf8}
use Rattle.std.specs.List.{AllByRecursion}
use Rattle.domains.specs.Place.{Place, IsPlace}
use Rattle.report.specs.Words.{place_text, places_text}
use Rattle.report_reader.proofs.Parted.{Parted}
use Rattle.report_reader.proofs.comma_lists.places_of.Given as goal

-- what was read and what is left are the list
abbrev pub invariant-places : goal.invariant-places
invariant-places l =
    shadow (Utf8 l.rest) × (((all : List Place) → AllByRecursion IsPlace all → l.text ≡ places_text all → Parted place_text IsPlace all l.places.items l.rest) × AllByRecursion IsPlace l.places.items)

abbrev pub decreases-places : goal.decreases-places
decreases-places l = length l.rest
