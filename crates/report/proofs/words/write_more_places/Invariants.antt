use Rattle.std.proofs.Common.{◌≡◌, ◌++◌, drop, string_bytes}
use Rattle.report.specs.Words.{more_places}
use Rattle.report.proofs.words.write_more_places.Given as goal

-- what is written and what is to come
abbrev pub invariant-loop-place : goal.invariant-loop-place
invariant-loop-place l = string_bytes l.text ++ more_places (drop l.place-index l.places) ≡ string_bytes l.fn.text ++ more_places l.places
