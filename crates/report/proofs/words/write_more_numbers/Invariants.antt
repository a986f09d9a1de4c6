use Rattle.std.proofs.Common.{◌≡◌, ◌++◌, drop, string_bytes}
use Rattle.report.specs.Words.{more_numbers}
use Rattle.report.proofs.words.write_more_numbers.Given as goal

-- what is written and what is to come
abbrev pub invariant-loop-number : goal.invariant-loop-number
invariant-loop-number l = string_bytes l.text ++ more_numbers (drop l.number-index l.numbers) ≡ string_bytes l.fn.text ++ more_numbers l.numbers
