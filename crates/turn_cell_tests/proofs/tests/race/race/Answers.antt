use Rattle.std.proofs.Common.{ℕ, ◌≤◌, arith}
use Rattle.turn_cell.specs.declared.chronicle.Note.{Note}
use Rattle.turn_cell_tests.proofs.WrittenNumbers.{small_entries}
use Rattle.turn_cell.proofs.NoteLemmas.{every_note}
use Rattle.turn_cell_tests.proofs.tests.race.race.Goals as goal

pub returns-clause-small : goal.returns-clause-small
returns-clause-small g c =
    let P : Note ℕ → Type 0 = λ note. note.entry ≤ c.args.count in
    let both = c.in_ok-numbers.ensures in
    every_note 2 P _ both.below (λ k lt. small_entries 1 c.args.count c.args.count _ (omega arith) (both.order k lt))
