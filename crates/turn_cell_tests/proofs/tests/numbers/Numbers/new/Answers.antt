use Rattle.turn_cell_tests.proofs.WrittenNumbers.{zeros_at}
use Rattle.turn_cell_tests.proofs.tests.numbers.Numbers.new.Goals as goal

pub returns-clause-written : goal.returns-clause-written
returns-clause-written c = zeros_at 32
