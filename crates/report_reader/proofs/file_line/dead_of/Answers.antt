use Rattle.std.proofs.Common.{arith}
use Rattle.std.specs.Fmt.{decimal}
use Rattle.report_reader.proofs.Cuts.{number_word}
use Rattle.report_reader.proofs.ReadEvents.{dead_is}
use Rattle.report_reader.proofs.file_line.dead_of.Goals as goal

pub returns-clause-only : goal.returns-clause-only
returns-clause-only c = λ generation position a b text.
    let parts = c.cut.ensures.at (decimal generation) (decimal position) (number_word generation (omega (arith, a))).0 text in
    dead_is c.u32_of.result c.u8_of.result generation position (c.u32_of.ensures generation a parts.0) (c.u8_of.ensures position b parts.1)
