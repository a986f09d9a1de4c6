use Rattle.std.proofs.Common.{arith}
use Rattle.std.proofs.lemmas.Fmt.{parse-decimal}
use Rattle.report_reader.proofs.words.u64_of.Goals as goal

pub returns : goal.returns
returns c = λ n low is.
    let read = parse-decimal 64 n c.args.text.now c.parse.result low (omega (arith, low)) is c.parse.ensures.value.0 in
    rw read at c.unwrap_or.ensures
