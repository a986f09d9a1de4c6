use Rattle.std.proofs.Common.{◌≡◌, ℕ, ◌++◌, ◌∷◌, sym, subst, arith}
use Rattle.std.specs.Fmt.{decimal}
use Rattle.report_reader.specs.Events.{IsWrite, outcome_rest, outcome_text, outcome_word}
use Rattle.report_reader.proofs.Cuts.{number_word}
use Rattle.report_reader.proofs.ReadEvents.{outcome_clean}
use Rattle.report_reader.proofs.file_line.write_of.Goals as goal

pub returns-clause-only : goal.returns-clause-only
returns-clause-only c = λ offset len e range fit kind text.
    let first = c.cut.ensures.at (decimal offset) (decimal len ++ 32 ∷ outcome_text e) (number_word offset range.0).0 text in
    let second = c.cut-2.ensures.at (decimal len) (outcome_text e) (number_word len (omega (arith, range.1))).0 first.1 in
    let third = c.cut-3.ensures.at (outcome_word e) (outcome_rest e) (outcome_clean e) second.1 in
    let from : c.u64_of.result ≡ offset = c.u64_of.ensures offset range.0 first.0 in
    let long : c.u32_of.result ≡ len = c.u32_of.ensures len range.1 second.0 in
    c.in_ok-event.ensures.only e fit (subst (λ (o : ℕ). IsWrite o c.u32_of.result e) (sym from) (subst (λ (n : ℕ). IsWrite offset n e) (sym long) kind)) third.0 third.1
