use Rattle.std.proofs.Common.{ℕ, List, length, ◌*◌, ap, sym, ◌∙◌, arith}
use Rattle.rs_codes.proofs.CorrectionUnits.{data_of_buffer}
use Rattle.rs_codes.proofs.WeightRows.{codeword_made}
use Rattle.rs_codes.proofs.WeightsAtPositions.{written_whole}
use Rattle.rs_codes.proofs.codes.encode.Goals as goal

pub returns-clause-word : goal.returns-clause-word
returns-clause-word c =
    let inputs = c.bytes-inputs.result.now in
    let input = c.args.input.now in
    let out = c.put_corrections.new.out in
    let long = c.put_corrections.auto.out ∙ c.deref_mut.ensures.len in
    codeword_made c.args.n c.args.m c.unit_length-len.result c.unit_length.result inputs out _ input c.in_ok-rows.rows c.from_bytes.result
    c.unit_length-len.ensures c.unit_length.ensures
    (written_whole _ out c.in_ok-bytes.bytes.items (ap (λ (l : List ℕ). length l) (sym c.deref_mut.ensures.value) ∙ c.deref_mut.ensures.len) long)
    c.from_bytes.ensures c.in_ok-rows.ensures.weights c.requires.data c.in_ok-rows.ensures.count c.bytes-inputs.ensures.units
    (data_of_buffer c.args.n inputs input c.requires.data c.bytes-inputs.ensures.units c.bytes-inputs.ensures.length
    c.put_corrections.ensures.bytes)
    (long ∙ c.in_ok-bytes.ensures.len ∙ ap (λ (a : ℕ). a * c.unit_length-len.result) c.from.ensures)
    c.requires.size.some_data (omega arith) c.put_corrections.ensures.sums
