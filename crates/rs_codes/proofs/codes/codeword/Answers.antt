use Rattle.std.proofs.Common.{◌≡◌, ◌<◌, ℕ, List, length, ◌+◌, ◌*◌, take, drop, replicate, ap, sym, subst, ◌∙◌, arith, length-append, All}
use Rattle.std.proofs.lemmas.List.{take-append-le, take_all}
use Rattle.std.proofs.lemmas.Simd.{length-replicate}
use Rattle.galois.specs.Field.{IsByte}
use Rattle.galois.specs.Codeword.{IsCodeword, unit_at}
use Rattle.rs_codes.specs.Units.{units_in}
use Rattle.rs_codes.specs.Weights.{IsWeightedSum}
use Rattle.rs_codes.proofs.WeightRows.{codeword_joined}
use Rattle.rs_codes.proofs.WeightsAtPositions.{written_whole}
use Rattle.rs_codes.proofs.codes.codeword.Goals as goal

-- the buffer as the kernel leaves it is a codeword of the data
built : (c : goal.After-drop-rows-inside-2) → IsCodeword c.args.n c.args.m c.from_bytes.result.units × (take c.args.n c.from_bytes.result.units ≡ c.args.input.now.units)
built c =
    let inputs = c.bytes-inputs.result.now in
    let start = length inputs in
    let input = c.args.input.now in
    let rows = c.in_ok-rows.rows in
    let len = c.unit_length-len.result in
    let room = c.from.result * len in
    let zeros : List ℕ = replicate room 0 in
    let old = c.in_ok-bytes.bytes.items in
    let new = c.put_after_data.new.bytes in
    let view_is = c.deref_mut.ensures.value ∙ c.in_ok-bytes.ensures in
    let old_long : length old ≡ start + room =
    ap (λ (l : List ℕ). length l) c.in_ok-bytes.ensures ∙ length-append inputs zeros ∙ ap (λ (k : ℕ). start + k) (length-replicate {A = ℕ} room 0) in
    let front : take start c.deref_mut.result.now ≡ inputs =
    ap (take start) view_is ∙ take-append-le start inputs zeros (omega arith) ∙ take_all start inputs (omega arith) in
    let long = c.put_after_data.auto.bytes ∙ c.deref_mut.ensures.len in
    let kept : length old ≡ c.in_ok-bytes.bytes.len = sym (ap (λ (l : List ℕ). length l) c.deref_mut.ensures.value) ∙ c.deref_mut.ensures.len in
    let P : List ℕ → Type 0 = λ l. (r : ℕ) → r < length rows.units → IsWeightedSum (unit_at rows.units r) (units_in rows.unit_length len l)
    (unit_at (units_in (length rows.units) len (drop start new)) r) in
    codeword_joined c.args.n c.args.m len c.unit_length.result inputs new _ input rows c.from_bytes.result c.unit_length-len.ensures
    c.unit_length.ensures (written_whole _ new old kept long) (c.put_after_data.ensures.data ∙ front) c.from_bytes.ensures
    c.in_ok-rows.ensures.weights c.requires.data c.in_ok-rows.ensures.count c.bytes-inputs.ensures.units c.bytes-inputs.ensures.length
    (subst (All IsByte) front c.put_after_data.ensures.bytes)
    (long ∙ sym kept ∙ old_long ∙ ap (λ (a : ℕ). start + a * len) c.from.ensures)
    c.requires.size.some_data (omega arith) (subst P front c.put_after_data.ensures.sums)

pub returns-clause-word : goal.returns-clause-word
returns-clause-word c = (built c).0

pub returns-clause-data : goal.returns-clause-data
returns-clause-data c = (built c).1
