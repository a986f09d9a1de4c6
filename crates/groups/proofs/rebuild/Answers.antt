use Rattle.std.proofs.Common.{◌≡◌, ◌∷◌, ◌++◌, [], List, ℕ, length, take, ap, sym, subst, ◌∙◌, arith}
use Rattle.std.proofs.lemmas.Grind.{common_steps}
use Rattle.std.proofs.lemmas.List.{take_all}
use Rattle.rs_codes.specs.Codes.{GivesUnit}
use Rattle.rs_codes.specs.Units.{UnitList, units_in}
use Rattle.rs_codes.specs.Weights.{IsWeightedSum}
use Rattle.rs_codes.proofs.CorrectionUnits.{sum_is_unit}
use Rattle.rs_codes.proofs.WeightsAtPositions.{written_whole}
use Rattle.groups.proofs.rebuild.Goals as goal

pub returns-clause-unit : goal.returns-clause-unit
returns-clause-unit c = λ word belongs.
    let held = c.args.have.now in
    let want = c.args.want in
    let ws = c.coefficients.result.now in
    let inputs = c.bytes-inputs.result.now in
    let sum = c.dot_any.new.out in
    let old = c.in_ok-unit.unit.items in
    let view = c.deref_mut.result.now in
    let scratch_length : length old ≡ held.unit_length = grind (arith, common_steps) in
    let same : length sum ≡ length view = c.dot_any.auto.out in
    let view_length : length view ≡ held.unit_length =
    ap (λ (l : List ℕ). length l) c.deref_mut.ensures.value ∙ scratch_length in
    let A : ℕ → Type 0 = λ l. IsWeightedSum ws (units_in (length ws) l inputs) sum in
    let is_unit =
    sum_is_unit c.args.n c.args.m want word ws inputs sum held belongs c.requires.size.some_data c.requires.enough
    c.bytes-inputs.ensures.units c.bytes-inputs.ensures.length c.requires.wanted
    (ap (λ (l : List ℕ). length l) c.coefficients.ensures ∙ c.in_ok-plan.ensures.count)
    (subst (GivesUnit c.args.n held.positions want) (sym c.coefficients.ensures) c.in_ok-plan.ensures.unit)
    (same ∙ view_length) (subst A view_length c.dot_any.ensures) in
    let kept : length old ≡ c.in_ok-unit.unit.len = sym (ap (λ (l : List ℕ). length l) c.deref_mut.ensures.value) ∙ c.deref_mut.ensures.len in
    let written = written_whole c.in_ok-unit.unit.len sum old kept (same ∙ c.deref_mut.ensures.len) in
    let len = c.unit_length-2.result in
    ap (λ (v : UnitList). v.units) c.from_bytes.ensures ∙ ap (λ (l : List ℕ). take len l ∷ []) written
    ∙ ap (λ (l : List ℕ). l ∷ []) (take_all len sum (omega (arith, same, view_length, c.unit_length-2.ensures)) ∙ is_unit)
