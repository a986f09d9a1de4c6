-- The bytes at hand cover a run.
use Rattle.std.proofs.Common.{◌≡◌, ℕ, ◌+◌, ◌-◌, ◌*◌, ◌≤◌, inl, inr, min, max, eqb, List, [], ◌∷◌, sym, ap, subst, ◌∙◌, arith}
use Rattle.std.proofs.lemmas.Bool.{cases_Bool, cases_eq, cond-false, cond-true, eqb-true}
use Rattle.write_rule.specs.NewBytes.{StaysAround}
use Rattle.write_rule.specs.declared.new_bytes.NewBytes.{NewBytes}
use Rattle.write_rule.specs.declared.run.ReplacedRun.{ReplacedRun}
use Rattle.write_units.specs.Laws.{CoverRun, HoldsRange}
use Rattle.write_units.specs.Spans.{Span, units_up_to}

-- a span that ends before a unit has no more units than those before it
up_to_within : (spans : List Span) (stop : ℕ) → units_up_to spans stop ≤ stop
up_to_within [] stop = omega arith
up_to_within (s ∷ ss) stop = elim (cases_Bool (eqb (s.start + s.count) stop)) [
  | inl here ↦ let sum = eqb-true (s.start + s.count) stop here in subst (λ (n : ℕ). n ≤ stop) (sym (cond-true (eqb (s.start + s.count) stop) s.count (units_up_to ss stop) here)) (omega (arith, sum))
  | inr other ↦ subst (λ (n : ℕ). n ≤ stop) (sym (cond-false (eqb (s.start + s.count) stop) s.count (units_up_to ss stop) other)) (up_to_within ss stop)
]

-- the bytes behind the range are at hand
pub last_covers : (unit size offset len from long to : ℕ) (run : ReplacedRun) (spans : List Span) → HoldsRange unit size offset len run → CoverRun unit size offset len run spans
    → long ≡ units_up_to spans (run.start + run.units) * unit
    → (1 ≤ units_up_to spans (run.start + run.units) → from ≡ (run.start + run.units - units_up_to spans (run.start + run.units)) * unit)
    → (units_up_to spans (run.start + run.units) ≡ 0 → from ≡ offset + len)
    → to ≡ (run.start + run.new_units) * unit → min to size ≤ max (offset + len) (from + long)
last_covers unit size offset len from long to run spans holds covers long_is from_is none to_is = elim (cases_eq (units_up_to spans (run.start + run.units)) 0) [
  | inl nothing ↦ let behind = covers.behind nothing in omega (arith, behind, to_is)
  | inr more ↦
      let begins = from_is (omega (arith, more)) in
      let within = up_to_within spans (run.start + run.units) in
      let whole = parts (run.start + run.units) (units_up_to spans (run.start + run.units)) unit within in
      let behind = holds.behind in
      omega (arith, begins, long_is, whole, behind, to_is)
]
  where
    parts : (stop k unit : ℕ) → k ≤ stop → (stop - k) * unit + k * unit ≡ stop * unit
    parts stop k unit within =
        let sum : stop - k + k ≡ stop = omega (arith, within) in
        joined (stop - k) k unit ∙ ap (λ (n : ℕ). n * unit) sum
      where
        joined : (a b c : ℕ) → a * c + b * c ≡ (a + b) * c
        joined a b c = grind arith

-- what stays, told for equal ends
pub stays_at : (bytes : List ℕ) (from from' to to' offset len : ℕ) (b : NewBytes) → from ≡ from' → to ≡ to' → StaysAround bytes from to offset len b → StaysAround bytes from' to' offset len b
stays_at bytes from from' to to' offset len b first last is =
    subst (λ (n : ℕ). StaysAround bytes from' n offset len b) last (subst (λ (n : ℕ). StaysAround bytes n to offset len b) first is)
