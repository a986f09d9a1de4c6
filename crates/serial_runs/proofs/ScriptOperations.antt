-- The operations of a scenario's scripts, by their places.
use Rattle.std.proofs.Common.{◌≡◌, ℕ, zero, suc, ◌+◌, ◌-◌, true, cond, ltb, ◌&&◌, List, [], ◌∷◌, length, map, Option, Some, None, slice_get, ap, ◌∙◌, arith}
use Rattle.std.specs.Prelude.{option_and_then, unwrap_or}
use Rattle.std.proofs.lemmas.Bool.{and_parts, eq-eqb, eqb-true, lt-ltb, ne_eqb}
use Rattle.std.proofs.lemmas.Option.{slice_get_within}
use Rattle.domains.specs.declared.by.By.{By}
use Rattle.legal_runs.specs.Actors.{is_by}
use Rattle.legal_runs.specs.Operations.{op_at}
use Rattle.serial_order.specs.SerialOrder.{operations_from, operations_of}
use Rattle.whole_scenario.specs.declared.op.Op.{Op}
use Rattle.whole_scenario.specs.declared.whole.Scenario.{Scenario}

-- the operation of this number of the client of this number, both from 0
pub op_at-is : (s : Scenario) (client index : ℕ) (script : List Op) (operation : Op) → slice_get s.actors client ≡ Some script → slice_get script index ≡ Some operation
    → op_at s (record { actor = client + 1; call = index + 1 }) ≡ Some operation
op_at-is s client index script operation is_script there =
    let some : (ltb 0 (client + 1) && ltb 0 (index + 1)) ≡ true = λ i. lt-ltb 0 (client + 1) (omega arith) i && lt-ltb 0 (index + 1) (omega arith) i in
    let at : client + 1 - 1 ≡ client = omega arith in
    let call : index + 1 - 1 ≡ index = omega arith in
    ap (λ e. cond e (option_and_then (λ (t : List Op). slice_get t (index + 1 - 1)) (slice_get s.actors (client + 1 - 1))) None) some
    ∙ (λ i. option_and_then (λ (t : List Op). slice_get t (call i)) (slice_get s.actors (at i)))
    ∙ ap (option_and_then (λ (t : List Op). slice_get t index)) is_script ∙ there

from-at : {A : Type 0} (scripts : List (List A)) (first i : ℕ) (script : List A) → slice_get scripts i ≡ Some script → operations_from (map length scripts) first (first + i) ≡ length script
from-at [] first i script there = absurd (let low = slice_get_within [] i script there in omega (arith, low))
from-at (t ∷ ts) first zero script there =
    ap (λ e. cond e (length t) (operations_from (map length ts) (first + 1) (first + 0))) (eq-eqb first (first + 0) (omega arith))
    ∙ ap length (ap (λ (o : Option _). unwrap_or o t) there)
from-at (t ∷ ts) first (suc i) script there =
    let at : first + suc i ≡ first + 1 + i = omega arith in
    ap (λ e. cond e (length t) (operations_from (map length ts) (first + 1) (first + suc i))) (ne_eqb first (first + suc i) (omega arith))
    ∙ ap (operations_from (map length ts) (first + 1)) at ∙ from-at ts (first + 1) i script there

-- the client has as many operations as its script
pub operations-script : {A : Type 0} (scripts : List (List A)) (client : ℕ) (script : List A) → slice_get scripts client ≡ Some script
    → operations_of (map length scripts) (client + 1) ≡ length script
operations-script scripts client script there =
    let at : client + 1 ≡ 1 + client = omega arith in
    ap (operations_of (map length scripts)) at ∙ from-at scripts 1 client script there

pub is_by-eq : (actor call : ℕ) (b : By) → is_by actor call b ≡ true → b ≡ record { actor = actor; call = call }
is_by-eq actor call b is =
    let parts = and_parts _ _ is in
    let a = eqb-true _ _ parts.0 in
    let c = eqb-true _ _ parts.1 in
    λ i. record { actor = a i; call = c i }
