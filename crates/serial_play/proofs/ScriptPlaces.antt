-- Where the operation of an actor stands in the scripts.
use Rattle.std.proofs.Common.{◌≡◌, ℕ, zero, suc, ◌+◌, ◌-◌, ◌<◌, ◌≤◌, true, false, ◌&&◌, cond, eqb, ltb, List, [], ◌∷◌, ◌++◌, length, map, take, drop, Option, None, Some, slice_get, slice_index_or, refl, sym, ap, subst, ◌∙◌, arith}
use Rattle.std.specs.Prelude.{is_some, option_and_then, unwrap_or}
use Rattle.std.specs.List.{AllByRecursion}
use Rattle.std.proofs.lemmas.Bool.{eqb-true, false≢true}
use Rattle.std.proofs.lemmas.Option.{slice_get-get_or, slice_get_within}
use Rattle.actor_operations.specs.Operations.{IsPlayable}
use Rattle.domains.specs.declared.by.By.{By}
use Rattle.legal_runs.specs.Operations.{op_at}
use Rattle.serial_order.specs.SerialOrder.{AreAscending, IsOperation, is_earlier, operations_from, serial_order}
use Rattle.serial_order.proofs.OrderLemmas.{order-ascends, order-operations}
use Rattle.serial_runs.proofs.OrderedOperations.{all-at}
use Rattle.serial_runs.proofs.ScriptOperations.{op_at-is}
use Rattle.whole_scenario.specs.declared.op.Op.{Op}
use Rattle.whole_scenario.specs.declared.whole.Scenario.{Scenario}
use Rattle.serial_play.specs.PlayedRuns.{IsPlayableScenario}
use Rattle.serial_play.proofs.PlayedActions.{element_within}
use Rattle.serial_play.proofs.PlayedSteps.{done-earlier}

-- the script of an actor that has this many operations, where the first script is that of actor `first`
pub record HasScript {A : Type 0} (scripts : List (List A)) (first actor call : ℕ) : Type 0 where
  pub index : ℕ
  pub script : List A
  pub there : slice_get scripts index ≡ Some script
  pub numbered : actor ≡ first + index
  pub enough : call ≤ length script

pub has-script : {A : Type 0} (scripts : List (List A)) (first actor call : ℕ) → 1 ≤ call → call ≤ operations_from (map length scripts) first actor → HasScript scripts first actor call
has-script [] first actor call some within = absurd (let none : call ≤ 0 = within in omega (arith, some, none))
has-script (t ∷ ts) first actor call some within =
    elim (eqb first actor) as (λ e. eqb first actor ≡ e → call ≤ cond e (length t) (operations_from (map length ts) (first + 1) actor) → HasScript (t ∷ ts) first actor call) [
      | true ↦ λ here enough.
          let same = eqb-true first actor here in
          record { index = 0; script = t; there = refl; numbered = omega (arith, same); enough = enough }
      | false ↦ λ other more.
          let rest = has-script ts (first + 1) actor call some more in
          let numbered = rest.numbered in
          record { index = suc rest.index; script = rest.script; there = rest.there; numbered = omega (arith, numbered); enough = rest.enough }
    ] refl within

pub script-of : (s : Scenario) (by : By) → IsOperation (map length s.actors) by → HasScript s.actors 1 by.actor by.call
script-of s by is = has-script s.actors 1 by.actor by.call is.some is.within

-- the operation that stands there
pub op_at-there : (s : Scenario) (by : By) (client index : ℕ) (script : List Op) (operation : Op) → slice_get s.actors client ≡ Some script → slice_get script index ≡ Some operation
    → by.actor ≡ client + 1 → by.call ≡ index + 1 → op_at s by ≡ Some operation
op_at-there s by client index script operation is_script there actor call =
    (λ i. op_at s (record { actor = actor i; call = call i })) ∙ op_at-is s client index script operation is_script there

-- an operation of some scripts, each of whose operations is one of a kind
kind-at : (P : Op → Type 0) (o : Option (List Op)) (i : ℕ) (operation : Op) → ((script : List Op) → o ≡ Some script → AllByRecursion P script)
    → option_and_then (λ (t : List Op). slice_get t i) o ≡ Some operation → P operation
kind-at P None i operation each is = absurd (false≢true (ap is_some is))
kind-at P (Some t) i operation each is = all-at P t i operation (each t refl) is

-- the operation of a place can be played
pub playable-at : (s : Scenario) (by : By) (operation : Op) → IsPlayableScenario s → op_at s by ≡ Some operation → IsPlayable s.shape (length s.files) operation
playable-at s by operation all =
    let P : Op → Type 0 = IsPlayable s.shape (length s.files) in
    elim (ltb 0 by.actor && ltb 0 by.call) as (λ e. cond e (option_and_then (λ (t : List Op). slice_get t (by.call - 1)) (slice_get s.actors (by.actor - 1))) None ≡ Some operation → P operation) [
      | true ↦ λ is. kind-at P (slice_get s.actors (by.actor - 1)) (by.call - 1) operation (λ script there. all-at (λ (l : List Op). AllByRecursion P l) s.actors (by.actor - 1) script all there) is
      | false ↦ λ is. absurd (false≢true (ap is_some is))
    ]

-- an actor's operation stands in its script
pub operation-of : (s : Scenario) (by : By) → IsOperation (map length s.actors) by → (o : Op) × (op_at s by ≡ Some o)
operation-of s by is =
    let h = script-of s by is in
    let some = is.some in
    let enough = h.enough in
    let numbered = h.numbered in
    let o = element_within h.script (by.call - 1) (omega (arith, some, enough)) in
    (o.0, op_at-there s by h.index (by.call - 1) h.script o.0 h.there o.1 (omega (arith, numbered)) (omega (arith, some)))

-- whoever is due at a place of the order has its operation
pub operation-at : (order : List By) (lengths : List ℕ) (i : ℕ) (d : By) → order ≡ serial_order lengths → i < length order → IsOperation lengths (slice_index_or order i d)
operation-at order lengths i d is low =
    all-at (IsOperation lengths) (serial_order lengths) i (slice_index_or order i d) (order-operations lengths)
    (ap (λ (l : List By). slice_get l i) (sym is) ∙ slice_get-get_or order i d low)

-- a list, cut at one of its elements
pub cut-at : {A : Type 0} (xs : List A) (i : ℕ) (x : A) → slice_get xs i ≡ Some x → xs ≡ take i xs ++ x ∷ drop (suc i) xs
cut-at [] i x there = absurd (let low = slice_get_within [] i x there in omega (arith, low))
cut-at (y ∷ ys) zero x there = ap (λ z. z ∷ ys) (ap (λ (o : Option _). unwrap_or o x) there)
cut-at (y ∷ ys) (suc i) x there = ap (λ l. y ∷ l) (cut-at ys i x there)

-- what is before a place of the order is earlier
pub earlier-at : (order : List By) (lengths : List ℕ) (i : ℕ) (d : By) → order ≡ serial_order lengths → i < length order
    → AllByRecursion (λ (x : By). is_earlier x (slice_index_or order i d) ≡ true) (take i order)
earlier-at order lengths i d is low =
    let x = slice_index_or order i d in
    done-earlier (take i order) x (drop (suc i) order)
    (subst AreAscending (cut-at order i x (slice_get-get_or order i d low)) (subst AreAscending (sym is) (order-ascends lengths)))
