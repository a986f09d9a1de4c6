-- Scripts and the calls of their operations.
use Rattle.std.proofs.Common.{◌≡◌, ℕ, ◌+◌, ◌-◌, ◌==◌, nat_lt, Bool, true, false, ◌&&◌, if◌then◌else◌, List, [], ◌∷◌, ◌++◌, length, Some, slice_get, refl, ap, ◌∙◌, arith}
use Rattle.board_history.specs.declared.entry.BoardEntry.{BoardEntry}
use Rattle.file_history.specs.declared.entry.FileEntry.{FileEntry}
use Rattle.scenario.specs.declared.op.Op.{Op}
use Rattle.scenario.specs.declared.scenario.Scenario.{Scenario}
use Rattle.report.specs.Script.{op_at, numbers_where, board_calls, file_calls, is_operation_entry}
use Rattle.flex_run.specs.Operations.{by_call}

pub numbers_where-push : (os : List Op) (o : Op) (number : ℕ) (p : Op → Bool)
    → numbers_where (os ++ o ∷ []) number p ≡ numbers_where os number p ++ numbers_where (o ∷ []) (number + length os) p
numbers_where-push [] o number p = let e : number ≡ number + 0 = omega arith in ap (λ n. numbers_where (o ∷ []) n p) e
numbers_where-push (x ∷ xs) o number p =
    let e : number + 1 + length xs ≡ number + length (x ∷ xs) = omega arith in
    let rest = numbers_where-push xs o (number + 1) p ∙ ap (λ n. numbers_where xs (number + 1) p ++ numbers_where (o ∷ []) n p) e in
    elim (p x) as (λ b. (if b then number ∷ numbers_where (xs ++ o ∷ []) (number + 1) p else numbers_where (xs ++ o ∷ []) (number + 1) p)
    ≡ (if b then number ∷ numbers_where xs (number + 1) p else numbers_where xs (number + 1) p) ++ numbers_where (o ∷ []) (number + length (x ∷ xs)) p)
    [ true ↦ ap (λ l. number ∷ l) rest | false ↦ rest ]

pub board_calls-push : (es : List BoardEntry) (e : BoardEntry) (actor : ℕ) → board_calls actor (es ++ e ∷ []) ≡ board_calls actor es ++ board_calls actor (e ∷ [])
board_calls-push [] e actor = refl
board_calls-push (x ∷ xs) e actor =
    let rest = board_calls-push xs e actor in
    elim (x.by.actor == actor) as (λ b. (if b then x.by.call ∷ board_calls actor (xs ++ e ∷ []) else board_calls actor (xs ++ e ∷ []))
    ≡ (if b then x.by.call ∷ board_calls actor xs else board_calls actor xs) ++ board_calls actor (e ∷ []))
    [ true ↦ ap (λ l. x.by.call ∷ l) rest | false ↦ rest ]

pub file_calls-push : (es : List FileEntry) (e : FileEntry) (actor : ℕ) → file_calls actor (es ++ e ∷ []) ≡ file_calls actor es ++ file_calls actor (e ∷ [])
file_calls-push [] e actor = refl
file_calls-push (x ∷ xs) e actor =
    let rest = file_calls-push xs e actor in
    elim ((x.by.actor == actor) && is_operation_entry x.event) as (λ b. (if b then x.by.call ∷ file_calls actor (xs ++ e ∷ []) else file_calls actor (xs ++ e ∷ []))
    ≡ (if b then x.by.call ∷ file_calls actor xs else file_calls actor xs) ++ file_calls actor (e ∷ []))
    [ true ↦ ap (λ l. x.by.call ∷ l) rest | false ↦ rest ]

-- the operation of the one script
pub op_at-one : (s : Scenario) (script : List Op) (o : Op) (at : ℕ) → s.actors ≡ script ∷ [] → slice_get script at ≡ Some o
    → op_at s (by_call (at + 1)) ≡ Some o
op_at-one s script o at one here =
    let some : nat_lt 0 (at + 1) ≡ true = grind arith in
    let back : at + 1 - 1 ≡ at = omega arith in
    rw (some, one, back) here
