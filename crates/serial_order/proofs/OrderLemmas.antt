-- What the serial order has: each actor's operations in order, and none before an earlier one.
use Rattle.std.proofs.Common.{inl, inr, ◌≡◌, ℕ, zero, suc, ◌+◌, ◌≤◌, min, max, true, false, cond, eqb, ltb, List, [], ◌∷◌, ◌++◌, sym, ap, ◌∙◌, subst, arith}
use Rattle.std.proofs.lemmas.Bool.{cases_lt, lt-ltb, le-ltb}
use Rattle.std.proofs.lemmas.Bool.Decides.{nat_tests}
use Rattle.std.proofs.lemmas.List.{append-nil}
use Rattle.std.specs.List.{AllByRecursion}
use Rattle.domains.specs.declared.by.By.{By}
use Rattle.serial_order.specs.SerialOrder.{AreAscending, IsOperation, calls_of, is_earlier, longest, numbers_to, operations_from, operations_of, round_of, rounds, serial_order}
use Rattle.serial_order.proofs.RoundLemmas.{HasCall, IsOfRound, all-append, all-weaker, calls_of-append, calls_of-round, one_unless, round-ascends, round-has, round-of}

-- no script is longer than the longest
pub operations-few : (ns : List ℕ) (first actor : ℕ) → operations_from ns first actor ≤ longest ns
operations-few [] first actor = omega arith
operations-few (n ∷ ns) first actor =
    let rest = operations-few ns (first + 1) actor in
    elim (eqb first actor) as (λ e. cond e n (operations_from ns (first + 1) actor) ≤ max n (longest ns)) [
      | true ↦ omega arith
      | false ↦ omega arith
    ]

calls-next : (r n : ℕ) → numbers_to (min r n) ++ one_unless (ltb n (suc r)) (suc r) ≡ numbers_to (min (suc r) n)
calls-next r n = elim (cases_lt r n) as (λ x. numbers_to (min r n) ++ one_unless (ltb n (suc r)) (suc r) ≡ numbers_to (min (suc r) n)) [
  | inl more ↦
      let was : min r n ≡ r = omega arith in
      let now : min (suc r) n ≡ suc r = omega arith in
      ap (λ e. numbers_to (min r n) ++ one_unless e (suc r)) (le-ltb n (suc r) (omega arith)) ∙ ap (λ (k : ℕ). numbers_to k ++ suc r ∷ []) was ∙ sym (ap numbers_to now)
  | inr ended ↦
      let same : min r n ≡ min (suc r) n = omega arith in
      ap (λ e. numbers_to (min r n) ++ one_unless e (suc r)) (lt-ltb n (suc r) (omega arith)) ∙ append-nil (numbers_to (min r n)) ∙ ap numbers_to same
]

pub calls_of-rounds : (actor r : ℕ) (lengths : List ℕ) → calls_of actor (rounds r lengths) ≡ numbers_to (min r (operations_of lengths actor))
calls_of-rounds actor zero lengths = let none : 0 ≡ min 0 (operations_of lengths actor) = omega arith in ap numbers_to none
calls_of-rounds actor (suc r) lengths =
    calls_of-append actor (rounds r lengths) (round_of lengths 1 (suc r))
    ∙ ap (λ xs. xs ++ calls_of actor (round_of lengths 1 (suc r))) (calls_of-rounds actor r lengths)
    ∙ ap (λ ys. numbers_to (min r (operations_of lengths actor)) ++ ys) (calls_of-round actor lengths 1 (suc r) (omega arith))
    ∙ calls-next r (operations_of lengths actor)

-- each actor does its operations, each once, from the first to the last
pub calls_of-order : (lengths : List ℕ) (actor : ℕ) → calls_of actor (serial_order lengths) ≡ numbers_to (operations_of lengths actor)
calls_of-order lengths actor =
    let few = operations-few lengths 1 actor in
    let all : min (longest lengths) (operations_of lengths actor) ≡ operations_of lengths actor = omega arith in
    calls_of-rounds actor (longest lengths) lengths ∙ ap numbers_to all

abbrev IsUpTo : ℕ → By → Type 0
IsUpTo r b = b.call ≤ r

round-up_to : (r : ℕ) (b : By) → IsOfRound 1 (suc r) b → IsUpTo (suc r) b
round-up_to r b of = let same = of.call_is in omega arith

one-more : (r : ℕ) (b : By) → IsUpTo r b → IsUpTo (suc r) b
one-more r b up_to = omega arith

rounds-up_to : (r : ℕ) (lengths : List ℕ) → AllByRecursion (IsUpTo r) (rounds r lengths)
rounds-up_to zero lengths = tt
rounds-up_to (suc r) lengths =
    all-append (IsUpTo (suc r)) (rounds r lengths) (round_of lengths 1 (suc r))
    (all-weaker (IsUpTo r) (IsUpTo (suc r)) (rounds r lengths) (one-more r) (rounds-up_to r lengths))
    (all-weaker (IsOfRound 1 (suc r)) (IsUpTo (suc r)) (round_of lengths 1 (suc r)) (round-up_to r) (round-of lengths 1 (suc r)))

earlier_round : (r : ℕ) (a b : By) → IsUpTo r a → IsOfRound 1 (suc r) b → is_earlier a b ≡ true
earlier_round r a b up_to of = let same = of.call_is in grind (arith, nat_tests)

ascends-append : (r : ℕ) (xs ys : List By) → AreAscending xs → AllByRecursion (IsUpTo r) xs → AreAscending ys → AllByRecursion (IsOfRound 1 (suc r)) ys → AreAscending (xs ++ ys)
ascends-append r [] ys up small more of = more
ascends-append r (x ∷ xs) ys up small more of = (
  all-append (λ later. is_earlier x later ≡ true) xs ys up.0 (all-weaker (IsOfRound 1 (suc r)) (λ later. is_earlier x later ≡ true) ys (λ b. earlier_round r x b small.0) of),
  ascends-append r xs ys up.1 small.1 more of,
)

pub rounds-ascend : (r : ℕ) (lengths : List ℕ) → AreAscending (rounds r lengths)
rounds-ascend zero lengths = tt
rounds-ascend (suc r) lengths =
    ascends-append r (rounds r lengths) (round_of lengths 1 (suc r)) (rounds-ascend r lengths) (rounds-up_to r lengths) (round-ascends lengths 1 (suc r)) (round-of lengths 1 (suc r))

-- each operation is earlier than all behind it
pub order-ascends : (lengths : List ℕ) → AreAscending (serial_order lengths)
order-ascends lengths = rounds-ascend (longest lengths) lengths

is_operation : (r : ℕ) (lengths : List ℕ) (bs : List By) → AllByRecursion (IsOfRound 1 (suc r)) bs → AllByRecursion (HasCall lengths 1 (suc r)) bs → AllByRecursion (IsOperation lengths) bs
is_operation r lengths [] of has = tt
is_operation r lengths (b ∷ bs) of has =
    let same = of.0.call_is in
    let enough = has.0 in
    (record { some = omega arith; within = subst (λ (call : ℕ). call ≤ operations_of lengths b.actor) (sym same) enough }, is_operation r lengths bs of.1 has.1)

rounds-operations : (r : ℕ) (lengths : List ℕ) → AllByRecursion (IsOperation lengths) (rounds r lengths)
rounds-operations zero lengths = tt
rounds-operations (suc r) lengths =
    all-append (IsOperation lengths) (rounds r lengths) (round_of lengths 1 (suc r)) (rounds-operations r lengths)
    (is_operation r lengths (round_of lengths 1 (suc r)) (round-of lengths 1 (suc r)) (round-has lengths 1 (suc r)))

-- whoever is due has an operation of this number
pub order-operations : (lengths : List ℕ) → AllByRecursion (IsOperation lengths) (serial_order lengths)
order-operations lengths = rounds-operations (longest lengths) lengths
