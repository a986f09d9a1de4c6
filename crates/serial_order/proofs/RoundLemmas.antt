-- What one round of the serial order has.
use Rattle.std.proofs.Common.{◌≡◌, ◌≢◌, ℕ, ◌+◌, ◌<◌, ◌≤◌, Bool, true, false, cond, eqb, ltb, List, [], ◌∷◌, ◌++◌, refl, sym, ap, ◌∙◌, subst, arith}
use Rattle.std.proofs.lemmas.Bool.{eqb-true, eq-eqb, ne_eqb, ltb-false, lt-ltb}
use Rattle.std.proofs.lemmas.Bool.Decides.{nat_tests}
use Rattle.std.specs.List.{AllByRecursion}
use Rattle.domains.specs.declared.by.By.{By}
use Rattle.serial_order.specs.SerialOrder.{AreAscending, calls_of, is_earlier, operations_from, round_of}

pub all-append : {A : Type 0} (P : A → Type 0) (xs ys : List A) → AllByRecursion P xs → AllByRecursion P ys → AllByRecursion P (xs ++ ys)
all-append P [] ys all more = more
all-append P (x ∷ xs) ys all more = (all.0, all-append P xs ys all.1 more)

pub all-weaker : {A : Type 0} (P Q : A → Type 0) (xs : List A) → ((x : A) → P x → Q x) → AllByRecursion P xs → AllByRecursion Q xs
all-weaker P Q [] how all = tt
all-weaker P Q (x ∷ xs) how all = (how x all.0, all-weaker P Q xs how all.1)

pub calls_of-append : (actor : ℕ) (xs ys : List By) → calls_of actor (xs ++ ys) ≡ calls_of actor xs ++ calls_of actor ys
calls_of-append actor [] ys = refl
calls_of-append actor (b ∷ bs) ys =
    elim (eqb b.actor actor) as (λ e. cond e (b.call ∷ calls_of actor (bs ++ ys)) (calls_of actor (bs ++ ys)) ≡ cond e (b.call ∷ calls_of actor bs) (calls_of actor bs) ++ calls_of actor ys) [
      | true ↦ ap (λ rest. b.call ∷ rest) (calls_of-append actor bs ys)
      | false ↦ calls_of-append actor bs ys
    ]

-- whoever is due in a round has this number or a later one, and the round's
pub record IsOfRound (first call : ℕ) (b : By) : Type 0 where
  pub actor : first ≤ b.actor
  pub call_is : b.call ≡ call

later_round : (first call : ℕ) (b : By) → IsOfRound (first + 1) call b → IsOfRound first call b
later_round first call b of = let known = of.actor in record { actor = omega arith; call_is = of.call_is }

pub round-of : (ns : List ℕ) (first call : ℕ) → AllByRecursion (IsOfRound first call) (round_of ns first call)
round-of [] first call = tt
round-of (n ∷ ns) first call =
    let rest = all-weaker (IsOfRound (first + 1) call) (IsOfRound first call) (round_of ns (first + 1) call) (later_round first call) (round-of ns (first + 1) call) in
    elim (ltb n call) as (λ e. AllByRecursion (IsOfRound first call) (cond e (round_of ns (first + 1) call) (record { actor = first; call = call } ∷ round_of ns (first + 1) call))) [
      | true ↦ rest
      | false ↦ (record { actor = omega arith; call_is = refl }, rest)
    ]

-- an actor before the first has no operation there
pub calls_of-earlier : (actor first call : ℕ) (bs : List By) → actor < first → AllByRecursion (IsOfRound first call) bs → calls_of actor bs ≡ []
calls_of-earlier actor first call [] before of = refl
calls_of-earlier actor first call (b ∷ bs) before of =
    let here = of.0.actor in
    let other : b.actor ≢ actor = omega arith in
    ap (λ e. cond e (b.call ∷ calls_of actor bs) (calls_of actor bs)) (ne_eqb b.actor actor other) ∙ calls_of-earlier actor first call bs before of.1

abbrev pub one_unless : Bool → ℕ → List ℕ
one_unless passed call = cond passed [] (call ∷ [])

-- an actor's operation in a round: the one of the round's number, unless it has fewer
pub calls_of-round : (actor : ℕ) (ns : List ℕ) (first call : ℕ) → 1 ≤ call → calls_of actor (round_of ns first call) ≡ one_unless (ltb (operations_from ns first actor) call) call
calls_of-round actor [] first call some = sym (ap (λ e. one_unless e call) (lt-ltb 0 call (omega arith)))
calls_of-round actor (n ∷ ns) first call some =
    elim (eqb first actor) as (λ e. eqb first actor ≡ e → calls_of actor (cond (ltb n call) (round_of ns (first + 1) call) (record { actor = first; call = call } ∷ round_of ns (first + 1) call))
    ≡ one_unless (ltb (cond e n (operations_from ns (first + 1) actor)) call) call) [
      | true ↦ λ here.
          let same = eqb-true first actor here in
          let none = calls_of-earlier actor (first + 1) call (round_of ns (first + 1) call) (omega arith) (round-of ns (first + 1) call) in
          elim (ltb n call) as (λ b. calls_of actor (cond b (round_of ns (first + 1) call) (record { actor = first; call = call } ∷ round_of ns (first + 1) call)) ≡ one_unless b call) [
            | true ↦ none
            | false ↦ ap (λ e. cond e (call ∷ calls_of actor (round_of ns (first + 1) call)) (calls_of actor (round_of ns (first + 1) call))) here ∙ ap (λ rest. call ∷ rest) none
          ]
      | false ↦ λ other.
          let rest = calls_of-round actor ns (first + 1) call some in
          elim (ltb n call) as (λ b. calls_of actor (cond b (round_of ns (first + 1) call) (record { actor = first; call = call } ∷ round_of ns (first + 1) call))
          ≡ one_unless (ltb (operations_from ns (first + 1) actor) call) call) [
            | true ↦ rest
            | false ↦ ap (λ e. cond e (call ∷ calls_of actor (round_of ns (first + 1) call)) (calls_of actor (round_of ns (first + 1) call))) other ∙ rest
          ]
    ] refl

pub earlier_in_round : (call first : ℕ) (b : By) → IsOfRound (first + 1) call b → is_earlier (record { actor = first; call = call }) b ≡ true
earlier_in_round call first b of = let actor = of.actor in let same = of.call_is in grind (arith, nat_tests)

pub round-ascends : (ns : List ℕ) (first call : ℕ) → AreAscending (round_of ns first call)
round-ascends [] first call = tt
round-ascends (n ∷ ns) first call =
    elim (ltb n call) as (λ e. AreAscending (cond e (round_of ns (first + 1) call) (record { actor = first; call = call } ∷ round_of ns (first + 1) call))) [
      | true ↦ round-ascends ns (first + 1) call
      | false ↦ (
        all-weaker (IsOfRound (first + 1) call) (λ later. is_earlier (record { actor = first; call = call }) later ≡ true) (round_of ns (first + 1) call) (earlier_in_round call first)
            (round-of ns (first + 1) call),
        round-ascends ns (first + 1) call,
      )
    ]

-- whoever is due has an operation of this number
abbrev pub HasCall : List ℕ → ℕ → ℕ → By → Type 0
HasCall ns first call b = call ≤ operations_from ns first b.actor

-- whoever is due in the rest of a round has its operation in the whole
has_later : (n : ℕ) (ns : List ℕ) (first call : ℕ) (bs : List By) → AllByRecursion (IsOfRound (first + 1) call) bs → AllByRecursion (HasCall ns (first + 1) call) bs
    → AllByRecursion (HasCall (n ∷ ns) first call) bs
has_later n ns first call [] of has = tt
has_later n ns first call (b ∷ bs) of has =
    let later = of.0.actor in
    let other : first ≢ b.actor = omega arith in
    (subst (λ e. call ≤ cond e n (operations_from ns (first + 1) b.actor)) (sym (ne_eqb first b.actor other)) has.0, has_later n ns first call bs of.1 has.1)

pub round-has : (ns : List ℕ) (first call : ℕ) → AllByRecursion (HasCall ns first call) (round_of ns first call)
round-has [] first call = tt
round-has (n ∷ ns) first call =
    let rest = has_later n ns first call (round_of ns (first + 1) call) (round-of ns (first + 1) call) (round-has ns (first + 1) call) in
    elim (ltb n call) as (λ e. ltb n call ≡ e → AllByRecursion (HasCall (n ∷ ns) first call) (cond e (round_of ns (first + 1) call) (record { actor = first; call = call } ∷ round_of ns (first + 1) call))) [
      | true ↦ λ fewer. rest
      | false ↦ λ enough.
          let few : call ≤ n = ltb-false n call enough in
          (subst (λ e. call ≤ cond e n (operations_from ns (first + 1) first)) (sym (eq-eqb first first refl)) few, rest)
    ] refl
