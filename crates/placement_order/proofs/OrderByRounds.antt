-- The order of placement is what the nodes give, round by round.
use Rattle.std.proofs.Common.{◌≡◌, ℕ, suc, zero, ◌-◌, inl, inr, Bool, List, [], ◌∷◌, ◌++◌, filter_map, Option, Some, None, append_assoc, append-nil, refl, sym, ap, subst, ◌∙◌, arith}
use Rattle.std.proofs.lemmas.List.Elements.{filter_map-append}
use Rattle.std.specs.List.{cons_option}
use Rattle.domains.specs.Drive.{Drive}
use Rattle.placement_order.specs.Order.{DrawRequest, nodes_of, visits_in, visits_after, given_at, with_drive, drawn_in}
use Rattle.placement_order.specs.Turns.{left_on, turn_of, OrderIsByTurns}
use Rattle.placement_order.proofs.CycleLemmas.{IsOneOf, AreOnce, once_all}
use Rattle.placement_order.proofs.OrderComplete.{drawn_in-append}
use Rattle.placement_order.proofs.NodeTurns.{HasGiven, takes_turn, other_visit, used_on, take_none}

-- each of the nodes has given its turns of n rounds
abbrev HaveGiven : DrawRequest → (Drive → Bool) → List Drive → ℕ → List ℕ → Type 0
HaveGiven s spent drawn round nodes = (node : ℕ) → IsOneOf node nodes → HasGiven s spent drawn (round - used_on s node) node

with_rest : (drawn : List Drive) (next : Option Drive) (rest : List Drive) → with_drive drawn next ++ rest ≡ drawn ++ cons_option next rest
with_rest drawn None rest = refl
with_rest drawn (Some x) rest = append_assoc drawn (x ∷ []) rest

-- a round adds the turns of its nodes
in_round : (nodes : List ℕ) (s : DrawRequest) (spent : Drive → Bool) (drawn : List Drive) (round : ℕ) → AreOnce nodes → HaveGiven s spent drawn round nodes
    → drawn_in (visits_in (suc round) nodes) s spent drawn ≡ drawn ++ filter_map (turn_of s spent) (visits_in (suc round) nodes)
in_round [] s spent drawn round once given = sym (append-nil drawn)
in_round (n ∷ ns) s spent drawn round once given =
    let next : List Drive = with_drive drawn (given_at s spent drawn (suc round, n)) in
    let turns : List Drive = filter_map (turn_of s spent) (visits_in (suc round) ns) in
    let this = takes_turn s spent drawn round n (given n (inl refl)) in
    in_round ns s spent next round once.1
    (λ node there. other_visit s spent drawn (round - used_on s node) node (suc round, n) (λ h. once.0 (subst (λ m. IsOneOf m ns) (sym h) there)) (given node (inr there)))
    ∙ with_rest drawn (given_at s spent drawn (suc round, n)) turns
    ∙ ap (λ o. drawn ++ cons_option o turns) this.turn

others_visits : (nodes : List ℕ) (s : DrawRequest) (spent : Drive → Bool) (drawn : List Drive) (round many node : ℕ) → (IsOneOf node nodes → ⊥)
    → HasGiven s spent drawn many node → HasGiven s spent (drawn_in (visits_in round nodes) s spent drawn) many node
others_visits [] s spent drawn round many node apart given = given
others_visits (n ∷ ns) s spent drawn round many node apart given =
    others_visits ns s spent (with_drive drawn (given_at s spent drawn (round, n))) round many node (λ h. apart (inr h))
    (other_visit s spent drawn many node (round, n) (λ h. apart (inl h)) given)

-- after a round each of its nodes has given the turn of that round too
after_round : (nodes : List ℕ) (s : DrawRequest) (spent : Drive → Bool) (drawn : List Drive) (round node : ℕ) → AreOnce nodes → IsOneOf node nodes
    → HasGiven s spent drawn (round - used_on s node) node
    → HasGiven s spent (drawn_in (visits_in (suc round) nodes) s spent drawn) (suc round - used_on s node) node
after_round [] s spent drawn round node once there given = absurd there
after_round (n ∷ ns) s spent drawn round node once there given =
    let next : List Drive = with_drive drawn (given_at s spent drawn (suc round, n)) in
    elim there [
      | inl here ↦
          others_visits ns s spent next (suc round) (suc round - used_on s node) node (λ h. once.0 (subst (λ m. IsOneOf m ns) (sym here) h))
          (subst (λ m. HasGiven s spent (with_drive drawn (given_at s spent drawn (suc round, m))) (suc round - used_on s node) node) (sym here)
          (takes_turn s spent drawn round node given).given)
      | inr later ↦
          after_round ns s spent next round node once.1 later
          (other_visit s spent drawn (round - used_on s node) node (suc round, n) (λ h. once.0 (subst (λ m. IsOneOf m ns) (sym h) later)) given)
    ]

all_rounds : (left done : ℕ) (s : DrawRequest) (spent : Drive → Bool) (nodes : List ℕ) (drawn : List Drive) → AreOnce nodes → HaveGiven s spent drawn done nodes
    → drawn_in (visits_after done left nodes) s spent drawn ≡ drawn ++ filter_map (turn_of s spent) (visits_after done left nodes)
all_rounds zero done s spent nodes drawn once given = sym (append-nil drawn)
all_rounds (suc left) done s spent nodes drawn once given =
    let round : List (ℕ × ℕ) = visits_in (suc done) nodes in
    let later : List (ℕ × ℕ) = visits_after (suc done) left nodes in
    let turn : ℕ × ℕ → Option Drive = turn_of s spent in
    drawn_in-append round later s spent drawn
    ∙ all_rounds left (suc done) s spent nodes (drawn_in round s spent drawn) once (λ node there. after_round nodes s spent drawn done node once there (given node there))
    ∙ ap (λ xs. xs ++ filter_map turn later) (in_round nodes s spent drawn done once given)
    ∙ append_assoc drawn (filter_map turn round) (filter_map turn later)
    ∙ ap (λ xs. drawn ++ xs) (sym (filter_map-append turn round later))

pub order-by_turns : OrderIsByTurns
order-by_turns s spent =
    all_rounds s.level.k 0 s spent (nodes_of s) [] (once_all s.shape.nodes s.spin) (λ node there.
    let none : 0 ≡ 0 - used_on s node = omega arith in
    subst (λ m. HasGiven s spent [] m node) none (record { drives = λ d on. sym (take_none (left_on s spent node) d); few = omega arith }))
