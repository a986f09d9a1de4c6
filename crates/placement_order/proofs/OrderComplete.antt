-- A drive that is left is in the order, or its node has as many units as it may have.
use Rattle.std.proofs.Common.{◌≡◌, ℕ, suc, zero, ◌+◌, ◌≤◌, inl, inr, Bool, true, false, not, ◌&&◌, ◌||◌, List, [], ◌∷◌, ◌++◌, eqb, refl, sym, ap, subst, arith}
use Rattle.std.proofs.lemmas.Bool.{cases_Bool, both_ways, eq-eqb}
use Rattle.domains.specs.Drive.{Drive, same_drive, is_in}
use Rattle.placement_order.specs.Order.{DrawRequest, nodes_of, drives_of, units_on, is_open, visits_in, visits_after, given_at, with_drive, drawn_in, order_of}
use Rattle.placement_order.specs.Room.{is_left}
use Rattle.placement_order.specs.OrderLaws.{OrderIsComplete}
use Rattle.domains.specs.Counts.{one_if}
use Rattle.domains.proofs.DriveLemmas.{is_in-push}
use Rattle.domains.proofs.CountLemmas.{count_by-push}
use Rattle.placement_order.proofs.CycleLemmas.{IsOneOf, in_all}
use Rattle.placement_order.proofs.NodeDrives.{drives_of-on, on-drives_of, on-is_of}
use Rattle.placement_order.proofs.VisitOutcomes.{at_visit}

open_from : (a b c e : Bool) → (a && (not b && not c)) ≡ true → e ≡ false → ((a && not b) && (not c && not e)) ≡ true
open_from true false false false h k = refl
open_from true false false true h k = sym k
open_from true false true e h k = absurd (both_ways false refl h)
open_from true true c e h k = absurd (both_ways false refl h)
open_from false b c e h k = absurd (both_ways false refl h)

-- a drive that is left and has not been drawn is open
pub is_open-from : (s : DrawRequest) (spent : Drive → Bool) (drawn : List Drive) (d : Drive) → is_left s spent d ≡ true → is_in drawn d ≡ false
    → is_open s spent drawn d ≡ true
is_open-from s spent drawn d left out = open_from (s.usable d) (s.used d) (spent d) (is_in drawn d) left out

open_with : (a b c e : Bool) → (a && (b && not (c || e))) ≡ true → (a && (b && not c)) ≡ true
open_with true true false false h = refl
open_with a b c e h = absurd (both_ways false refl h)

-- what is open beside one more drawn drive was open before
open_before : (s : DrawRequest) (spent : Drive → Bool) (drawn : List Drive) (x d : Drive) → is_open s spent (drawn ++ x ∷ []) d ≡ true
    → is_open s spent drawn d ≡ true
open_before s spent drawn x d h =
    open_with (s.usable d && not (s.used d)) (not (spent d)) (is_in drawn d) (same_drive x d)
    (subst (λ b. ((s.usable d && not (s.used d)) && (not (spent d) && not b)) ≡ true) (is_in-push drawn x d) h)

-- the node has as many units as n rounds ask for, or no open drive
abbrev IsSettled : DrawRequest → (Drive → Bool) → List Drive → ℕ → ℕ → Type 0
IsSettled s spent drawn round node =
    (d : Drive) → is_in (drives_of s node) d ≡ true → is_open s spent drawn d ≡ true → round ≤ units_on s drawn node

-- so it stays
stays : (s : DrawRequest) (spent : Drive → Bool) (drawn : List Drive) (round node : ℕ) (visit : ℕ × ℕ) → IsSettled s spent drawn round node
    → IsSettled s spent (with_drive drawn (given_at s spent drawn visit)) round node
stays s spent drawn round node visit settled = elim (at_visit s spent drawn visit) [
  | inl found ↦ subst (λ xs. IsSettled s spent xs round node) (sym found.1.is) (λ d on opens.
      let step = count_by-push (λ (e : Drive). eqb e.node node) drawn found.0 in
      let before = settled d on (open_before s spent drawn found.0 d opens) in
      omega (arith, step, before))
  | inr nothing ↦ subst (λ xs. IsSettled s spent xs round node) (sym nothing.is) settled
]

all_stay : (visits : List (ℕ × ℕ)) (s : DrawRequest) (spent : Drive → Bool) (drawn : List Drive) (round node : ℕ) → IsSettled s spent drawn round node
    → IsSettled s spent (drawn_in visits s spent drawn) round node
all_stay [] s spent drawn round node settled = settled
all_stay (visit ∷ visits) s spent drawn round node settled =
    all_stay visits s spent (with_drive drawn (given_at s spent drawn visit)) round node (stays s spent drawn round node visit settled)

-- a visit in the next round settles it for that round
settles : (s : DrawRequest) (spent : Drive → Bool) (drawn : List Drive) (round node : ℕ) → IsSettled s spent drawn round node
    → IsSettled s spent (with_drive drawn (given_at s spent drawn (suc round, node))) (suc round) node
settles s spent drawn round node settled = elim (at_visit s spent drawn (suc round, node)) [
  | inl found ↦ subst (λ xs. IsSettled s spent xs (suc round) node) (sym found.1.is) (λ d on opens.
      let step = count_by-push (λ (e : Drive). eqb e.node node) drawn found.0 in
      let one = ap one_if (eq-eqb found.0.node node (drives_of-on s node found.0 found.1.among).node_is) in
      let before = settled found.0 found.1.among found.1.opens in
      omega (arith, step, one, before))
  | inr nothing ↦ subst (λ xs. IsSettled s spent xs (suc round) node) (sym nothing.is) (λ d on opens. elim nothing.why [
    | inl full ↦ full
    | inr shut ↦ absurd (both_ways _ (shut d on) opens)
  ])
]

settled_in : (nodes : List ℕ) (s : DrawRequest) (spent : Drive → Bool) (drawn : List Drive) (round node : ℕ) → IsOneOf node nodes
    → IsSettled s spent drawn round node → IsSettled s spent (drawn_in (visits_in (suc round) nodes) s spent drawn) (suc round) node
settled_in [] s spent drawn round node there settled = absurd there
settled_in (n ∷ ns) s spent drawn round node there settled =
    let next : List Drive = with_drive drawn (given_at s spent drawn (suc round, n)) in
    elim there [
      | inl here ↦
          all_stay (visits_in (suc round) ns) s spent next (suc round) node
          (subst (λ m. IsSettled s spent (with_drive drawn (given_at s spent drawn (suc round, m))) (suc round) node) (sym here)
          (settles s spent drawn round node settled))
      | inr later ↦ settled_in ns s spent next round node later (stays s spent drawn round node (suc round, n) settled)
    ]

pub drawn_in-append : (xs ys : List (ℕ × ℕ)) (s : DrawRequest) (spent : Drive → Bool) (drawn : List Drive)
    → drawn_in (xs ++ ys) s spent drawn ≡ drawn_in ys s spent (drawn_in xs s spent drawn)
drawn_in-append [] ys s spent drawn = refl
drawn_in-append (x ∷ xs) ys s spent drawn = drawn_in-append xs ys s spent (with_drive drawn (given_at s spent drawn x))

settled_after : (left done : ℕ) (s : DrawRequest) (spent : Drive → Bool) (nodes : List ℕ) (drawn : List Drive) (node : ℕ) → IsOneOf node nodes
    → IsSettled s spent drawn done node → IsSettled s spent (drawn_in (visits_after done left nodes) s spent drawn) (done + left) node
settled_after zero done s spent nodes drawn node there settled =
    let same : done ≡ done + zero = omega arith in subst (λ n. IsSettled s spent drawn n node) same settled
settled_after (suc left) done s spent nodes drawn node there settled =
    let next : List Drive = drawn_in (visits_in (suc done) nodes) s spent drawn in
    let same : suc done + left ≡ done + suc left = omega arith in
    subst (λ n. IsSettled s spent (drawn_in (visits_after done (suc left) nodes) s spent drawn) n node) same
    (subst (λ xs. IsSettled s spent xs (suc done + left) node)
    (sym (drawn_in-append (visits_in (suc done) nodes) (visits_after (suc done) left nodes) s spent drawn))
    (settled_after left (suc done) s spent nodes next node there (settled_in nodes s spent drawn done node there settled)))

-- the order settles each node of the cluster for all rounds
order-settled : (s : DrawRequest) (spent : Drive → Bool) (node : ℕ) → 1 ≤ node → node ≤ s.shape.nodes
    → IsSettled s spent (order_of s spent) s.level.k node
order-settled s spent node some within =
    let same : 0 + s.level.k ≡ s.level.k = omega arith in
    subst (λ n. IsSettled s spent (order_of s spent) n node) same
    (settled_after s.level.k 0 s spent (nodes_of s) [] node (in_all s.shape.nodes s.spin node some within) (λ d on opens. omega arith))

pub order-complete : OrderIsComplete
order-complete s spent d of_shape left =
    let on = on-is_of s d of_shape in
    elim (cases_Bool (is_in (order_of s spent) d)) [
      | inl there ↦ inl there
      | inr out ↦ inr (order-settled s spent d.node on.0 on.1 d (on-drives_of s d.node d on.2) (is_open-from s spent (order_of s spent) d left out))
    ]
