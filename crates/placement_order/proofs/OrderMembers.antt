-- The drives of the order may all give slots to the group, and so may those of each prefix of it.
use Rattle.std.proofs.Common.{◌≡◌, ℕ, ◌+◌, ◌-◌, ◌<◌, ◌≤◌, inl, inr, Bool, true, false, not, ◌&&◌, List, [], ◌∷◌, ◌++◌, take, count_by, max, eqb, refl, sym, ap, subst, ◌∙◌, arith}
use Rattle.std.proofs.Math.Nat.{le-max_left, le-max_right}
use Rattle.std.proofs.lemmas.Bool.{cases_eq, cases_lt, or_cases, both_ways, eq-eqb, ne_eqb}
use Rattle.domains.specs.Drive.{Drive, is_in, AreApart}
use Rattle.domains.specs.Shape.{is_of}
use Rattle.domains.specs.Room.{drives_on}
use Rattle.placement_order.specs.Order.{DrawRequest, units_on, is_open, order_of}
use Rattle.placement_order.specs.Room.{is_left}
use Rattle.placement_order.specs.OrderLaws.{MayGive, OrderMayGive}
use Rattle.domains.specs.Counts.{one_if}
use Rattle.domains.proofs.DriveLemmas.{same_drive-eq, is_in-push, is_in-take}
use Rattle.domains.proofs.CountLemmas.{count_by-push, count_by-take}
use Rattle.placement_order.proofs.ApartDrives.{apart-push, apart-take}
use Rattle.placement_order.proofs.NodeDrives.{drives_of-on, is_of-on}
use Rattle.placement_order.proofs.VisitOutcomes.{IsDrawn, IsVisit, order_keeps}

open_parts : (a b c e : Bool) → ((a && not b) && (not c && not e)) ≡ true → ((a && (not b && not c)) ≡ true) × (e ≡ false)
open_parts true false false false h = (refl, refl)
open_parts a b c e h = absurd (both_ways false refl h)

-- an open drive is left, and has not been drawn
pub is_open-parts : (s : DrawRequest) (spent : Drive → Bool) (drawn : List Drive) (d : Drive) → is_open s spent drawn d ≡ true
    → (is_left s spent d ≡ true) × (is_in drawn d ≡ false)
is_open-parts s spent drawn d h = open_parts (s.usable d) (s.used d) (spent d) (is_in drawn d) h

-- what holds of each drive of a list, and of one more
pub each_push : (Q : Drive → Type 0) (xs : List Drive) (x : Drive) → ((d : Drive) → is_in xs d ≡ true → Q d) → Q x
    → (d : Drive) → is_in (xs ++ x ∷ []) d ≡ true → Q d
each_push Q xs x all this d there = elim (or_cases _ _ (sym (is_in-push xs x d) ∙ there)) [
  | inl before ↦ all d before
  | inr here ↦ subst Q (same_drive-eq x d here) this
]

none_before : (Q : Drive → Type 0) (d : Drive) → is_in [] d ≡ true → Q d
none_before Q d h = absurd (both_ways false refl h)

pub order-of_shape : (s : DrawRequest) (spent : Drive → Bool) (d : Drive) → is_in (order_of s spent) d ≡ true → is_of s.shape d ≡ true
order-of_shape s spent =
    order_keeps s spent (λ xs. (d : Drive) → is_in xs d ≡ true → is_of s.shape d ≡ true) (none_before (λ d. is_of s.shape d ≡ true))
    (λ visit is drawn x this all. each_push (λ d. is_of s.shape d ≡ true) drawn x all
    (is_of-on s visit.1 x is.some is.within (drives_of-on s visit.1 x this.among)))

pub order-left : (s : DrawRequest) (spent : Drive → Bool) (d : Drive) → is_in (order_of s spent) d ≡ true → is_left s spent d ≡ true
order-left s spent =
    order_keeps s spent (λ xs. (d : Drive) → is_in xs d ≡ true → is_left s spent d ≡ true) (none_before (λ d. is_left s spent d ≡ true))
    (λ visit is drawn x this all. each_push (λ d. is_left s spent d ≡ true) drawn x all (is_open-parts s spent drawn x this.opens).0)

pub order-apart : (s : DrawRequest) (spent : Drive → Bool) → AreApart (order_of s spent)
order-apart s spent =
    order_keeps s spent AreApart tt (λ visit is drawn x this apart. apart-push drawn x apart (is_open-parts s spent drawn x this.opens).1)

abbrev on : ℕ → List Drive → ℕ
on node xs = count_by (λ (d : Drive). eqb d.node node) xs

on_push : (s : DrawRequest) (spent : Drive → Bool) (node : ℕ) (visit : ℕ × ℕ) → IsVisit s visit
    → (drawn : List Drive) (x : Drive) → IsDrawn s spent drawn visit x → on node drawn ≤ s.level.k - drives_on s.shape.drives node s.used
    → on node (drawn ++ x ∷ []) ≤ s.level.k - drives_on s.shape.drives node s.used
on_push s spent node visit is drawn x this low =
    let step = count_by-push (λ (d : Drive). eqb d.node node) drawn x in
    elim (cases_eq x.node node) [
      | inl here ↦
          let one = ap one_if (eq-eqb x.node node here) in
          let visited : visit.1 ≡ node = sym (drives_of-on s visit.1 x this.among).node_is ∙ here in
          let below = subst (λ n. units_on s drawn n < visit.0) visited this.below in
          omega (arith, step, one, below, is.round)
      | inr other ↦ let none = ap one_if (ne_eqb x.node node other) in omega (arith, step, none, low)
    ]

-- on each node the order has at most as many drives as the group may have further units there
pub order-on : (s : DrawRequest) (spent : Drive → Bool) (node : ℕ) → on node (order_of s spent) ≤ s.level.k - drives_on s.shape.drives node s.used
order-on s spent node =
    order_keeps s spent (λ xs. on node xs ≤ s.level.k - drives_on s.shape.drives node s.used) (omega arith) (on_push s spent node)

within_max : (used k more : ℕ) → more ≤ k - used → used + more ≤ max k used
within_max used k more low =
    let left = le-max_left k used in let right = le-max_right k used in elim (cases_lt used k) [
      | inl below ↦ omega (arith, left, low, below)
      | inr full ↦ omega (arith, right, low, full)
    ]

pub order-may_give : (s : DrawRequest) (spent : Drive → Bool) → MayGive s spent (order_of s spent)
order-may_give s spent = record {
  of_shape = order-of_shape s spent;
  left = order-left s spent;
  apart = order-apart s spent;
  spread = λ node. within_max (drives_on s.shape.drives node s.used) s.level.k (on node (order_of s spent)) (order-on s spent node);
}

-- what may give slots together has only prefixes that may
pub take-may_give : (s : DrawRequest) (spent : Drive → Bool) (count : ℕ) (drives : List Drive) → MayGive s spent drives → MayGive s spent (take count drives)
take-may_give s spent count drives all = record {
  of_shape = λ d there. all.of_shape d (is_in-take count drives d there);
  left = λ d there. all.left d (is_in-take count drives d there);
  apart = apart-take count drives all.apart;
  spread = λ node. let some = count_by-take (λ (d : Drive). eqb d.node node) count drives in let whole = all.spread node in omega (arith, some, whole);
}

pub prefixes_may_give : OrderMayGive
prefixes_may_give s spent count = (order-may_give s spent, take-may_give s spent count (order_of s spent) (order-may_give s spent))
