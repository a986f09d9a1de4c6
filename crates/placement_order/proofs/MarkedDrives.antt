-- How many drives of a cluster are marked, once one more is.
use Rattle.std.proofs.Common.{◌≡◌, ℕ, zero, suc, ◌+◌, ◌*◌, ◌<◌, ◌≤◌, inl, inr, Bool, true, false, ◌||◌, eqb, refl, ap, ◌∙◌, arith}
use Rattle.std.proofs.lemmas.Bool.{and_from, cases_eq, eq-eqb, le-leb, ne_eqb}
use Rattle.domains.specs.Counts.{one_if}
use Rattle.domains.specs.Drive.{Drive, same_drive}
use Rattle.domains.specs.Room.{drives_on}
use Rattle.domains.specs.Shape.{Shape, is_of}
use Rattle.domains.proofs.DriveLemmas.{same_drive-sym}
use Rattle.domains.proofs.ShapeLemmas.{is_of-within}
use Rattle.placement_order.specs.Room.{marked_up_to}
use Rattle.placement_order.proofs.NodeDrives.{IsOn}
use Rattle.placement_order.proofs.NodeCounts.{drives_on-agree, drives_on-most, drives_on-one}

abbrev at : ℕ → ℕ → Drive
at node drive = record { node = node; drive = drive }

pub is_of-at : (shape : Shape) (node drive : ℕ) → 1 ≤ node → node ≤ shape.nodes → 1 ≤ drive → drive ≤ shape.drives → is_of shape (at node drive) ≡ true
is_of-at shape node drive a b e f =
    and_from _ _ (and_from _ _ (le-leb 1 node a) (le-leb 1 drive e)) (and_from _ _ (le-leb node shape.nodes b) (le-leb drive shape.drives f))

pub marked_up_to-le : (n drives : ℕ) (f : Drive → Bool) → marked_up_to n drives f ≤ n * drives
marked_up_to-le zero drives f = omega arith
marked_up_to-le (suc n) drives f =
    let rest = marked_up_to-le n drives f in
    let here = drives_on-most drives (suc n) f in
    let all : suc n * drives ≡ n * drives + drives = omega arith in
    omega (arith, rest, here, all)

-- the marks of g are those of f and this one more
pub record MarksOne (shape : Shape) (d : Drive) (f g : Drive → Bool) : Type 0 where
  pub of_shape : is_of shape d ≡ true
  pub was : f d ≡ false
  pub now : (e : Drive) → is_of shape e ≡ true → g e ≡ (same_drive e d || f e)

or_turned : (a b : Bool) → (a || b) ≡ (b || a)
or_turned true true = refl
or_turned true false = refl
or_turned false true = refl
or_turned false false = refl

module _ (shape : Shape) (d : Drive) (f g : Drive → Bool) (one : MarksOne shape d f g) where
  is_one_more : (node : ℕ) → 1 ≤ node → node ≤ shape.nodes → (e : Drive) → IsOn node shape.drives e → g e ≡ (f e || same_drive d e)
  is_one_more node some within e on =
      let is = on.node_is in
      one.now e (is_of-at shape e.node e.drive (omega (arith, some, is)) (omega (arith, within, is)) on.some on.within)
      ∙ or_turned (same_drive e d) (f e) ∙ ap (λ b. f e || b) (same_drive-sym e d)

  -- on a node
  pub drives_on-marked : (node : ℕ) → 1 ≤ node → node ≤ shape.nodes → drives_on shape.drives node g ≡ drives_on shape.drives node f + one_if (eqb d.node node)
  drives_on-marked node some within =
      let its = is_of-within shape d one.of_shape in
      drives_on-agree shape.drives node g (λ e. f e || same_drive d e) (is_one_more node some within)
      ∙ drives_on-one shape.drives node f d one.was its.some_drive its.drives

  before_it : (n : ℕ) → n < d.node → n ≤ shape.nodes → marked_up_to n shape.drives g ≡ marked_up_to n shape.drives f
  before_it zero low within = refl
  before_it (suc n) low within =
      let rest = before_it n (omega (arith, low)) (omega (arith, within)) in
      let here = drives_on-marked (suc n) (omega arith) within in
      let none = ap one_if (ne_eqb d.node (suc n) (λ e. omega (arith, e, low))) in
      omega (arith, rest, here, none)

  up_to_it : (n : ℕ) → d.node ≤ n → n ≤ shape.nodes → marked_up_to n shape.drives g ≡ marked_up_to n shape.drives f + 1
  up_to_it zero low within =
      let some = (is_of-within shape d one.of_shape).some_node in
      absurd (omega (arith, low, some))
  up_to_it (suc n) low within =
      let last = drives_on-marked (suc n) (omega arith) within in
      elim (cases_eq d.node (suc n)) [
        | inl here ↦
            let rest = before_it n (omega (arith, here)) (omega (arith, within)) in
            let this = ap one_if (eq-eqb d.node (suc n) here) in
            omega (arith, rest, last, this)
        | inr other ↦
            let rest = up_to_it n (omega (arith, low, other)) (omega (arith, within)) in
            let none = ap one_if (ne_eqb d.node (suc n) other) in
            omega (arith, rest, last, none)
      ]

  -- in all
  pub marked_up_to-marked : marked_up_to shape.nodes shape.drives g ≡ marked_up_to shape.nodes shape.drives f + 1
  marked_up_to-marked = up_to_it shape.nodes (is_of-within shape d one.of_shape).nodes (omega arith)

-- while a drive is not marked, fewer are than there are
pub marked_up_to-few : (shape : Shape) (d : Drive) (f : Drive → Bool) → is_of shape d ≡ true → f d ≡ false
    → marked_up_to shape.nodes shape.drives f < shape.nodes * shape.drives
marked_up_to-few shape d f of_shape was =
    let g : Drive → Bool = λ e. same_drive e d || f e in
    let more = marked_up_to-marked shape d f g (record { of_shape = of_shape; was = was; now = λ e of. refl }) in
    let all = marked_up_to-le shape.nodes shape.drives g in
    omega (arith, more, all)
