-- Each place of a cluster's pools is that of one drive.
use Rattle.std.proofs.Common.{◌≡◌, ℕ, zero, suc, ◌+◌, ◌*◌, ◌-◌, ◌<◌, true, ◌&&◌, leb, inl, inr, refl, ap, ◌∙◌, arith}
use Rattle.std.proofs.lemmas.Bool.{and_from, cases_lt, le-leb}
use Rattle.domains.specs.Shape.{Shape, is_of}
use Rattle.domains.specs.Drive.{Drive}
use Rattle.domains.proofs.ShapeLemmas.{is_of-within}
use Rattle.fabric.specs.Cells.{place_in}

before_end : (n nodes drives d : ℕ) → n < nodes → d < drives → n * drives + d < nodes * drives
before_end n zero drives d node drive = absurd (omega (arith, node))
before_end zero (suc nodes) drives d node drive =
    let all : suc nodes * drives ≡ nodes * drives + drives = omega arith in
    omega (arith, all, drive)
before_end (suc n) (suc nodes) drives d node drive =
    let here = before_end n nodes drives d (omega (arith, node)) drive in
    let all : suc nodes * drives ≡ nodes * drives + drives = omega arith in
    let some : suc n * drives ≡ n * drives + drives = omega arith in
    omega (arith, here, all, some)

one_place : (n m drives d e : ℕ) → d < drives → e < drives → n * drives + d ≡ m * drives + e → (n ≡ m) × (d ≡ e)
one_place zero zero drives d e first second same = (refl, omega (arith, same))
one_place zero (suc m) drives d e first second same =
    let some : suc m * drives ≡ m * drives + drives = omega arith in
    absurd (omega (arith, some, same, first))
one_place (suc n) zero drives d e first second same =
    let some : suc n * drives ≡ n * drives + drives = omega arith in
    absurd (omega (arith, some, same, second))
one_place (suc n) (suc m) drives d e first second same =
    let left : suc n * drives ≡ n * drives + drives = omega arith in
    let right : suc m * drives ≡ m * drives + drives = omega arith in
    let rest = one_place n m drives d e first second (omega (arith, same, left, right)) in
    (ap suc rest.0, rest.1)

pub place_within : (shape : Shape) (d : Drive) → is_of shape d ≡ true → place_in shape d < shape.nodes * shape.drives
place_within shape d of =
    let within = is_of-within shape d of in
    let a = within.some_node in
    let b = within.nodes in
    let e = within.some_drive in
    let f = within.drives in
    before_end (d.node - 1) shape.nodes shape.drives (d.drive - 1) (omega (arith, a, b)) (omega (arith, e, f))

-- two drives of one place are one
pub same_place : (shape : Shape) (d e : Drive) → is_of shape d ≡ true → is_of shape e ≡ true → place_in shape d ≡ place_in shape e → d ≡ e
same_place shape d e first second same =
    let one = is_of-within shape d first in
    let two = is_of-within shape e second in
    let a = one.some_node in
    let b = one.some_drive in
    let f = one.drives in
    let g = two.some_node in
    let h = two.some_drive in
    let k = two.drives in
    let both = one_place (d.node - 1) (e.node - 1) shape.drives (d.drive - 1) (e.drive - 1) (omega (arith, b, f)) (omega (arith, h, k)) same in
    let m = both.0 in
    let n = both.1 in
    let nodes : d.node ≡ e.node = omega (arith, m, a, g) in
    let drives : d.drive ≡ e.drive = omega (arith, n, b, h) in
    λ i. record { node = nodes i; drive = drives i }

-- a node and a drive, both counted from 0, that have this place
record Found (nodes drives place : ℕ) : Type 0 where
  node : ℕ
  drive : ℕ
  low_node : node < nodes
  low_drive : drive < drives
  place_is : node * drives + drive ≡ place

found : (nodes drives place : ℕ) → place < nodes * drives → Found nodes drives place
found zero drives place within = absurd (let none : zero * drives ≡ 0 = omega arith in omega (arith, within, none))
found (suc nodes) drives place within = elim (cases_lt place drives) [
  | inl low ↦ record { node = 0; drive = place; low_node = omega arith; low_drive = low; place_is = omega arith }
  | inr high ↦
      let all : suc nodes * drives ≡ nodes * drives + drives = omega arith in
      let rest = found nodes drives (place - drives) (omega (arith, within, high, all)) in
      let low = rest.low_node in
      let is = rest.place_is in
      let more : suc rest.node * drives ≡ rest.node * drives + drives = omega arith in
      record { node = suc rest.node; drive = rest.drive; low_node = omega (arith, low); low_drive = rest.low_drive; place_is = omega (arith, is, more, high) }
]

-- each place of a cluster is that of a drive
pub record DriveAt (shape : Shape) (place : ℕ) : Type 0 where
  pub drive : Drive
  pub of : is_of shape drive ≡ true
  pub place_is : place_in shape drive ≡ place

pub drive_at : (shape : Shape) (place : ℕ) → place < shape.nodes * shape.drives → DriveAt shape place
drive_at shape place within =
    let at = found shape.nodes shape.drives place within in
    let node = at.low_node in
    let drive = at.low_drive in
    record {
      drive = record { node = at.node + 1; drive = at.drive + 1 };
      of = and_from (leb 1 (at.node + 1) && leb 1 (at.drive + 1)) (leb (at.node + 1) shape.nodes && leb (at.drive + 1) shape.drives)
          (and_from (leb 1 (at.node + 1)) (leb 1 (at.drive + 1)) (le-leb 1 (at.node + 1) (omega arith)) (le-leb 1 (at.drive + 1) (omega arith)))
          (and_from (leb (at.node + 1) shape.nodes) (leb (at.drive + 1) shape.drives) (le-leb (at.node + 1) shape.nodes (omega (arith, node)))
          (le-leb (at.drive + 1) shape.drives (omega (arith, drive))));
      place_is = (λ i. (let n : at.node + 1 - 1 ≡ at.node = omega arith in n) i * shape.drives + (let d : at.drive + 1 - 1 ≡ at.drive = omega arith in d) i) ∙ at.place_is;
    }
