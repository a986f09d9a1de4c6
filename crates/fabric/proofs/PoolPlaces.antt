-- Where the pool of a drive stands.
use Rattle.std.proofs.Common.{◌≡◌, ℕ, zero, suc, ◌+◌, ◌*◌, ◌-◌, ◌<◌, true, false, refl, sym, ap, ◌∙◌, arith}
use Rattle.std.proofs.lemmas.Bool.{true≢false}
use Rattle.domains.specs.Shape.{Shape, is_of}
use Rattle.domains.specs.Drive.{Drive, same_drive}
use Rattle.domains.proofs.DriveLemmas.{same_drive-self}
use Rattle.domains.proofs.ShapeLemmas.{is_of-within}
use Rattle.fabric.specs.Cells.{place_in}

before_end : (n nodes drives d : ℕ) → n < nodes → d < drives → n * drives + d < nodes * drives
before_end n zero drives d node drive = absurd (omega (arith, node))
before_end zero (suc nodes) drives d node drive =
    let all : suc nodes * drives ≡ nodes * drives + drives = omega arith in
    omega (arith, all, drive)
before_end (suc n) (suc nodes) drives d node drive =
    let here = before_end n nodes drives d (omega (arith, node)) drive in
    let all : suc nodes * drives ≡ nodes * drives + drives = omega arith in
    let some : suc n * drives ≡ n * drives + drives = omega arith in
    omega (arith, here, all, some)

one_place : (n m drives d e : ℕ) → d < drives → e < drives → n * drives + d ≡ m * drives + e → (n ≡ m) × (d ≡ e)
one_place zero zero drives d e first second same = (refl, omega (arith, same))
one_place zero (suc m) drives d e first second same =
    let some : suc m * drives ≡ m * drives + drives = omega arith in
    absurd (omega (arith, some, same, first))
one_place (suc n) zero drives d e first second same =
    let some : suc n * drives ≡ n * drives + drives = omega arith in
    absurd (omega (arith, some, same, second))
one_place (suc n) (suc m) drives d e first second same =
    let left : suc n * drives ≡ n * drives + drives = omega arith in
    let right : suc m * drives ≡ m * drives + drives = omega arith in
    let rest = one_place n m drives d e first second (omega (arith, same, left, right)) in
    (ap suc rest.0, rest.1)

pub place_within : (shape : Shape) (d : Drive) → is_of shape d ≡ true → place_in shape d < shape.nodes * shape.drives
place_within shape d of =
    let within = is_of-within shape d of in
    let a = within.some_node in
    let b = within.nodes in
    let e = within.some_drive in
    let f = within.drives in
    before_end (d.node - 1) shape.nodes shape.drives (d.drive - 1) (omega (arith, a, b)) (omega (arith, e, f))

-- two drives of one place are one
pub same_place : (shape : Shape) (d e : Drive) → is_of shape d ≡ true → is_of shape e ≡ true → place_in shape d ≡ place_in shape e → d ≡ e
same_place shape d e first second same =
    let one = is_of-within shape d first in
    let two = is_of-within shape e second in
    let a = one.some_node in
    let b = one.some_drive in
    let f = one.drives in
    let g = two.some_node in
    let h = two.some_drive in
    let k = two.drives in
    let both = one_place (d.node - 1) (e.node - 1) shape.drives (d.drive - 1) (e.drive - 1) (omega (arith, b, f)) (omega (arith, h, k)) same in
    let m = both.0 in
    let n = both.1 in
    let nodes : d.node ≡ e.node = omega (arith, m, a, g) in
    let drives : d.drive ≡ e.drive = omega (arith, n, b, h) in
    λ i. record { node = nodes i; drive = drives i }

pub places_apart : (shape : Shape) (d e : Drive) → is_of shape d ≡ true → is_of shape e ≡ true → same_drive d e ≡ false → (place_in shape d ≡ place_in shape e → ⊥)
places_apart shape d e first second apart same =
    let is = same_place shape d e first second same in
    true≢false (sym (same_drive-self d) ∙ (ap (same_drive d) is ∙ apart))
