-- The ranks of drives.
use Rattle.std.proofs.Common.{◌≡◌, ◌≢◌, ◌*◌, ◌<◌, true, false, sym, arith}
use Rattle.std.proofs.lemmas.Bool.{both_ways}
use Rattle.domains.specs.Shape.{Shape, IsShape, is_of}
use Rattle.domains.specs.Drive.{Drive, IsDrive, same_drive}
use Rattle.domains.proofs.DriveLemmas.{eq-same_drive}
use Rattle.domains.proofs.ShapeLemmas.{IsDrive-of, is_of-within}
use Rattle.slot_yard.specs.Tallies.{rank_of}

-- a drive of the cluster has its rank in each tally
pub rank_of-within : (shape : Shape) (d : Drive) → IsShape shape → is_of shape d ≡ true → rank_of d < shape.nodes * 16
rank_of-within shape d is of =
    let within = is_of-within shape d of in
    let drive = IsDrive-of shape d is of in
    let a = within.some_node in
    let b = within.nodes in
    let e = drive.some_drive in
    let f = drive.drives in
    omega (arith, a, b, e, f)

-- drives of one rank are one
pub rank_of-eq : (d e : Drive) → IsDrive d → IsDrive e → rank_of d ≡ rank_of e → d ≡ e
rank_of-eq d e is_d is_e same =
    let a = is_d.some_node in
    let b = is_d.some_drive in
    let f = is_d.drives in
    let g = is_e.some_node in
    let h = is_e.some_drive in
    let j = is_e.drives in
    let nodes : d.node ≡ e.node = omega (arith, a, b, f, g, h, j, same) in
    let drives : d.drive ≡ e.drive = omega (arith, a, b, f, g, h, j, same) in
    λ i. record { node = nodes i; drive = drives i }

-- two drives have two ranks
pub rank_of-apart : (d e : Drive) → IsDrive d → IsDrive e → same_drive d e ≡ false → rank_of e ≢ rank_of d
rank_of-apart d e is_d is_e other same = both_ways _ other (eq-same_drive d e (rank_of-eq d e is_d is_e (sym same)))
