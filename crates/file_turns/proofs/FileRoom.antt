-- The drives that new units of a file may be placed on, and the room that they have.
use Rattle.std.proofs.Common.{◌≡◌, ℕ, zero, suc, ◌+◌, ◌≤◌, Bool, true, false, ◌&&◌, not, min, refl, sym, ap, ◌∙◌, arith}
use Rattle.domains.specs.Drive.{Drive, IsDrive}
use Rattle.domains.specs.DriveSet.{has}
use Rattle.domains.specs.Level.{Level}
use Rattle.domains.specs.Room.{room_of, room_up_to}
use Rattle.domains.specs.Shape.{Shape, IsShape, is_of}
use Rattle.domains.specs.declared.drive_set.DriveSet.{DriveSet}
use Rattle.domains.proofs.ShapeLemmas.{IsDrive-of}
use Rattle.board.specs.declared.board_view.View.{View}
use Rattle.placement_order.proofs.MarkedDrives.{is_of-at}
use Rattle.placement_order.proofs.NodeCounts.{drives_on-agree}
use Rattle.file_history.specs.Refusals.{is_barred, is_usable, room_at}
use Rattle.file_core.specs.FileView.{FileView, layout_of, now_of}
use Rattle.file_core.specs.Looks.{IsLook}
use Rattle.file_core.specs.declared.looks.Look.{Look}

-- tests that agree on the drives of the cluster find the same room
pub room-agree : (n : ℕ) (level : Level) (shape : Shape) (p q : Drive → Bool) → n ≤ shape.nodes → ((d : Drive) → is_of shape d ≡ true → p d ≡ q d)
    → room_up_to n level shape p ≡ room_up_to n level shape q
room-agree zero level shape p q within same = refl
room-agree (suc n) level shape p q within same =
    let rest = room-agree n level shape p q (omega (arith, within)) same in
    let here = drives_on-agree shape.drives (suc n) p q (λ d on.
    same d (is_of-at shape d.node d.drive (let node = on.node_is in omega (arith, node)) (let node = on.node_is in omega (arith, node, within)) on.some on.within)) in
    λ i. rest i + min (here i) level.k

in_shape : (a b c : Bool) → a ≡ true → (a && b) && c ≡ b && c
in_shape a b c is = ap (λ x. (x && b) && c) is

-- the drives of the cluster that are up and not barred are the usable ones
pub usable_is : {S : Type 0} (x : FileView S) (view : View) (look : Look) (count : ℕ) (usable : DriveSet) → IsShape x.shape → IsLook (layout_of x) count look
    → ((d : Drive) → IsDrive d → has usable d ≡ has view.up d && not (has look.barred d))
    → (d : Drive) → is_of x.shape d ≡ true → has usable d ≡ is_usable (now_of x view) (layout_of x) d
usable_is x view look count usable cluster looks made d of =
    let is = IsDrive-of x.shape d cluster of in
    made d is ∙ ap (λ b. has view.up d && not b) (looks.barred d is)
    ∙ sym (in_shape (is_of x.shape d) (has view.up d) (not (is_barred (layout_of x) d)) of)

-- the room that they have
pub room_is : {S : Type 0} (x : FileView S) (view : View) (usable : Drive → Bool)
    → ((d : Drive) → is_of x.shape d ≡ true → usable d ≡ is_usable (now_of x view) (layout_of x) d)
    → room_of (layout_of x).requested x.shape usable ≡ room_at (now_of x view) (layout_of x)
room_is x view usable same = room-agree x.shape.nodes (layout_of x).requested x.shape usable (is_usable (now_of x view) (layout_of x)) (omega arith) same
