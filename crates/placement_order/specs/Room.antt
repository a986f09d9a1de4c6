-- How many units of a group find a place beside those that stand already.
use Rattle.std.specs.Prelude.{ℕ, zero, suc, ◌+◌, ◌-◌, min, Bool, ◌&&◌, not}
use Rattle.domains.specs.Drive.{Drive}
use Rattle.domains.specs.Room.{drives_on}
use Rattle.placement_order.specs.Order.{DrawRequest}

-- the drive is usable, the group has no unit there, and it is not spent
abbrev pub is_left : DrawRequest → (Drive → Bool) → Drive → Bool
is_left s spent d = s.usable d && (not (s.used d) && not (spent d))

-- how many further units find a place on the first n nodes
abbrev pub room_left_up_to : ℕ → DrawRequest → (Drive → Bool) → ℕ
room_left_up_to zero s spent = 0
room_left_up_to (suc n) s spent =
    room_left_up_to n s spent
    + min (drives_on s.shape.drives (suc n) (is_left s spent)) (s.level.k - drives_on s.shape.drives (suc n) s.used)

-- how many further units find a place: on each node as many as drives are left there, and at most k with the units that stand there
abbrev pub room_left : DrawRequest → (Drive → Bool) → ℕ
room_left s spent = room_left_up_to s.shape.nodes s spent

-- how many drives of the first n nodes are marked, in a cluster with this number of drives a node
abbrev pub marked_up_to : ℕ → ℕ → (Drive → Bool) → ℕ
marked_up_to zero drives marked = 0
marked_up_to (suc n) drives marked = marked_up_to n drives marked + drives_on drives (suc n) marked
