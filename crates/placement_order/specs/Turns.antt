-- The order of placement told by rounds and nodes, each for itself.
use Rattle.std.specs.Prelude.{◌≡◌, ℕ, ◌-◌, nat_le, Bool, if◌then◌else◌, List, filter, slice_get, filter_map, Option, None}
use Rattle.domains.specs.Drive.{Drive}
use Rattle.domains.specs.Room.{drives_on}
use Rattle.placement_order.specs.Order.{DrawRequest, drives_of, visits_of, order_of}
use Rattle.placement_order.specs.Room.{is_left}

-- the node's drives that are left, from the one that the spin falls on
abbrev pub left_on : DrawRequest → (Drive → Bool) → ℕ → List Drive
left_on s spent node = filter (is_left s spent) (drives_of s node)

-- the drive that a node gives in a round: if the group has u units on the node already and the round's number is r, the (r - u)-th
-- of those that are left, and none if r is not above u, or fewer are left
abbrev pub turn_of : DrawRequest → (Drive → Bool) → ℕ × ℕ → Option Drive
turn_of s spent visit =
    if nat_le visit.0 (drives_on s.shape.drives visit.1 s.used)
    then None
    else slice_get (left_on s spent visit.1) (visit.0 - 1 - drives_on s.shape.drives visit.1 s.used)

-- the order is what the nodes give, round by round
abbrev pub OrderIsByTurns : Type 0
OrderIsByTurns = (s : DrawRequest) (spent : Drive → Bool) → order_of s spent ≡ filter_map (turn_of s spent) (visits_of s)
