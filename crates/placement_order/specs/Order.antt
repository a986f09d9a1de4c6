-- In which order the drives of a cluster give slots to a group.
use Rattle.std.specs.Prelude.{ℕ, zero, suc, ◌+◌, ◌/◌, ◌%◌, nat_eq, nat_le, Bool, ◌&&◌, not, if◌then◌else◌, List, [], ◌∷◌, ◌++◌, map, count_by, Option, Some, None}
use Rattle.domains.specs.Shape.{Shape}
use Rattle.domains.specs.Drive.{Drive, is_in}
use Rattle.domains.specs.Level.{Level}
use Rattle.domains.specs.Room.{drives_on}

-- what slots are asked for: the level of a group, the cluster, which drives it may use, which it uses already, and its spin
pub record DrawRequest : Type 0 where
  pub level : Level
  pub shape : Shape
  pub usable : Drive → Bool
  pub used : Drive → Bool
  pub spin : ℕ

-- n numbers of 1 to `count`, in cyclic order from the one that the start falls on
abbrev pub cycle : ℕ → ℕ → ℕ → List ℕ
cycle zero count start = []
cycle (suc n) count start = (1 + start % count) ∷ cycle n count (suc start)

-- the nodes, from the one that the spin falls on
abbrev pub nodes_of : DrawRequest → List ℕ
nodes_of s = cycle s.shape.nodes s.shape.nodes s.spin

-- the drives of a node, from the one that the spin falls on once it has gone round the nodes
abbrev pub drives_of : DrawRequest → ℕ → List Drive
drives_of s node = map (λ drive. record { node = node; drive = drive }) (cycle s.shape.drives s.shape.drives (s.spin / s.shape.nodes))

-- how many units of the group stand on the node: on drives that it used already, and on those drawn
abbrev pub units_on : DrawRequest → List Drive → ℕ → ℕ
units_on s drawn node = drives_on s.shape.drives node s.used + count_by (λ d. nat_eq d.node node) drawn

-- the drive may give the group a slot: it is usable, the group has no unit there, and it is not spent
abbrev pub is_open : DrawRequest → (Drive → Bool) → List Drive → Drive → Bool
is_open s spent drawn d = (s.usable d && not (s.used d)) && (not (spent d) && not (is_in drawn d))

-- the first drive of the list that may give a slot
abbrev pub first_open : DrawRequest → (Drive → Bool) → List Drive → List Drive → Option Drive
first_open s spent drawn [] = None
first_open s spent drawn (d ∷ ds) = if is_open s spent drawn d then Some d else first_open s spent drawn ds

-- the visits of a round: all nodes in their order
abbrev pub visits_in : ℕ → List ℕ → List (ℕ × ℕ)
visits_in round nodes = map (λ node. (round, node)) nodes

-- the visits of n rounds, from the round after this one
abbrev pub visits_after : ℕ → ℕ → List ℕ → List (ℕ × ℕ)
visits_after done zero nodes = []
visits_after done (suc left) nodes = visits_in (suc done) nodes ++ visits_after (suc done) left nodes

-- all visits: as many rounds as a node may have units of a group
abbrev pub visits_of : DrawRequest → List (ℕ × ℕ)
visits_of s = visits_after 0 s.level.k (nodes_of s)

-- the drive that gives a slot at a visit: none if the node has as many units as the round's number, else the node's first open drive
abbrev pub given_at : DrawRequest → (Drive → Bool) → List Drive → ℕ × ℕ → Option Drive
given_at s spent drawn visit =
    if nat_le visit.0 (units_on s drawn visit.1) then None else first_open s spent drawn (drives_of s visit.1)

-- the list with the drive, if there is one, at its end
abbrev pub with_drive : List Drive → Option Drive → List Drive
with_drive drawn None = drawn
with_drive drawn (Some d) = drawn ++ d ∷ []

-- the drives that have given slots once these visits are made
abbrev pub drawn_in : List (ℕ × ℕ) → DrawRequest → (Drive → Bool) → List Drive → List Drive
drawn_in [] s spent drawn = drawn
drawn_in (visit ∷ visits) s spent drawn = drawn_in visits s spent (with_drive drawn (given_at s spent drawn visit))

-- the drives that give slots to the group, in order, if these are spent: found empty, or failed
abbrev pub order_of : DrawRequest → (Drive → Bool) → List Drive
order_of s spent = drawn_in (visits_of s) s spent []
