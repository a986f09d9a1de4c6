-- The definitions of levels on small clusters.
use Rattle.std.proofs.Common.{codes, ◌≡◌, ◌≤◌, ℕ, [], ◌∷◌, Option, Some, None, refl, rules}
use Rattle.domains.specs.Place.{Place}
use Rattle.domains.specs.Shape.{Shape, is_of}
use Rattle.domains.specs.Level.{Level, Bears, level_name}
use Rattle.domains.specs.Room.{room_of, width_of}
use Rattle.domains.specs.AtLevel.{AtLevel}
use Rattle.domains.specs.Losses.{kept_units}
use Rattle.domains.specs.declared.group.Group.{Group}
use Rattle.domains.proofs.LossLemmas.{kept_units-most}

abbrev level : ℕ → ℕ → ℕ → Level
level w m k = record { w = w; m = m; k = k }

abbrev cluster : ℕ → ℕ → Shape
cluster nodes drives = record { nodes = nodes; drives = drives; slots = 1; unit = 8 }

-- on a cluster of which each drive is usable
abbrev width_on : Level → ℕ → ℕ → Option ℕ
width_on l nodes drives = width_of l (cluster nodes drives) (is_of (cluster nodes drives))

two_drives_or_a_node : width_on (level 16 2 2) 4 3 ≡ Some 6
two_drives_or_a_node = refl

three_drives_or_a_node_and_a_drive : width_on (level 16 3 2) 4 3 ≡ Some 5
three_drives_or_a_node_and_a_drive = refl

two_nodes : width_on (level 16 2 1) 3 1 ≡ Some 1
two_nodes = refl

one_node_is_too_few : width_on (level 16 1 1) 1 2 ≡ None
one_node_is_too_few = refl

room_on_one_node : room_of (level 16 1 1) (cluster 1 2) (is_of (cluster 1 2)) ≡ 1
room_on_one_node = refl

name : level_name (level 16 3 2) ≡ codes "+3d:1n1d"
name = refl

-- two data and two correction units at `+2d:1n`, two on each of two nodes
abbrev placed : ℕ → ℕ → Place
placed node drive = record { drive = record { node = node; drive = drive }; slot = 0 }

abbrev group : Group
group = record { generation = 1; n = 2; m = 2; places = placed 1 1 ∷ placed 2 1 ∷ placed 1 2 ∷ placed 2 2 ∷ [] }

at_level : AtLevel group (level 16 2 2)
at_level = search rules

bears_a_node : Bears (level 16 2 2) 1 0
bears_a_node = search rules

kept_without_a_node : kept_units (2 ∷ []) [] group.places ≡ 2
kept_without_a_node = refl

kept_without_two_drives : kept_units [] ((placed 1 1).drive ∷ (placed 2 2).drive ∷ []) group.places ≡ 2
kept_without_two_drives = refl

-- a node and a drive are more than the level bears, and one unit is kept of the two that the data wants
kept_without_a_node_and_a_drive : kept_units (2 ∷ []) ((placed 1 2).drive ∷ []) group.places ≡ 1
kept_without_a_node_and_a_drive = refl

-- a drive of a lost node is lost with it, and counts once
kept_without_a_node_twice : kept_units (2 ∷ []) ((placed 2 1).drive ∷ []) group.places ≡ 2
kept_without_a_node_twice = refl

-- the law at this group
kept_by_the_law : 2 ≤ kept_units (2 ∷ []) [] group.places
kept_by_the_law = kept_units-most (level 16 2 2) group (2 ∷ []) [] at_level bears_a_node
