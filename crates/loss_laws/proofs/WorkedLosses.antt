-- A group and a file on two nodes of two drives, after losses that its level bears and after one more.
use Rattle.std.proofs.Common.{◌≡◌, ◌≤◌, ℕ, false, Bool, ◌&&◌, not, ◌==◌, [], ◌∷◌, refl, lit≤, rules}
use Rattle.std.proofs.lemmas.Bool.{false≢true}
use Rattle.domains.specs.Drive.{Drive}
use Rattle.domains.specs.Place.{Place}
use Rattle.domains.specs.Level.{Level}
use Rattle.domains.specs.declared.group.Group.{Group}
use Rattle.file_history.specs.World.{Moment}
use Rattle.file_history.specs.Layout.{Layout, empty_layout}
use Rattle.file_history.specs.Live.{live_units}
use Rattle.loss_laws.specs.BorneLosses.{AreLostWith, BearsLosses}
use Rattle.loss_laws.proofs.BorneLosses.{keep_enough}

abbrev level : Level
level = record { w = 16; m = 2; k = 2 }

abbrev placed : ℕ → ℕ → Place
placed node drive = record { drive = record { node = node; drive = drive }; slot = 0 }

-- two data and two correction units, two on each node
abbrev group : Group
group = record { generation = 7; n = 2; m = 2; places = placed 1 1 ∷ placed 2 1 ∷ placed 1 2 ∷ placed 2 2 ∷ [] }

abbrev moment : (Drive → Bool) → Moment
moment up = record { level = level; shape = record { nodes = 2; drives = 2; slots = 16; unit = 8 }; up = up; gone = λ d. false }

abbrev layout : Layout
layout = record (empty_layout level) { groups = group ∷ []; next = 9 }

-- the second node is lost
abbrev one_node : Moment
one_node = moment (λ d. not (d.node == 2))

bears_a_node : BearsLosses one_node layout group
bears_a_node = record {
  level = level;
  at_level = search rules;
  nodes = 2 ∷ [];
  drives = [];
  borne = lit≤ tt;
  lost = search rules;
}

kept_without_a_node : 2 ≤ live_units one_node layout group
kept_without_a_node = keep_enough one_node layout group bears_a_node

-- a dead unit is lost with its drive: beside one drive that is down it is borne
abbrev one_drive : Moment
one_drive = moment (λ d. not ((d.node == 1) && (d.drive == 1)))

abbrev with_dead : Layout
with_dead = record layout { dead = record { generation = 7; position = 3 } ∷ [] }

bears_a_dead_unit : BearsLosses one_drive with_dead group
bears_a_dead_unit = record {
  level = level;
  at_level = search rules;
  nodes = [];
  drives = record { node = 1; drive = 1 } ∷ record { node = 2; drive = 2 } ∷ [];
  borne = lit≤ tt;
  lost = search rules;
}

-- a dead unit beside a node is more than the level bears, and one unit counts
short_of_a_unit : live_units one_node (record layout { dead = record { generation = 7; position = 0 } ∷ [] }) group ≡ 1
short_of_a_unit = refl

-- and a drive that is lost is among those that are named
unnamed : AreLostWith group.places 0 one_drive layout 7 [] (record { node = 1; drive = 2 } ∷ []) → ⊥
unnamed lost = false≢true (lost.0 refl)
