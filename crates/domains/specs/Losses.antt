-- What a group keeps where nodes and drives are lost.
use Rattle.std.specs.Prelude.{ℕ, ◌≤◌, ◌==◌, Bool, not, ◌||◌, List, length, count_by}
use Rattle.std.specs.List.{list_any}
use Rattle.domains.specs.Drive.{Drive, same_drive}
use Rattle.domains.specs.Place.{Place}
use Rattle.domains.specs.Level.{Level, Bears}
use Rattle.domains.specs.AtLevel.{AtLevel}
use Rattle.domains.specs.declared.group.Group.{Group}

-- the unit at the place is lost with the nodes and the drives: its node is one of those nodes, or its drive is one of those drives
abbrev pub is_lost : List ℕ → List Drive → Place → Bool
is_lost nodes drives place =
    list_any (λ (node : ℕ). place.drive.node == node) nodes || list_any (λ (drive : Drive). same_drive place.drive drive) drives

-- how many units at the places are not lost with the nodes and the drives
abbrev pub kept_units : List ℕ → List Drive → List Place → ℕ
kept_units nodes drives places = count_by (λ (place : Place). not (is_lost nodes drives place)) places

-- a group at a level that loses any nodes and any further drives, as many as the level bears, keeps as many units as it has data units
abbrev pub LevelsBearTheirLosses : Type 0
LevelsBearTheirLosses = (level : Level) (group : Group) (nodes : List ℕ) (drives : List Drive) → AtLevel group level
    → Bears level (length nodes) (length drives) → group.n ≤ kept_units nodes drives group.places
