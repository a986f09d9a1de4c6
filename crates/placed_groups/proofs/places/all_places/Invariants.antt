use Rattle.std.proofs.Common.{◌≡◌, take}
use Rattle.file_history.specs.Layout.{places_of}
use Rattle.placed_groups.proofs.places.all_places.Given as goal

-- the places of the groups so far
abbrev pub invariant-loop-group : goal.invariant-loop-group
invariant-loop-group l = l.places.items ≡ places_of (take l.group-index l.groups)
