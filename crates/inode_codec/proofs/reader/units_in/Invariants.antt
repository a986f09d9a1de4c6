use Rattle.std.proofs.Common.{◌≡◌, ◌*◌, ◌≤◌, take}
use Rattle.inode_codec.specs.Inode.{data_units}
use Rattle.inode_codec.proofs.reader.units_in.Given as goal

-- the units of the groups so far, each of which has at most 255
abbrev pub invariant-loop-group : goal.invariant-loop-group
invariant-loop-group l = (l.units ≡ data_units (take l.group-index l.groups)) × (l.units ≤ 255 * l.group-index)
