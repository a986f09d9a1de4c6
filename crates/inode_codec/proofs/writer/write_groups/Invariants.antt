use Rattle.std.proofs.Common.{◌≡◌, ◌++◌, drop}
use Rattle.inode_codec.specs.Inode.{groups_bytes}
use Rattle.inode_codec.proofs.writer.write_groups.Given as goal

-- what is written and the groups to come
abbrev pub invariant-loop-group : goal.invariant-loop-group
invariant-loop-group l = l.bytes.items ++ groups_bytes (drop l.group-index l.groups) ≡ l.fn.bytes.items ++ groups_bytes l.groups
