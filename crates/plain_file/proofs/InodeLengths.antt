-- How long the inodes of a plain file are.
use Rattle.std.proofs.Common.{◌≤◌, ℕ, [], ◌∷◌, length, lit≤}
use Rattle.domains.specs.Place.{Place}
use Rattle.domains.specs.Level.{Level}
use Rattle.inode_codec.specs.Inode.{place_bytes, group_bytes, inode_bytes}

-- the inode of an empty file has 18 bytes
pub empty_length : (level : Level) (unit : ℕ) → length (inode_bytes (record { level = level; unit = unit; size = 0; groups = [] })) ≤ 262144
unfolding inode_bytes
empty_length level unit = lit≤ tt

-- and that of a file with one mirrored group 32
pub mirror_length : (level : Level) (unit size generation : ℕ) (a b : Place)
    → length (inode_bytes (record { level = level; unit = unit; size = size; groups = record { generation = generation; n = 1; m = 1; places = a ∷ b ∷ [] } ∷ [] })) ≤ 262144
unfolding inode_bytes group_bytes place_bytes
mirror_length level unit size generation a b = lit≤ tt
