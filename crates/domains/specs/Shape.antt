-- The shape of a cluster.
use Rattle.std.specs.Prelude.{ℕ, ◌*◌, ◌≤◌, nat_le, Bool, ◌&&◌}
use Rattle.domains.specs.Drive.{Drive}

-- how many nodes, drives each node, slots each drive, and bytes a stripe unit
pub record Shape : Type 0 where
  pub nodes : ℕ
  pub drives : ℕ
  pub slots : ℕ
  pub unit : ℕ

-- the numbers are within their limits
pub record IsShape (c : Shape) : Type 0 where
  pub some_node : 1 ≤ c.nodes
  pub nodes : c.nodes ≤ 32
  pub some_drive : 1 ≤ c.drives
  pub drives : c.drives ≤ 16
  pub all_drives : c.nodes * c.drives ≤ 200
  pub some_slot : 1 ≤ c.slots
  pub slots : c.slots ≤ 4096
  pub least_unit : 8 ≤ c.unit
  pub most_unit : c.unit ≤ 131072

-- the drive is one of the cluster
abbrev pub is_of : Shape → Drive → Bool
is_of c d = (nat_le 1 d.node && nat_le 1 d.drive) && (nat_le d.node c.nodes && nat_le d.drive c.drives)
