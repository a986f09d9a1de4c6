-- Drives that are up.
use Rattle.std.specs.Prelude.{◌≡◌, ◌≢◌, ℕ, ◌≤◌, Bool, true}
use Rattle.domains.specs.Drive.{Drive, IsDrive}
use Rattle.domains.specs.Shape.{Shape}

-- the drive is an up one of the cluster, on this node
pub record IsUpOn (shape : Shape) (up : Drive → Bool) (node : ℕ) (d : Drive) : Type 0 where
  pub is : IsDrive d
  pub on : d.node ≡ node
  pub nodes : d.node ≤ shape.nodes
  pub drives : d.drive ≤ shape.drives
  pub up_there : up d ≡ true

-- the drive is an up one of the cluster, on another node than this
pub record IsUpElsewhere (shape : Shape) (up : Drive → Bool) (other : ℕ) (d : Drive) : Type 0 where
  pub is : IsDrive d
  pub apart : d.node ≢ other
  pub nodes : d.node ≤ shape.nodes
  pub drives : d.drive ≤ shape.drives
  pub up_there : up d ≡ true
