-- What tests stand on.
use Rattle.domains.specs.Shape.{Shape}

-- two nodes of two drives
abbrev pub small_shape : Shape
small_shape = record { nodes = 2; drives = 2; slots = 1; unit = 8 }
