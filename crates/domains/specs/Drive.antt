-- Drives, and lists of them.
use Rattle.std.specs.Prelude.{◌≡◌, ℕ, ◌≤◌, Bool, true, false, ◌==◌, ◌&&◌, if◌then◌else◌, List, [], ◌∷◌}

-- a drive: the number of its node, and its number within the node, both from 1
pub record Drive : Type 0 where
  pub node : ℕ
  pub drive : ℕ

-- the numbers are within the limits of a cluster
pub record IsDrive (d : Drive) : Type 0 where
  pub some_node : 1 ≤ d.node
  pub nodes : d.node ≤ 32
  pub some_drive : 1 ≤ d.drive
  pub drives : d.drive ≤ 16

-- the two are one drive
abbrev pub same_drive : Drive → Drive → Bool
same_drive a b = (a.node == b.node) && (a.drive == b.drive)

-- the drive is one of these
abbrev pub is_in : List Drive → Drive → Bool
is_in [] d = false
is_in (x ∷ xs) d = if same_drive x d then true else is_in xs d

-- no drive comes twice
abbrev pub AreApart : List Drive → Type 0
AreApart [] = Unit {0}
AreApart (x ∷ xs) = (is_in xs x ≡ false) × AreApart xs
