-- Dead units, and where those of a generation stand among them.
use Rattle.std.specs.Prelude.{ℕ, ◌<◌, ◌≤◌, ◌==◌, Bool, ◌&&◌, List, length, get_or}
use Rattle.std.specs.List.{list_any}
use Rattle.file_history.specs.Layout.{Unit_}

-- dead units, in the order of their generations
pub record DeadList : Type 0 where
  pub items : List Unit_

abbrev pub generation_of : Unit_ → ℕ
generation_of u = u.generation

-- the unit is the one at this position of this generation
abbrev pub is_unit : ℕ → ℕ → Unit_ → Bool
is_unit generation position u = (u.generation == generation) && (u.position == position)

-- one of the units is the one at this position of this generation
abbrev pub names : List Unit_ → ℕ → ℕ → Bool
names units generation position = list_any (is_unit generation position) units

-- the units before this index are of earlier generations, and those from it on are not
pub record StartsAt (units : List Unit_) (generation at : ℕ) : Type 0 where
  pub within : at ≤ length units
  pub before : (k : ℕ) (d : Unit_) → k < at → (get_or units k d).generation < generation
  pub after : (k : ℕ) (d : Unit_) → at ≤ k → k < length units → generation ≤ (get_or units k d).generation
