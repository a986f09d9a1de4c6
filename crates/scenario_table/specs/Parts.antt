-- The parts of a table.
use Rattle.std.specs.Prelude.{codes, ◌≡◌, ◌≢◌, ℤ, false, ◌⊎◌, List, ℕ}
use Rattle.toml.specs.Data.{Data, integer, array, table, Items, Members, no_members, member}
use Rattle.scenario_table.specs.Table.{Given, number_member, default_unit, default_workers}

-- the members begin with this number at the key, or it is the default and they begin with another key
abbrev pub IsNumberOr : List ℕ → ℤ → ℤ → Members → Members → Type 0
IsNumberOr key default n members rest =
    (members ≡ member key (integer n) rest)
    ⊎ ((n ≡ default) × (members ≡ rest) × ((d : Data) (more : Members) → members ≢ member key d more))

-- the members are those of the keys that may be left out, for this unit and these workers
pub record IsTail (members : Members) (unit workers : ℤ) : Type 0 where
  pub given : Given
  pub no_unit : given.unit ≡ false → unit ≡ default_unit
  pub no_workers : given.workers ≡ false → workers ≡ default_workers
  pub is : members ≡ number_member given.unit (codes "unit") unit (number_member given.workers (codes "workers") workers no_members)

-- the members have these numbers and values at the keys of a scenario
pub record IsOutline (members : Members) (unit nodes drives slots workers : ℤ) (files actors : Data) : Type 0 where
  pub tail : Members
  pub is_tail : IsTail tail unit workers
  pub is :
      members ≡ member (codes "actor") actors (member (codes "drives") (integer drives) (member (codes "file") files
      (member (codes "nodes") (integer nodes) (member (codes "slots") (integer slots) tail))))

-- the table of an actor with these items
abbrev pub ops_table : Items → Data
ops_table items = table (member (codes "ops") (array items) no_members)
