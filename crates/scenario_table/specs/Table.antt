-- The table of a scenario, and which text is TOML for it.
use Rattle.std.specs.Prelude.{codes, ◌≡◌, ℕ, ℤ, pos, Bool, false, if◌then◌else◌, List, [], ◌∷◌, Some}
use Rattle.toml.specs.Data.{Data, string, integer, array, table, Items, no_items, item, Members, no_members, member}
use Rattle.toml.specs.Parse.{parse_document}
use Rattle.scenario_table.specs.declared.draft.Draft.{Draft}
use Rattle.scenario_table.specs.declared.draft.FileRow.{FileRow}

-- the bytes of a stripe unit, where the table does not say
abbrev pub default_unit : ℤ
default_unit = pos 131072

-- how many workers there are, where the table does not say
abbrev pub default_workers : ℤ
default_workers = pos 1

-- these values as items
abbrev pub items_by : {T : Type 0} → (T → Data) → List T → Items
items_by value [] = no_items
items_by value (x ∷ xs) = item (value x) (items_by value xs)

-- the table of a file
abbrev pub file_data : FileRow → Data
file_data f = table (member (codes "level") (string f.level) (member (codes "name") (string f.name) no_members))

abbrev pub op_data : List ℕ → Data
op_data op = string op

-- the table of an actor
abbrev pub actor_data : List (List ℕ) → Data
actor_data ops = table (member (codes "ops") (array (items_by op_data ops)) no_members)

-- which of the keys that may be left out a table has
pub record Given : Type 0 where
  pub unit : Bool
  pub workers : Bool

abbrev pub all_given : Given
all_given = record { unit = Bool.true; workers = Bool.true }

abbrev pub number_member : Bool → List ℕ → ℤ → Members → Members
number_member given key n rest = if given then member key (integer n) rest else rest

-- the table of these values, with or without the keys that may be left out
abbrev pub table_of : Given → Draft → Members
table_of given d =
    member (codes "actor") (array (items_by actor_data d.actors))
    (member (codes "drives") (integer d.drives)
    (member (codes "file") (array (items_by file_data d.files))
    (member (codes "nodes") (integer d.nodes)
    (member (codes "slots") (integer d.slots)
    (number_member given.unit (codes "unit") d.unit
    (number_member given.workers (codes "workers") d.workers no_members))))))

-- a key is left out only where its number is the one that then counts
pub record MayOmit (given : Given) (d : Draft) : Type 0 where
  pub unit : given.unit ≡ false → d.unit ≡ default_unit
  pub workers : given.workers ≡ false → d.workers ≡ default_workers

-- the members are the table of these values
pub record IsTableOf (members : Members) (d : Draft) : Type 0 where
  pub given : Given
  pub omitted : MayOmit given d
  pub is : members ≡ table_of given d

-- the text is TOML for a table of these values
pub record SpellsTable (text : List ℕ) (d : Draft) : Type 0 where
  pub members : Members
  pub parsed : parse_document text ≡ Some members
  pub is : IsTableOf members d
