-- What a reading answers.
use Rattle.std.specs.Prelude.{◌≡◌, ℕ, List, Some, None, Result, Ok, Err, String}
use Rattle.toml.specs.Data.{Members}
use Rattle.toml.specs.Parse.{parse_document}
use Rattle.toml.specs.View.{table_view}
use Rattle.std.specs.BTreeMap.{BTreeMap}
use Rattle.std.specs.declared.alloc.Global.{Global}
use Rattle.toml.specs.declared.value.Value.{Value}
use Rattle.scenario_table.specs.declared.draft.Draft.{Draft}
use Rattle.scenario_table.specs.declared.reading.Stop.{Stop}
use Rattle.scenario_table.specs.declared.reading.Stop.TheVariants as stop
use Rattle.scenario_table.specs.declared.reading.TableFault.{TableFault}
use Rattle.scenario_table.specs.declared.reading.TableFault.TheVariants.{NotToml, Keys, NoMemory}
use Rattle.scenario_table.specs.Table.{IsTableOf}

-- the answer of a part is this value, unless memory ran out
abbrev pub Answers : {T : Type 0} → Result T Stop → T → Type 0
Answers (Ok x) y = x ≡ y
Answers (Err stop.Keys) y = ⊥
Answers (Err stop.NoMemory) y = Unit {0}

-- the answer is this draft, unless memory ran out
abbrev pub ReadsAs : Result Draft TableFault → Draft → Type 0
ReadsAs (Ok x) y = x ≡ y
ReadsAs (Err NotToml) y = ⊥
ReadsAs (Err Keys) y = ⊥
ReadsAs (Err NoMemory) y = Unit {0}

-- the answer is the table of these members, unless memory ran out
abbrev pub ParsesTo : Result (BTreeMap (String Global) Value) TableFault → Members → Type 0
ParsesTo (Ok t) ms = table_view t ≡ ms
ParsesTo (Err NotToml) ms = ⊥
ParsesTo (Err Keys) ms = ⊥
ParsesTo (Err NoMemory) ms = Unit {0}

-- the text is TOML for a table that is of no values
pub record HasOtherKeys (text : List ℕ) : Type 0 where
  pub members : Members
  pub parsed : parse_document text ≡ Some members
  pub other : (d : Draft) → IsTableOf members d → ⊥

-- why the text is refused: it is no TOML, or its table has other keys or kinds of values, or memory ran out
abbrev pub IsTableFault : List ℕ → TableFault → Type 0
IsTableFault text NotToml = parse_document text ≡ None
IsTableFault text Keys = HasOtherKeys text
IsTableFault text NoMemory = Unit {0}
