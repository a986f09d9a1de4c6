-- The rules of scenarios in their order.
use Rattle.std.specs.Prelude.{◌≡◌, ℕ, ◌<◌, ◌^◌, List, [], ◌∷◌, ◌++◌, map, length, Option, Some, None, ◌⊎◌}
use Rattle.domains.specs.Shape.{Shape}
use Rattle.operation_rules.specs.FirstPlaces.{first_where, first_misnamed, first_start_past, first_past}
use Rattle.operation_rules.specs.OpRules.{is_undeclared, is_outside, is_unbuilt, started_in}
use Rattle.operation_rules.specs.declared.place.Place.{Place}
use Rattle.operation_rules.specs.declared.place.PlacedOp.{PlacedOp}
use Rattle.scenario_table.specs.Answers.{IsTableFault}
use Rattle.scenario_table.specs.Table.{SpellsTable}
use Rattle.scenario_table.specs.declared.draft.Draft.{Draft}
use Rattle.scenario_table.specs.declared.draft.FileRow.{FileRow}
use Rattle.scenario_table.specs.declared.reading.TableFault.{TableFault}
use Rattle.scenario_table.specs.declared.reading.TableFault.TheVariants as table
use Rattle.scenario_rules.specs.Actors.{no_place, broken_actors}
use Rattle.scenario_rules.specs.Files.{AreFiles, AreFilesOf}
use Rattle.scenario_rules.specs.Numbers.{InRange, drives_in, bytes_in, shape_in, workers_in}
use Rattle.scenario_rules.specs.Places.{all_places, AreOps, IsFirstNoOp}
use Rattle.scenario_rules.specs.declared.reading.NamedScenario.{NamedScenario}
use Rattle.scenario_rules.specs.declared.rule.BadScenario.{BadScenario}
use Rattle.scenario_rules.specs.declared.rule.Rule.{Rule}
use Rattle.scenario_rules.specs.declared.rule.Rule.TheVariants.{Utf8, Toml, Keys, Range, Drives, Space, Files, Actors, Op, Name, Drive, Job, Jobs, Reads, Unbuilt}
use Rattle.scenario_rules.specs.declared.rule.ScenarioFault.{ScenarioFault}
use Rattle.scenario_rules.specs.declared.rule.ScenarioFault.TheVariants.{Bad, NoMemory}

-- the names of the rows
abbrev pub row_names : List FileRow → List (List ℕ)
row_names rows = map (λ (r : FileRow). r.name) rows

-- where the operations of these break a rule, with the files of these names, in a cluster of this shape
abbrev pub broken_in : Rule → Shape → List (List ℕ) → List PlacedOp → Option Place
broken_in Name shape names ops = first_where (is_undeclared names) ops
broken_in Drive shape names ops = first_where (is_outside shape) ops
broken_in Job shape names ops = first_misnamed ops (started_in ops) []
broken_in Jobs shape names ops = first_start_past ops 0
broken_in Reads shape names ops = first_past ops 0 0
broken_in Unbuilt shape names ops = first_where is_unbuilt ops
broken_in Utf8 shape names ops = None
broken_in Toml shape names ops = None
broken_in Keys shape names ops = None
broken_in Range shape names ops = None
broken_in Drives shape names ops = None
broken_in Space shape names ops = None
broken_in Files shape names ops = None
broken_in Actors shape names ops = None
broken_in Op shape names ops = None

-- the operations break the rule first at this place
abbrev pub OpsBreak : Shape → List (List ℕ) → List PlacedOp → Rule → Place → Type 0
OpsBreak shape names ops rule at = broken_in rule shape names ops ≡ Some at

-- the operations that the texts of the table spell break the rule first at this place
pub record TheOpsBreak (d : Draft) (rule : Rule) (place : Place) : Type 0 where
  pub ops : List PlacedOp
  pub are : AreOps (all_places d.actors 1) ops
  pub broken : OpsBreak (shape_in d) (row_names d.files) ops rule place

-- the table breaks the rule, and this is the first place that does
abbrev pub IsBroken : Draft → Rule → Place → Type 0
IsBroken d Range place = (place ≡ no_place) × (InRange d → ⊥)
IsBroken d Drives place = (place ≡ no_place) × (200 < drives_in d)
IsBroken d Space place = (place ≡ no_place) × (2 ^ 30 < bytes_in d)
IsBroken d Files place = (place ≡ no_place) × (AreFiles d.files → ⊥)
IsBroken d Actors place = broken_actors d.actors ≡ Some place
IsBroken d Op place = IsFirstNoOp (all_places d.actors 1) place
IsBroken d Name place = TheOpsBreak d Name place
IsBroken d Drive place = TheOpsBreak d Drive place
IsBroken d Job place = TheOpsBreak d Job place
IsBroken d Jobs place = TheOpsBreak d Jobs place
IsBroken d Reads place = TheOpsBreak d Reads place
IsBroken d Unbuilt place = TheOpsBreak d Unbuilt place
IsBroken d Utf8 place = ⊥
IsBroken d Toml place = ⊥
IsBroken d Keys place = ⊥

-- the rules of a table, in their order
abbrev pub number_rules : List Rule
number_rules = Range ∷ Drives ∷ Space ∷ []

abbrev pub cluster_rules : List Rule
cluster_rules = number_rules ++ Files ∷ Actors ∷ []

abbrev pub op_rules : List Rule
op_rules = Name ∷ Drive ∷ Job ∷ Jobs ∷ Reads ∷ Unbuilt ∷ []

abbrev pub table_rules : List Rule
table_rules = cluster_rules ++ Op ∷ op_rules

-- the first of these rules that is broken is this one, at this place
abbrev pub FirstOf : (Rule → Place → Type 0) → List Rule → Rule → Place → Type 0
FirstOf breaks [] rule place = ⊥
FirstOf breaks (r ∷ rs) rule place =
    ((rule ≡ r) × breaks r place) ⊎ (((p : Place) → breaks r p → ⊥) × FirstOf breaks rs rule place)

-- none of these rules is broken
abbrev pub AllKept : (Rule → Place → Type 0) → List Rule → Type 0
AllKept breaks [] = Unit {0}
AllKept breaks (r ∷ rs) = ((p : Place) → breaks r p → ⊥) × AllKept breaks rs

-- the fault is the first of these rules that is broken, or want of memory
abbrev pub IsFaultOf : (Rule → Place → Type 0) → List Rule → ScenarioFault → Type 0
IsFaultOf breaks rules (Bad bad) = FirstOf breaks rules bad.rule bad.place
IsFaultOf breaks rules NoMemory = Unit {0}

-- the fault is that this rule is broken, at this place, or want of memory
abbrev pub IsBadAt : Rule → Option Place → ScenarioFault → Type 0
IsBadAt rule place (Bad bad) = (bad.rule ≡ rule) × (place ≡ Some bad.place)
IsBadAt rule place NoMemory = Unit {0}

-- the fault is that the files break their rule, or want of memory
abbrev pub IsFileFault : Draft → ScenarioFault → Type 0
IsFileFault d (Bad bad) = (bad.rule ≡ Files) × IsBroken d Files bad.place
IsFileFault d NoMemory = Unit {0}

-- the fault is that a text spells no operation, or want of memory
abbrev pub IsOpFault : List (Place × List ℕ) → ScenarioFault → Type 0
IsOpFault places (Bad bad) = (bad.rule ≡ Op) × IsFirstNoOp places bad.place
IsOpFault places NoMemory = Unit {0}

-- the text is TOML for a table of these values, and of no others
pub record SpellsOneTable (text : List ℕ) (d : Draft) : Type 0 where
  pub spells : SpellsTable text d
  pub only : (e : Draft) → SpellsTable text e → d ≡ e

-- the table of the text breaks this rule first, at this place
pub record IsBadTable (text : List ℕ) (rule : Rule) (place : Place) : Type 0 where
  pub draft : Draft
  pub table : SpellsOneTable text draft
  pub first : FirstOf (IsBroken draft) table_rules rule place

-- the first rule that the text breaks, and the first place that breaks it
abbrev pub IsBadText : List ℕ → Rule → Place → Type 0
IsBadText text Utf8 place = ⊥
IsBadText text Toml place = (place ≡ no_place) × IsTableFault text table.NotToml
IsBadText text Keys place = (place ≡ no_place) × IsTableFault text table.Keys
IsBadText text Range place = IsBadTable text Range place
IsBadText text Drives place = IsBadTable text Drives place
IsBadText text Space place = IsBadTable text Space place
IsBadText text Files place = IsBadTable text Files place
IsBadText text Actors place = IsBadTable text Actors place
IsBadText text Op place = IsBadTable text Op place
IsBadText text Name place = IsBadTable text Name place
IsBadText text Drive place = IsBadTable text Drive place
IsBadText text Job place = IsBadTable text Job place
IsBadText text Jobs place = IsBadTable text Jobs place
IsBadText text Reads place = IsBadTable text Reads place
IsBadText text Unbuilt place = IsBadTable text Unbuilt place

-- the fault of a text: the first rule that it breaks, or want of memory
abbrev pub IsTextFault : List ℕ → ScenarioFault → Type 0
IsTextFault text (Bad bad) = IsBadText text bad.rule bad.place
IsTextFault text NoMemory = Unit {0}

-- the scenario is that of the table, which keeps all rules
pub record IsNamedOf (d : Draft) (s : NamedScenario) : Type 0 where
  pub kept : AllKept (IsBroken d) table_rules
  pub shape : s.shape ≡ shape_in d
  pub workers : s.workers ≡ workers_in d
  pub files : AreFilesOf d.files s.files
  pub actors : s.actors ≡ length d.actors
  pub ops : AreOps (all_places d.actors 1) s.ops

-- the text spells the scenario, and keeps all rules
pub record SpellsNamed (text : List ℕ) (s : NamedScenario) : Type 0 where
  pub draft : Draft
  pub table : SpellsOneTable text draft
  pub named : IsNamedOf draft s

-- the fault of a text that is no table of a scenario
abbrev pub fault_at : TableFault → ScenarioFault
fault_at table.NotToml = Bad (record { rule = Toml; place = no_place })
fault_at table.Keys = Bad (record { rule = Keys; place = no_place })
fault_at table.NoMemory = NoMemory
