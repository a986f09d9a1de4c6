-- A text spells one scenario, or breaks a rule.
use Rattle.std.proofs.Common.{◌≡◌, ℕ, List, [], ◌∷◌, Result, Ok, Err, refl, sym, ◌∙◌, ap, subst}
use Rattle.std.specs.Result.{IsErrAnd}
use Rattle.domains.specs.Level.{Level}
use Rattle.domains.specs.Shape.{Shape}
use Rattle.operation_rules.specs.declared.place.Place.{Place}
use Rattle.operation_rules.specs.declared.place.PlacedOp.{PlacedOp}
use Rattle.operation_text.specs.declared.named_op.NamedOp.{NamedOp}
use Rattle.scenario.specs.declared.scenario.FileDecl.{FileDecl}
use Rattle.scenario_reader.proofs.KeptRules.{none_broken}
use Rattle.scenario_reader.proofs.LevelNames.{level_same}
use Rattle.scenario_reader.specs.Answers.{Answers, SpellsScenario}
use Rattle.scenario_reader.specs.Resolved.{scenario_of}
use Rattle.scenario_rules.specs.Files.{AreFilesOf, IsFileOf}
use Rattle.scenario_rules.specs.Places.{all_places, AreOps}
use Rattle.scenario_rules.specs.Rules.{AllKept, IsBadTable, IsBadText, IsBroken, IsNamedOf, IsTextFault, SpellsNamed, table_rules}
use Rattle.scenario_rules.specs.declared.reading.NamedScenario.{NamedScenario}
use Rattle.scenario_rules.specs.declared.rule.Rule.{Rule}
use Rattle.scenario_rules.specs.declared.rule.Rule.TheVariants.{Utf8, Toml, Keys, Range, Drives, Space, Files, Actors, Op, Name, Drive, Job, Jobs, Reads, Unbuilt}
use Rattle.scenario_rules.specs.declared.rule.ScenarioFault.{ScenarioFault}
use Rattle.scenario_rules.specs.declared.rule.ScenarioFault.TheVariants.{Bad, NoMemory}
use Rattle.scenario_table.specs.Table.{IsTableOf}
use Rattle.scenario_table.specs.declared.draft.Draft.{Draft}
use Rattle.scenario_table.specs.declared.draft.FileRow.{FileRow}
use Rattle.toml.specs.Data.{Members}
use Rattle.whole_scenario.specs.declared.whole.Scenario.{Scenario}

abbrev file : List ℕ → Level → FileDecl
file name level = record { name = name; level = level }

file_same : (r : FileRow) (f g : FileDecl) → IsFileOf r f → IsFileOf r g → f ≡ g
file_same r f g a b =
    ap (λ (n : List ℕ). file n f.level) (a.name ∙ sym b.name)
    ∙ ap (λ (l : Level). file g.name l) (level_same f.level g.level a.level b.level (a.named ∙ sym b.named))

files_same : (rows : List FileRow) (fs gs : List FileDecl) → AreFilesOf rows fs → AreFilesOf rows gs → fs ≡ gs
files_same [] [] [] a b = refl
files_same [] [] (g ∷ gs) a b = absurd b
files_same [] (f ∷ fs) gs a b = absurd a
files_same (r ∷ rs) [] gs a b = absurd a
files_same (r ∷ rs) (f ∷ fs) [] a b = absurd b
files_same (r ∷ rs) (f ∷ fs) (g ∷ gs) a b =
    ap (λ (h : FileDecl). h ∷ fs) (file_same r f g a.0 b.0) ∙ ap (λ (hs : List FileDecl). g ∷ hs) (files_same rs fs gs a.1 b.1)

abbrev placed : Place → NamedOp → PlacedOp
placed place what = record { place = place; what = what }

op_same : (x y : PlacedOp) → x.place ≡ y.place → x.what ≡ y.what → x ≡ y
op_same x y places whats = ap (λ (p : Place). placed p x.what) places ∙ ap (λ (w : NamedOp). placed y.place w) whats

ops_same : (ps : List (Place × List ℕ)) (xs ys : List PlacedOp) → AreOps ps xs → AreOps ps ys → xs ≡ ys
ops_same [] [] [] a b = refl
ops_same [] [] (y ∷ ys) a b = absurd b
ops_same [] (x ∷ xs) ys a b = absurd a
ops_same (p ∷ ps) [] ys a b = absurd a
ops_same (p ∷ ps) (x ∷ xs) [] a b = absurd b
ops_same (p ∷ ps) (x ∷ xs) (y ∷ ys) a b =
    ap (λ (z : PlacedOp). z ∷ xs) (op_same x y (a.0.0 ∙ sym b.0.0) (a.0.1.only y.what b.0.1.spells))
    ∙ ap (λ (zs : List PlacedOp). y ∷ zs) (ops_same ps xs ys a.1 b.1)

abbrev named : Shape → ℕ → List FileDecl → ℕ → List PlacedOp → NamedScenario
named shape workers files actors ops = record { shape = shape; workers = workers; files = files; actors = actors; ops = ops }

-- one table has one scenario
named_of_one : (d : Draft) (a b : NamedScenario) → IsNamedOf d a → IsNamedOf d b → a ≡ b
named_of_one d a b x y =
    ap (λ (s : Shape). named s a.workers a.files a.actors a.ops) (x.shape ∙ sym y.shape)
    ∙ (ap (λ (w : ℕ). named b.shape w a.files a.actors a.ops) (x.workers ∙ sym y.workers)
    ∙ (ap (λ (fs : List FileDecl). named b.shape b.workers fs a.actors a.ops) (files_same d.files a.files b.files x.files y.files)
    ∙ (ap (λ (n : ℕ). named b.shape b.workers b.files n a.ops) (x.actors ∙ sym y.actors)
    ∙ ap (λ (os : List PlacedOp). named b.shape b.workers b.files b.actors os) (ops_same (all_places d.actors 1) a.ops b.ops x.ops y.ops))))

named_same : (text : List ℕ) (a b : NamedScenario) → SpellsNamed text a → SpellsNamed text b → a ≡ b
named_same text a b x y =
    named_of_one y.draft a b (subst (λ (d : Draft). IsNamedOf d a) (x.table.only y.draft y.table.spells) x.named) y.named

pub scenario_same : (text : List ℕ) (n : NamedScenario) (s t : Scenario) → SpellsNamed text n → s ≡ scenario_of n → SpellsScenario text t → s ≡ t
scenario_same text n s t spells is other = is ∙ (ap scenario_of (named_same text n other.named spells other.spells) ∙ sym other.is)

-- ---- a text that spells a scenario breaks no rule

table_kept : (text : List ℕ) (n : NamedScenario) (r : Rule) (p : Place) → SpellsNamed text n → IsBadTable text r p → ⊥
table_kept text n r p spells bad =
    none_broken (IsBroken bad.draft) table_rules r p
    (subst (λ (d : Draft). AllKept (IsBroken d) table_rules) (spells.table.only bad.draft bad.table.spells) spells.named.kept) bad.first

never_bad : (text : List ℕ) (n : NamedScenario) (r : Rule) (p : Place) → SpellsNamed text n → IsBadText text r p → ⊥
never_bad text n Utf8 p spells bad = bad
never_bad text n Toml p spells bad = absurd cc
never_bad text n Keys p spells bad =
    let same : spells.table.spells.members ≡ bad.1.members = cc in
    bad.1.other spells.draft (subst (λ (ms : Members). IsTableOf ms spells.draft) same spells.table.spells.is)
never_bad text n Range p spells bad = table_kept text n Range p spells bad
never_bad text n Drives p spells bad = table_kept text n Drives p spells bad
never_bad text n Space p spells bad = table_kept text n Space p spells bad
never_bad text n Files p spells bad = table_kept text n Files p spells bad
never_bad text n Actors p spells bad = table_kept text n Actors p spells bad
never_bad text n Op p spells bad = table_kept text n Op p spells bad
never_bad text n Name p spells bad = table_kept text n Name p spells bad
never_bad text n Drive p spells bad = table_kept text n Drive p spells bad
never_bad text n Job p spells bad = table_kept text n Job p spells bad
never_bad text n Jobs p spells bad = table_kept text n Jobs p spells bad
never_bad text n Reads p spells bad = table_kept text n Reads p spells bad
never_bad text n Unbuilt p spells bad = table_kept text n Unbuilt p spells bad

refused_no_other : (text : List ℕ) (e : ScenarioFault) (s : Scenario) → IsTextFault text e → SpellsScenario text s → Answers (Err e) s
refused_no_other text (Bad bad) s fault spells = never_bad text spells.named bad.rule bad.place spells.spells fault
refused_no_other text NoMemory s fault spells = tt

-- where the text was refused, the answer is a refusal
pub stopped : (text : List ℕ) (e : ScenarioFault) (r : Result Scenario ScenarioFault) (s : Scenario) → IsErrAnd r (λ f. f ≡ e) → IsTextFault text e → SpellsScenario text s → Answers r s
stopped text e (Ok x) s failed fault spells = absurd failed
stopped text e (Err f) s failed fault spells = refused_no_other text f s (subst (λ (g : ScenarioFault). IsTextFault text g) (sym failed) fault) spells
