-- Rules in their order.
use Rattle.std.proofs.Common.{◌≡◌, ℕ, ◌+◌, ◌<◌, ◌≤◌, ◌^◌, Bool, true, false, cond, ◌&&◌, All, List, [], ◌∷◌, ◌++◌, length, map, Option, Some, None, Result, Ok, Err, refl, sym, ap, ◌∙◌, subst, inl, inr, arith}
use Rattle.std.specs.Prelude.{nat_le}
use Rattle.std.specs.Result.{IfErr, IsErrAnd}
use Rattle.std.proofs.lemmas.Bool.{and_parts}
use Rattle.std.proofs.lemmas.Bool.Decides.{nat_tests}
use Rattle.std.proofs.lemmas.List.Elements.{All-cons, All-nil}
use Rattle.domains.specs.Shape.{Shape}
use Rattle.operation_rules.specs.OpRules.{file_names}
use Rattle.operation_rules.specs.declared.place.Place.{Place}
use Rattle.operation_rules.specs.declared.place.PlacedOp.{PlacedOp}
use Rattle.operation_text.specs.declared.named_op.NamedOp.{NamedOp}
use Rattle.scenario.specs.declared.scenario.FileDecl.{FileDecl}
use Rattle.scenario_table.specs.declared.draft.Draft.{Draft}
use Rattle.scenario_table.specs.declared.draft.FileRow.{FileRow}
use Rattle.scenario_rules.specs.Actors.{at, no_place, broken_actors, first_long}
use Rattle.scenario_rules.specs.Files.{AreFiles, AreFilesOf}
use Rattle.scenario_rules.specs.Numbers.{InRange, KeepsNumbers, IsNumberFault, shape_in}
use Rattle.scenario_rules.specs.Places.{all_places, AreOps, IsFirstNoOp}
use Rattle.scenario_rules.specs.Rules.{row_names, broken_in, OpsBreak, TheOpsBreak, IsBroken, number_rules, cluster_rules, op_rules, table_rules, FirstOf, AllKept, IsFaultOf, IsBadAt, IsFileFault, IsOpFault, SpellsOneTable, IsBadText, IsTextFault}
use Rattle.scenario_rules.specs.declared.rule.Rule.{Rule}
use Rattle.scenario_rules.specs.declared.rule.Rule.TheVariants.{Utf8, Toml, Keys, Range, Drives, Space, Files, Actors, Op, Name, Drive, Job, Jobs, Reads, Unbuilt}
use Rattle.scenario_rules.specs.declared.rule.ScenarioFault.{ScenarioFault}
use Rattle.scenario_rules.specs.declared.rule.ScenarioFault.TheVariants.{Bad, NoMemory}

-- a rule that is broken after rules that are kept is the first
pub FirstOf-at : (breaks : Rule → Place → Type 0) (before : List Rule) (r : Rule) (after : List Rule) (place : Place) → AllKept breaks before → breaks r place
    → FirstOf breaks (before ++ r ∷ after) r place
FirstOf-at breaks [] r after place kept broken = inl (refl, broken)
FirstOf-at breaks (x ∷ xs) r after place kept broken = inr (kept.0, FirstOf-at breaks xs r after place kept.1 broken)

FirstOf-within : (breaks : Rule → Place → Type 0) (rules more : List Rule) (r : Rule) (place : Place) → FirstOf breaks rules r place → FirstOf breaks (rules ++ more) r place
FirstOf-within breaks [] more r place first = absurd first
FirstOf-within breaks (x ∷ xs) more r place first =
    elim first [ inl here ↦ inl here | inr later ↦ inr (later.0, FirstOf-within breaks xs more r place later.1) ]

FirstOf-past : (breaks : Rule → Place → Type 0) (before rules : List Rule) (r : Rule) (place : Place) → AllKept breaks before → FirstOf breaks rules r place
    → FirstOf breaks (before ++ rules) r place
FirstOf-past breaks [] rules r place kept first = first
FirstOf-past breaks (x ∷ xs) rules r place kept first = inr (kept.0, FirstOf-past breaks xs rules r place kept.1 first)

pub AllKept-join : (breaks : Rule → Place → Type 0) (xs ys : List Rule) → AllKept breaks xs → AllKept breaks ys → AllKept breaks (xs ++ ys)
AllKept-join breaks [] ys a b = b
AllKept-join breaks (x ∷ xs) ys a b = (a.0, AllKept-join breaks xs ys a.1 b)

-- a fault among the first rules is one among all
pub fault_within : (breaks : Rule → Place → Type 0) (rules more : List Rule) (e : ScenarioFault) → IsFaultOf breaks rules e → IsFaultOf breaks (rules ++ more) e
fault_within breaks rules more (Bad bad) fault = FirstOf-within breaks rules more bad.rule bad.place fault
fault_within breaks rules more NoMemory fault = tt

-- and so is one among the later rules, where the first are kept
pub fault_past : (breaks : Rule → Place → Type 0) (before rules : List Rule) (e : ScenarioFault) → AllKept breaks before → IsFaultOf breaks rules e
    → IsFaultOf breaks (before ++ rules) e
fault_past breaks before rules (Bad bad) kept fault = FirstOf-past breaks before rules bad.rule bad.place kept fault
fault_past breaks before rules NoMemory kept fault = tt

pub bad_at : (breaks : Rule → Place → Type 0) (before : List Rule) (r : Rule) (after : List Rule) (found : Option Place) (e : ScenarioFault) → IsBadAt r found e
    → ((p : Place) → found ≡ Some p → breaks r p) → AllKept breaks before → IsFaultOf breaks (before ++ r ∷ after) e
bad_at breaks before r after found (Bad bad) at is kept =
    subst (λ (x : Rule). FirstOf breaks (before ++ r ∷ after) x bad.place) (sym at.0) (FirstOf-at breaks before r after bad.place kept (is bad.place at.1))
bad_at breaks before r after found NoMemory at is kept = tt

-- what failed in a part failed in the whole
pub failed_too : {T : Type 0} (r : Result T ScenarioFault) (e : ScenarioFault) (P : ScenarioFault → Type 0) → IsErrAnd r (λ f. f ≡ e) → P e → IfErr r P
failed_too (Ok x) e P failed holds = absurd failed
failed_too (Err f) e P failed holds = subst P (sym failed) holds

pub if_err : {T : Type 0} (r : Result T ScenarioFault) (P Q : ScenarioFault → Type 0) → ((e : ScenarioFault) → P e → Q e) → IfErr r P → IfErr r Q
if_err (Ok x) P Q so holds = tt
if_err (Err e) P Q so holds = so e holds

pub no_place_found : (found want : Option Place) → found ≡ want → found ≡ None → (p : Place) → want ≡ Some p → ⊥
no_place_found found want same none p here = cc

-- ---- the numbers

pub numbers_kept : (d : Draft) → KeepsNumbers d → AllKept (IsBroken d) number_rules
numbers_kept d keeps = (λ p broken. broken.1 keeps.range, (λ p broken. omega (arith, keeps.drives, broken.1), (λ p broken. omega (arith, keeps.space, broken.1), tt)))

pub number_fault : (d : Draft) (r : Rule) → IsNumberFault d r → IsFaultOf (IsBroken d) number_rules (Bad (record { rule = r; place = no_place }))
number_fault d Range fault = inl (refl, (refl, fault))
number_fault d Drives fault = inr (λ p broken. broken.1 fault.0, inl (refl, (refl, fault.1)))
number_fault d Space fault =
    inr (λ p broken. broken.1 fault.0, inr (λ p broken. omega (arith, fault.1, broken.1), inl (refl, (refl, fault.2))))
number_fault d Utf8 fault = absurd fault
number_fault d Toml fault = absurd fault
number_fault d Keys fault = absurd fault
number_fault d Files fault = absurd fault
number_fault d Actors fault = absurd fault
number_fault d Op fault = absurd fault
number_fault d Name fault = absurd fault
number_fault d Drive fault = absurd fault
number_fault d Job fault = absurd fault
number_fault d Jobs fault = absurd fault
number_fault d Reads fault = absurd fault
number_fault d Unbuilt fault = absurd fault

-- ---- the files

pub file_fault : (d : Draft) (e : ScenarioFault) → AllKept (IsBroken d) number_rules → IsFileFault d e → IsFaultOf (IsBroken d) cluster_rules e
file_fault d (Bad bad) kept fault =
    subst (λ (r : Rule). FirstOf (IsBroken d) cluster_rules r bad.place) (sym fault.0) (FirstOf-at (IsBroken d) number_rules Files (Actors ∷ []) bad.place kept fault.1)
file_fault d NoMemory kept fault = tt

names_same : (rows : List FileRow) (files : List FileDecl) → AreFilesOf rows files → file_names files ≡ row_names rows
names_same [] [] are = refl
names_same [] (f ∷ fs) are = absurd are
names_same (r ∷ rs) [] are = absurd are
names_same (r ∷ rs) (f ∷ fs) are =
    ap (λ (n : List ℕ). n ∷ file_names fs) are.0.name ∙ ap (λ (ns : List (List ℕ)). r.name ∷ ns) (names_same rs fs are.1)

-- ---- the operations

abbrev placed : Place → NamedOp → PlacedOp
placed place what = record { place = place; what = what }

op_same : (x y : PlacedOp) → x.place ≡ y.place → x.what ≡ y.what → x ≡ y
op_same x y places whats = ap (λ (p : Place). placed p x.what) places ∙ ap (λ (w : NamedOp). placed y.place w) whats

ops_same : (ps : List (Place × List ℕ)) (xs ys : List PlacedOp) → AreOps ps xs → AreOps ps ys → xs ≡ ys
ops_same [] [] [] a b = refl
ops_same [] [] (y ∷ ys) a b = absurd b
ops_same [] (x ∷ xs) ys a b = absurd a
ops_same (p ∷ ps) [] ys a b = absurd a
ops_same (p ∷ ps) (x ∷ xs) [] a b = absurd b
ops_same (p ∷ ps) (x ∷ xs) (y ∷ ys) a b =
    let first : x ≡ y = op_same x y (a.0.0 ∙ sym b.0.0) (a.0.1.only y.what b.0.1.spells) in
    let rest : xs ≡ ys = ops_same ps xs ys a.1 b.1 in
    ap (λ z. z ∷ xs) first ∙ ap (λ zs. y ∷ zs) rest

-- texts that are operations have no first that is none
pub no_first : (ps : List (Place × List ℕ)) (xs : List PlacedOp) (place : Place) → AreOps ps xs → IsFirstNoOp ps place → ⊥
no_first [] xs place are first = first
no_first (p ∷ ps) [] place are first = are
no_first (p ∷ ps) (x ∷ xs) place are first =
    elim first [ inl here ↦ here.1 x.what are.0.1.spells | inr later ↦ no_first ps xs place are.1 later.1 ]

pub op_fault : (d : Draft) (e : ScenarioFault) → AllKept (IsBroken d) cluster_rules → IsOpFault (all_places d.actors 1) e → IsFaultOf (IsBroken d) table_rules e
op_fault d (Bad bad) kept fault =
    subst (λ (r : Rule). FirstOf (IsBroken d) table_rules r bad.place) (sym fault.0) (FirstOf-at (IsBroken d) cluster_rules Op op_rules bad.place kept fault.1)
op_fault d NoMemory kept fault = tt

-- the operations of these are those of the table
pub record OpsOf (d : Draft) (shape : Shape) (files : List FileDecl) (ops : List PlacedOp) : Type 0 where
  pub shape_is : shape ≡ shape_in d
  pub files_are : AreFilesOf d.files files
  pub ops_are : AreOps (all_places d.actors 1) ops

in_table : (d : Draft) (shape : Shape) (files : List FileDecl) (ops : List PlacedOp) (r : Rule) (p : Place) → OpsOf d shape files ops
    → OpsBreak shape (file_names files) ops r p → TheOpsBreak d r p
in_table d shape files ops r p of broken = record {
  ops = ops;
  are = of.ops_are;
  broken =
      ap (λ (ns : List (List ℕ)). broken_in r (shape_in d) ns ops) (sym (names_same d.files files of.files_are))
      ∙ ap (λ (s : Shape). broken_in r s (file_names files) ops) (sym of.shape_is) ∙ broken;
}

of_table : (d : Draft) (shape : Shape) (files : List FileDecl) (ops : List PlacedOp) (r : Rule) (p : Place) → OpsOf d shape files ops
    → TheOpsBreak d r p → OpsBreak shape (file_names files) ops r p
of_table d shape files ops r p of the =
    ap (λ (s : Shape). broken_in r s (file_names files) ops) of.shape_is
    ∙ ap (λ (ns : List (List ℕ)). broken_in r (shape_in d) ns ops) (names_same d.files files of.files_are)
    ∙ ap (λ (xs : List PlacedOp). broken_in r (shape_in d) (row_names d.files) xs) (ops_same (all_places d.actors 1) ops the.ops of.ops_are the.are)
    ∙ the.broken

kept_in_table : (d : Draft) (shape : Shape) (files : List FileDecl) (ops : List PlacedOp) (rules : List Rule) → OpsOf d shape files ops
    → AllKept (OpsBreak shape (file_names files) ops) rules → AllKept (TheOpsBreak d) rules
kept_in_table d shape files ops [] of kept = tt
kept_in_table d shape files ops (r ∷ rs) of kept = (λ p broken. kept.0 p (of_table d shape files ops r p of broken), kept_in_table d shape files ops rs of kept.1)

first_in_table : (d : Draft) (shape : Shape) (files : List FileDecl) (ops : List PlacedOp) (rules : List Rule) (r : Rule) (p : Place) → OpsOf d shape files ops
    → FirstOf (OpsBreak shape (file_names files) ops) rules r p → FirstOf (TheOpsBreak d) rules r p
first_in_table d shape files ops [] r p of first = absurd first
first_in_table d shape files ops (x ∷ xs) r p of first =
    elim first [
      | inl here ↦ inl (here.0, in_table d shape files ops x p of here.1)
      | inr later ↦ inr (λ q broken. later.0 q (of_table d shape files ops x q of broken), first_in_table d shape files ops xs r p of later.1)
    ]

op_kept : (d : Draft) (shape : Shape) (files : List FileDecl) (ops : List PlacedOp) → AllKept (IsBroken d) cluster_rules → OpsOf d shape files ops
    → AllKept (IsBroken d) (cluster_rules ++ Op ∷ [])
op_kept d shape files ops kept of =
    AllKept-join (IsBroken d) cluster_rules (Op ∷ []) kept (λ p first. no_first (all_places d.actors 1) ops p of.ops_are first, tt)

pub ops_fault : (d : Draft) (shape : Shape) (files : List FileDecl) (ops : List PlacedOp) (e : ScenarioFault) → AllKept (IsBroken d) cluster_rules → OpsOf d shape files ops
    → IsFaultOf (OpsBreak shape (file_names files) ops) op_rules e → IsFaultOf (IsBroken d) table_rules e
ops_fault d shape files ops (Bad bad) kept of fault =
    FirstOf-past (IsBroken d) (cluster_rules ++ Op ∷ []) op_rules bad.rule bad.place (op_kept d shape files ops kept of)
    (first_in_table d shape files ops op_rules bad.rule bad.place of fault)
ops_fault d shape files ops NoMemory kept of fault = tt

pub all_kept : (d : Draft) (shape : Shape) (files : List FileDecl) (ops : List PlacedOp) → AllKept (IsBroken d) cluster_rules → OpsOf d shape files ops
    → AllKept (OpsBreak shape (file_names files) ops) op_rules → AllKept (IsBroken d) table_rules
all_kept d shape files ops kept of rest =
    AllKept-join (IsBroken d) (cluster_rules ++ Op ∷ []) op_rules (op_kept d shape files ops kept of) (kept_in_table d shape files ops op_rules of rest)

-- ---- the actors

choose : (b : Bool) (x : Option Place) (y : Place) → cond b x (Some y) ≡ None → (b ≡ true) × (x ≡ None)
choose true x y is = (refl, is)
choose false x y is = absurd cc

none_long : (actors : List (List (List ℕ))) (a : ℕ) → first_long actors a ≡ None → All (λ (ops : List (List ℕ)). length ops ≤ 4096) actors
none_long [] a none = All-nil (λ (ops : List (List ℕ)). length ops ≤ 4096)
none_long (ops ∷ more) a none =
    let (short, rest) = longer (nat_le 4097 (length ops)) (at a 4097) (first_long more (a + 1)) none in
    All-cons (λ (o : List (List ℕ)). length o ≤ 4096) ops more (grind (arith, nat_tests)) (none_long more (a + 1) rest)
  where
    longer : (b : Bool) (x : Place) (y : Option Place) → cond b (Some x) y ≡ None → (b ≡ false) × (y ≡ None)
    longer true x y is = absurd cc
    longer false x y is = (refl, is)

pub actors_few : (actors : List (List (List ℕ))) → broken_actors actors ≡ None → length actors ≤ 16
actors_few actors none =
    let (within, rest) = choose (nat_le 1 (length actors) && nat_le (length actors) 16) (first_long actors 1) no_place none in
    let (some, few) = and_parts (nat_le 1 (length actors)) (nat_le (length actors) 16) within in
    grind (arith, nat_tests)

pub actors_short : (actors : List (List (List ℕ))) → broken_actors actors ≡ None → All (λ (ops : List (List ℕ)). length ops ≤ 4096) actors
actors_short actors none =
    none_long actors 1 (choose (nat_le 1 (length actors) && nat_le (length actors) 16) (first_long actors 1) no_place none).1

pub OpsOf-given : (d : Draft) (shape : Shape) (files given : List FileDecl) (ops read : List PlacedOp) (actors : List (List (List ℕ))) → shape ≡ shape_in d
    → given ≡ files → AreFilesOf d.files files → read ≡ ops → actors ≡ d.actors → AreOps (all_places actors 1) ops → OpsOf d shape given read
OpsOf-given d shape files given ops read actors shape_is same_files files_are same_ops same_actors are = record {
  shape_is = shape_is;
  files_are = subst (λ fs. AreFilesOf d.files fs) (sym same_files) files_are;
  ops_are =
      subst (λ xs. AreOps (all_places d.actors 1) xs) (sym same_ops) (subst (λ (as_ : List (List (List ℕ))). AreOps (all_places as_ 1) ops) same_actors are);
}

-- ---- the text

abbrev Apart : Rule → List Rule → Type 0
Apart r [] = Unit {0}
Apart r (x ∷ xs) = (r ≡ x → ⊥) × Apart r xs

-- a rule that is none of these is not the first of them
never : (breaks : Rule → Place → Type 0) (rules : List Rule) (r : Rule) (p : Place) → Apart r rules → FirstOf breaks rules r p → ⊥
never breaks [] r p apart first = first
never breaks (x ∷ xs) r p apart first = elim first [ inl here ↦ apart.0 here.0 | inr later ↦ never breaks xs r p apart.1 later.1 ]

apart-Utf8 : Apart Utf8 table_rules
apart-Utf8 = (λ is. cc, (λ is. cc, (λ is. cc, (λ is. cc, (λ is. cc, (λ is. cc, (λ is. cc, (λ is. cc, (λ is. cc, (λ is. cc, (λ is. cc, (λ is. cc, tt))))))))))))

apart-Toml : Apart Toml table_rules
apart-Toml = (λ is. cc, (λ is. cc, (λ is. cc, (λ is. cc, (λ is. cc, (λ is. cc, (λ is. cc, (λ is. cc, (λ is. cc, (λ is. cc, (λ is. cc, (λ is. cc, tt))))))))))))

apart-Keys : Apart Keys table_rules
apart-Keys = (λ is. cc, (λ is. cc, (λ is. cc, (λ is. cc, (λ is. cc, (λ is. cc, (λ is. cc, (λ is. cc, (λ is. cc, (λ is. cc, (λ is. cc, (λ is. cc, tt))))))))))))

bad_text : (text : List ℕ) (d : Draft) (r : Rule) (p : Place) → SpellsOneTable text d → FirstOf (IsBroken d) table_rules r p → IsBadText text r p
bad_text text d Utf8 p table first = absurd (never (IsBroken d) table_rules Utf8 p apart-Utf8 first)
bad_text text d Toml p table first = absurd (never (IsBroken d) table_rules Toml p apart-Toml first)
bad_text text d Keys p table first = absurd (never (IsBroken d) table_rules Keys p apart-Keys first)
bad_text text d Range p table first = record { draft = d; table = table; first = first }
bad_text text d Drives p table first = record { draft = d; table = table; first = first }
bad_text text d Space p table first = record { draft = d; table = table; first = first }
bad_text text d Files p table first = record { draft = d; table = table; first = first }
bad_text text d Actors p table first = record { draft = d; table = table; first = first }
bad_text text d Op p table first = record { draft = d; table = table; first = first }
bad_text text d Name p table first = record { draft = d; table = table; first = first }
bad_text text d Drive p table first = record { draft = d; table = table; first = first }
bad_text text d Job p table first = record { draft = d; table = table; first = first }
bad_text text d Jobs p table first = record { draft = d; table = table; first = first }
bad_text text d Reads p table first = record { draft = d; table = table; first = first }
bad_text text d Unbuilt p table first = record { draft = d; table = table; first = first }

-- the first rule that the table breaks is the first that the text breaks
pub text_fault : (text : List ℕ) (d : Draft) (e : ScenarioFault) → SpellsOneTable text d → IsFaultOf (IsBroken d) table_rules e → IsTextFault text e
text_fault text d (Bad bad) table fault = bad_text text d bad.rule bad.place table fault
text_fault text d NoMemory table fault = tt
