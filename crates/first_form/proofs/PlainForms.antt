-- Plain scenarios that are one in the whole language.
use Rattle.std.proofs.Common.{◌≡◌, ◌≤◌, ◌*◌, ◌^◌, ℕ, List, [], ◌∷◌, map, refl, sym, ap, subst, ◌∙◌}
use Rattle.domains.specs.Level.{two_copies}
use Rattle.domains.specs.Shape.{Shape, IsShape}
use Rattle.scenario.specs.Words.{IsName}
use Rattle.scenario.specs.declared.op.Op.{Op}
use Rattle.scenario.specs.declared.op.Op.TheVariants as op
use Rattle.scenario.specs.declared.scenario.FileDecl.{FileDecl}
use Rattle.scenario.specs.declared.scenario.Scenario.{Scenario}
use Rattle.whole_scenario.specs.declared.op.Op as whole_op
use Rattle.whole_scenario.specs.declared.whole.Scenario as whole_scenario
use Rattle.first_form.specs.FirstForm.{IsFirstForm, IsFirstScript}
use Rattle.first_form.specs.Wholes.{op_whole, script_whole, scripts_whole, whole_of, IsPlainOf}

one_op : (o p : Op) → op_whole o ≡ op_whole p → o ≡ p
one_op (op.Create file) (op.Create other) same = cc
one_op (op.Create file) (op.WriteText other offset text) same = absurd cc
one_op (op.Create file) (op.Read other offset len) same = absurd cc
one_op (op.Create file) (op.Fail d) same = absurd cc
one_op (op.WriteText file offset text) (op.Create other) same = absurd cc
one_op (op.WriteText file offset text) (op.WriteText other at words) same = cc
one_op (op.WriteText file offset text) (op.Read other at len) same = absurd cc
one_op (op.WriteText file offset text) (op.Fail d) same = absurd cc
one_op (op.Read file offset len) (op.Create other) same = absurd cc
one_op (op.Read file offset len) (op.WriteText other at words) same = absurd cc
one_op (op.Read file offset len) (op.Read other at more) same = cc
one_op (op.Read file offset len) (op.Fail d) same = absurd cc
one_op (op.Fail d) (op.Create other) same = absurd cc
one_op (op.Fail d) (op.WriteText other at words) same = absurd cc
one_op (op.Fail d) (op.Read other at len) same = absurd cc
one_op (op.Fail d) (op.Fail e) same = cc

-- a function that gives no value twice gives no list twice
one_list : {A B : Type 0} (f : A → B) → ((a b : A) → f a ≡ f b → a ≡ b) → (xs ys : List A) → map f xs ≡ map f ys → xs ≡ ys
one_list f one [] [] same = refl
one_list f one [] (y ∷ ys) same = absurd cc
one_list f one (x ∷ xs) [] same = absurd cc
one_list f one (x ∷ xs) (y ∷ ys) same =
    let first : x ≡ y = one x y cc in
    let rest : xs ≡ ys = one_list f one xs ys cc in
    cc

pub one_scenario : (s t : Scenario) → whole_of s ≡ whole_of t → s ≡ t
one_scenario s t same =
    let shape : s.shape ≡ t.shape = ap (λ (w : whole_scenario.Scenario). w.shape) same in
    let workers : s.workers ≡ t.workers = ap (λ (w : whole_scenario.Scenario). w.workers) same in
    let files : s.files ≡ t.files = ap (λ (w : whole_scenario.Scenario). w.files) same in
    let scripts : scripts_whole s.actors ≡ scripts_whole t.actors = ap (λ (w : whole_scenario.Scenario). w.actors) same in
    let actors : s.actors ≡ t.actors = one_list script_whole (one_list op_whole one_op) s.actors t.actors scripts in
    ap (λ (x : Shape). let made : Scenario = record { shape = x; workers = s.workers; files = s.files; actors = s.actors } in made) shape
    ∙ ap (λ (x : ℕ). let made : Scenario = record { shape = t.shape; workers = x; files = s.files; actors = s.actors } in made) workers
    ∙ ap (λ (x : List FileDecl). let made : Scenario = record { shape = t.shape; workers = t.workers; files = x; actors = s.actors } in made) files
    ∙ ap (λ (x : List (List Op)). let made : Scenario = record { shape = t.shape; workers = t.workers; files = t.files; actors = x } in made) actors

-- the one plain scenario that a scenario may be is of the first form where any is
pub form_of : (w : whole_scenario.Scenario) (plain s : Scenario) → IsPlainOf w s → w ≡ whole_of plain → IsFirstForm plain
form_of w plain s is same =
    let equal : s ≡ plain = one_scenario s plain (sym is.is ∙ same) in
    subst (λ (x : Scenario). IsFirstForm x) equal is.form

-- the parts of the first form
pub form_made : (s : Scenario) → IsShape s.shape → 3 ≤ s.shape.slots → s.shape.nodes * s.shape.drives * s.shape.slots * s.shape.unit ≤ 2 ^ 30 → s.workers ≡ 1
    → (name : List ℕ) × IsName name × (s.files ≡ record { name = name; level = two_copies } ∷ [])
    → (script : List Op) × (s.actors ≡ script ∷ []) × IsFirstScript s.shape script → IsFirstForm s
form_made s cluster slots space workers (name, is_name, files) (script, actors, is_script) = record {
  shape = cluster;
  slots = slots;
  space = space;
  workers = workers;
  name = name;
  is_name = is_name;
  files = files;
  script = script;
  actors = actors;
  is_script = is_script;
}

-- a scenario without jobs whose scripts are plain is that of its parts
pub whole_is : (w : whole_scenario.Scenario) (scripts : List (List Op)) → w.jobs ≡ [] → w.actors ≡ scripts_whole scripts
    → w ≡ whole_of (record { shape = w.shape; workers = w.workers; files = w.files; actors = scripts })
whole_is w scripts none plain =
    ap (λ (x : List (List ℕ)). let made : whole_scenario.Scenario = record { shape = w.shape; workers = w.workers; files = w.files; jobs = x; actors = w.actors } in made) none
    ∙ ap (λ (x : List (List whole_op.Op)). let made : whole_scenario.Scenario = record { shape = w.shape; workers = w.workers; files = w.files; jobs = []; actors = x } in made) plain
