-- The canonical text of a scenario is that of its table.
use Rattle.std.proofs.Common.{◌≡◌, ℕ, ◌+◌, ◌<◌, ◌^◌, List, [], ◌∷◌, ◌++◌, length, None, refl, sym, ◌∙◌, ap, arith}
use Rattle.std.proofs.lemmas.Bool.{eq-eqb, ne_eqb}
use Rattle.domains.specs.Level.{level_name}
use Rattle.domains.specs.Shape.{Shape}
use Rattle.operation_rules.specs.FirstPlaces.{first_where}
use Rattle.operation_rules.specs.OpRules.{file_names, is_outside, is_unbuilt, is_undeclared}
use Rattle.operation_rules.specs.declared.place.Place.{Place}
use Rattle.operation_rules.specs.declared.place.PlacedOp.{PlacedOp}
use Rattle.operation_text.specs.NamedOps.{named_text}
use Rattle.scenario.specs.declared.scenario.FileDecl.{FileDecl}
use Rattle.scenario_rules.specs.Files.{AreFilesOf}
use Rattle.scenario_rules.specs.Places.{all_places, script_places, AreOps}
use Rattle.scenario_table.specs.Canonical as table
use Rattle.scenario_table.specs.declared.draft.FileRow.{FileRow}
use Rattle.whole_scenario.specs.Canonical.{actor_lines, actor_opening, all_actor_lines, all_file_lines, canonical_text, file_lines, number_line, op_line, op_lines, op_text, text_line}
use Rattle.whole_scenario.specs.declared.op.Op.{Op}
use Rattle.whole_scenario.specs.declared.whole.Scenario.{Scenario}
use Rattle.scenario_reader.specs.Resolved.{op_of, script_in, scripts_in}
use Rattle.scenario_reader.proofs.KeptRules.{Within, passed_over, within-all}
use Rattle.scenario_reader.proofs.NamedAgain.{op_again}
use Rattle.scenario_reader.proofs.ScriptLists.{later, skipped, taken}

-- ---- the files

file_same : (r : FileRow) (f : FileDecl) → f.name ≡ r.name → level_name f.level ≡ r.level → file_lines f ≡ table.file_lines r
unfolding file_lines text_line table.file_lines table.text_line
file_same r f names levels = rw (names, levels) refl

files_same : (rows : List FileRow) (files : List FileDecl) → AreFilesOf rows files → all_file_lines files ≡ table.all_file_lines rows
files_same [] [] are = refl
files_same [] (f ∷ fs) are = absurd are
files_same (r ∷ rs) [] are = absurd are
files_same (r ∷ rs) (f ∷ fs) are =
    ap (λ (l : List ℕ). l ++ all_file_lines fs) (file_same r f are.0.name are.0.named)
    ∙ ap (λ (l : List ℕ). table.file_lines r ++ l) (files_same rs fs are.1)

-- ---- the operations

module _ (names jobs : List (List ℕ)) where
  -- the operations stand at these places, and their canonical texts are these
  abbrev pub AreTexts : List (Place × List ℕ) → List PlacedOp → Type 0
  AreTexts [] [] = Unit {0}
  AreTexts [] (x ∷ xs) = ⊥
  AreTexts (p ∷ ps) [] = ⊥
  AreTexts (p ∷ ps) (x ∷ xs) = ((x.place ≡ p.0) × (op_text names jobs (op_of names jobs x.what) ≡ p.1)) × AreTexts ps xs

  pub texts_told : (shape : Shape) (ps : List (Place × List ℕ)) (ops : List PlacedOp) → shape.nodes < 2 ^ 8 → shape.drives < 2 ^ 8 → AreOps ps ops
      → first_where (is_undeclared names) ops ≡ None → first_where (is_outside shape) ops ≡ None → first_where is_unbuilt ops ≡ None → AreTexts ps ops
  texts_told shape [] [] few less are declared inside built = tt
  texts_told shape [] (x ∷ xs) few less are declared inside built = absurd are
  texts_told shape (p ∷ ps) [] few less are declared inside built = absurd are
  texts_told shape (p ∷ ps) (x ∷ xs) few less are declared inside built =
      let d = passed_over (is_undeclared names x.what) x.place (first_where (is_undeclared names) xs) declared in
      let i = passed_over (is_outside shape x.what) x.place (first_where (is_outside shape) xs) inside in
      let b = passed_over (is_unbuilt x.what) x.place (first_where is_unbuilt xs) built in
      let spelled = are.0.1.spells in
      let again = op_again shape names jobs x.what few less spelled.fits d.0 i.0 b.0 in
      ((are.0.0, ap named_text again ∙ sym spelled.is), texts_told shape ps xs few less are.1 d.1 i.1 b.1)

  none_in : (ps : List (Place × List ℕ)) (ops : List PlacedOp) (actor low high : ℕ) → AreTexts ps ops → Within ps low high → actor < low → script_in names jobs ops actor ≡ []
  none_in [] [] actor low high are within below = refl
  none_in [] (x ∷ xs) actor low high are within below = absurd are
  none_in (p ∷ ps) [] actor low high are within below = absurd are
  none_in (p ∷ ps) (x ∷ xs) actor low high are within below =
      let place : x.place.actor ≡ p.0.actor = ap (λ (q : Place). q.actor) are.0.0 in
      let least = within.0.0 in
      let other = ne_eqb x.place.actor actor (λ same. omega (arith, same, place, least, below)) in
      skipped names jobs x xs actor other ∙ none_in ps xs actor low high are.1 within.1 below

  op_line_same : (op : Op) (text : List ℕ) → op_text names jobs op ≡ text → op_line names jobs op ≡ table.op_line text
  unfolding op_line table.op_line
  op_line_same op text is = rw is refl

  -- the operations of an actor, and those of the later ones
  record Parted (texts : List (List ℕ)) (actor : ℕ) (ps : List (Place × List ℕ)) (ops : List PlacedOp) : Type 0 where
    rest : List PlacedOp
    are : AreTexts ps rest
    lines : op_lines names jobs (script_in names jobs ops actor) ≡ table.op_lines texts
    others : (n : ℕ) → scripts_in names jobs ops (actor + 1) n ≡ scripts_in names jobs rest (actor + 1) n

  parted : (texts : List (List ℕ)) (actor number high : ℕ) (ps : List (Place × List ℕ)) (ops : List PlacedOp) → Within ps (actor + 1) high
      → AreTexts (script_places texts actor number ++ ps) ops → Parted texts actor ps ops
  parted [] actor number high ps ops within are = record {
    rest = ops;
    are = are;
    lines = ap (op_lines names jobs) (none_in ps ops actor (actor + 1) high are within (omega arith));
    others = λ n. refl;
  }
  parted (t ∷ ts) actor number high ps [] within are = absurd are
  parted (t ∷ ts) actor number high ps (x ∷ xs) within are =
      let more = parted ts actor (number + 1) high ps xs within are.1 in
      let place : x.place.actor ≡ actor = ap (λ (q : Place). q.actor) are.0.0 in
      let here = taken names jobs x xs actor (eq-eqb x.place.actor actor place) in
      record {
        rest = more.rest;
        are = more.are;
        lines = ap (op_lines names jobs) here
            ∙ (ap (λ (l : List ℕ). l ++ op_lines names jobs (script_in names jobs xs actor)) (op_line_same (op_of names jobs x.what) t are.0.1)
            ∙ ap (λ (l : List ℕ). table.op_line t ++ l) more.lines);
        others = λ n. later names jobs x xs (actor + 1) n (omega (arith, place)) ∙ more.others n;
      }

  actor_same : (ops : List Op) (texts : List (List ℕ)) → op_lines names jobs ops ≡ table.op_lines texts → actor_lines names jobs ops ≡ table.actor_lines texts
  unfolding actor_lines actor_opening table.actor_lines
  actor_same ops texts is = rw is refl

  pub actors_same : (actors : List (List (List ℕ))) (actor : ℕ) (ops : List PlacedOp) → AreTexts (all_places actors actor) ops
      → all_actor_lines names jobs (scripts_in names jobs ops actor (length actors)) ≡ table.all_actor_lines actors
  actors_same [] actor ops are = refl
  actors_same (texts ∷ more) actor ops are =
      let within = within-all more (actor + 1) (actor + 1) (actor + length more) (omega arith) (omega arith) in
      let parts = parted texts actor 1 (actor + length more) (all_places more (actor + 1)) ops within are in
      ap (λ (l : List ℕ). l ++ all_actor_lines names jobs (scripts_in names jobs ops (actor + 1) (length more))) (actor_same (script_in names jobs ops actor) texts parts.lines)
      ∙ (ap (λ (ss : List (List Op)). table.actor_lines texts ++ all_actor_lines names jobs ss) (parts.others (length more))
      ∙ ap (λ (l : List ℕ). table.actor_lines texts ++ l) (actors_same more (actor + 1) parts.rest parts.are))

-- ---- the whole text

abbrev pub numbers_of : Scenario → table.Numbers
numbers_of s = record { unit = s.shape.unit; nodes = s.shape.nodes; drives = s.shape.drives; slots = s.shape.slots; workers = s.workers }

pub text_same : (s : Scenario) (rows : List FileRow) (actors : List (List (List ℕ))) → AreFilesOf rows s.files
    → all_actor_lines (file_names s.files) s.jobs s.actors ≡ table.all_actor_lines actors → canonical_text s ≡ table.table_text (numbers_of s) rows actors
unfolding canonical_text number_line table.table_text table.number_line
text_same s rows actors are same = rw (files_same rows s.files are, same) refl
