-- The canonical text of a plain scenario.
use Rattle.std.proofs.Common.{◌≡◌, ℕ, List, [], ◌∷◌, ◌++◌, append_assoc, refl, ap, ◌∙◌}
use Rattle.operation_rules.specs.OpRules.{file_names}
use Rattle.scenario.specs.Canonical as plain
use Rattle.scenario.specs.Ops.{name_of, op_text, drive_text}
use Rattle.scenario.specs.declared.op.Op.{Op}
use Rattle.scenario.specs.declared.op.Op.TheVariants as op
use Rattle.scenario.specs.declared.scenario.FileDecl.{FileDecl}
use Rattle.scenario.specs.declared.scenario.Scenario.{Scenario}
use Rattle.whole_scenario.specs.Canonical as whole
use Rattle.whole_scenario.specs.Names.{name_at}
use Rattle.first_form.specs.Wholes.{op_whole, script_whole, scripts_whole, whole_of}

name_same : (files : List FileDecl) (file : ℕ) → name_at (file_names files) file ≡ name_of files file
name_same [] file = refl
name_same (f ∷ fs) ℕ.zero = refl
name_same (f ∷ fs) (ℕ.suc file) = name_same fs file

op_same : (files : List FileDecl) (o : Op) → whole.op_text (file_names files) [] (op_whole o) ≡ op_text files o
unfolding op_text drive_text
op_same files (op.Create file) = rw (name_same files file) refl
op_same files (op.WriteText file offset text) = rw (name_same files file) (simp append_assoc)
op_same files (op.Read file offset len) = rw (name_same files file) (simp append_assoc)
op_same files (op.Fail d) = simp append_assoc

line_same : (files : List FileDecl) (o : Op) → whole.op_line (file_names files) [] (op_whole o) ≡ plain.op_line files o
unfolding whole.op_line plain.op_line
line_same files o = rw (op_same files o) refl

lines_same : (files : List FileDecl) (ops : List Op) → whole.op_lines (file_names files) [] (script_whole ops) ≡ plain.op_lines files ops
lines_same files [] = refl
lines_same files (o ∷ ops) =
    ap (λ (l : List ℕ). l ++ whole.op_lines (file_names files) [] (script_whole ops)) (line_same files o)
    ∙ ap (λ (l : List ℕ). plain.op_line files o ++ l) (lines_same files ops)

actor_same : (files : List FileDecl) (ops : List Op) → whole.actor_lines (file_names files) [] (script_whole ops) ≡ plain.actor_lines files ops
unfolding whole.actor_lines plain.actor_lines whole.actor_opening
actor_same files ops = rw (lines_same files ops) refl

actors_same : (files : List FileDecl) (scripts : List (List Op)) → whole.all_actor_lines (file_names files) [] (scripts_whole scripts) ≡ plain.all_actor_lines files scripts
actors_same files [] = refl
actors_same files (ops ∷ more) =
    ap (λ (l : List ℕ). l ++ whole.all_actor_lines (file_names files) [] (scripts_whole more)) (actor_same files ops)
    ∙ ap (λ (l : List ℕ). plain.actor_lines files ops ++ l) (actors_same files more)

file_same : (f : FileDecl) → whole.file_lines f ≡ plain.file_lines f
unfolding whole.file_lines whole.text_line plain.file_lines plain.text_line
file_same f = refl

files_same : (files : List FileDecl) → whole.all_file_lines files ≡ plain.all_file_lines files
files_same [] = refl
files_same (f ∷ fs) =
    ap (λ (l : List ℕ). l ++ whole.all_file_lines fs) (file_same f) ∙ ap (λ (l : List ℕ). plain.file_lines f ++ l) (files_same fs)

pub text_same : (s : Scenario) → whole.canonical_text (whole_of s) ≡ plain.canonical_text s
unfolding whole.canonical_text plain.canonical_text whole.number_line plain.number_line
text_same s = rw (files_same s.files, actors_same s.files s.actors) refl
