-- What stands before the count of a file's entries is within one line.
use Rattle.std.proofs.Common.{codes, ◌≡◌, ℕ, ◌==◌, true, false, List, [], ◌∷◌, ◌++◌, refl, sym, ap, ◌∙◌, inl, inr}
use Rattle.std.specs.List.{list_all}
use Rattle.std.proofs.lemmas.Bool.{and_parts, cases_Bool, false≢true, eqb-true}
use Rattle.scenario.specs.Words.{IsName, is_name_byte}
use Rattle.scenario.specs.declared.scenario.FileDecl.{FileDecl}
use Rattle.report_reader.specs.Lines.{lacks}
use Rattle.report_reader.proofs.Cuts.{lacks_both}
use Rattle.report_blocks.proofs.LogBlocks.{file_head}

name_lacks : (name : List ℕ) → list_all is_name_byte name ≡ true → lacks 10 name ≡ true
name_lacks [] h = refl
name_lacks (b ∷ bs) h =
    let (fits, more) = and_parts (is_name_byte b) (list_all is_name_byte bs) h in
    let other : is_name_byte 10 ≡ false = refl in
    let apart : (b == 10) ≡ false = elim (cases_Bool (b == 10)) [
      | inl is ↦ absurd (false≢true (sym (ap is_name_byte (eqb-true b 10 is) ∙ other) ∙ fits))
      | inr isnt ↦ isnt
    ] in
    rw (apart, name_lacks bs more) refl

pub head_lacks : (f : FileDecl) → IsName f.name → lacks 10 (file_head f) ≡ true
head_lacks f h = lacks_both 10 (codes "file " ++ f.name) (codes " ") (lacks_both 10 (codes "file ") f.name refl (name_lacks f.name h.all)) refl
