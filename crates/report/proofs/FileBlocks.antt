-- The blocks of files.
use Rattle.std.proofs.Common.{◌≡◌, ℕ, List, [], ◌∷◌, ◌++◌, ◌⊎◌, inl, inr, sym, ◌∙◌, append-nil}
use Rattle.scenario.specs.declared.scenario.FileDecl.{FileDecl}
use Rattle.file_history.specs.declared.entry.FileEntry.{FileEntry}
use Rattle.report.specs.Printed.{file_blocks}

-- where no file or no log is left, all is written
pub all_written : (text all : List ℕ) (files : List FileDecl) (logs : List (List FileEntry))
    → (files ≡ []) ⊎ (logs ≡ []) → text ++ file_blocks files logs ≡ all → text ≡ all
all_written text all [] logs none is = sym (append-nil text) ∙ is
all_written text all (f ∷ fs) [] none is = sym (append-nil text) ∙ is
all_written text all (f ∷ fs) (log ∷ rest) (inl none) is = cc
all_written text all (f ∷ fs) (log ∷ rest) (inr none) is = cc
