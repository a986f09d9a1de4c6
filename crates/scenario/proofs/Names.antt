-- The name of a file by its number.
use Rattle.std.proofs.Common.{◌≡◌, ℕ, ◌<◌, ◌≤◌, List, [], ◌∷◌, length, get_or, zero, suc, refl, ap, sym, arith}
use Rattle.scenario.specs.Ops.{name_of}
use Rattle.scenario.specs.declared.scenario.FileDecl.{FileDecl}

-- the name of the file at a place within the list
pub name_of-at : (files : List FileDecl) (i : ℕ) (f : FileDecl) → i < length files → f ≡ get_or files i f → name_of files i ≡ f.name
name_of-at [] i f within read = absurd (omega arith)
name_of-at (x ∷ xs) zero f within read = ap (λ (d : FileDecl). d.name) (sym read)
name_of-at (x ∷ xs) (suc i) f within read = name_of-at xs i f (omega arith) read

-- no name past the end
pub name_of_past : (files : List FileDecl) (i : ℕ) → length files ≤ i → name_of files i ≡ []
name_of_past [] i past = refl
name_of_past (x ∷ xs) zero past = absurd (omega arith)
name_of_past (x ∷ xs) (suc i) past = name_of_past xs i (omega arith)
