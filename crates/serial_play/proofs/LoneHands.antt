-- The one hand of a fabric, and its open files.
use Rattle.std.proofs.Common.{◌≡◌, ℕ, List, [], ◌∷◌, ◌++◌, length, take, drop, sym, ap, ◌∙◌, arith, length-append}
use Rattle.std.specs.List.{AllByRecursion}
use Rattle.std.proofs.Math.Seq.{take-length}
use Rattle.std.proofs.lemmas.List.{nil_from_length, take-append-le}
use Rattle.actor_operations.specs.Operations.{IsOpenIn}
use Rattle.domains.specs.Shape.{Shape}
use Rattle.file_cells.specs.OpenFiles.{IsOpen}
use Rattle.file_cells.specs.declared.open_file.OpenFile.{OpenFile}

-- the last of one is all
pub none-before : {A : Type 0} (all items rest : List A) (x : A) → items ≡ all → items ≡ rest ++ x ∷ [] → length all ≡ 1 → rest ≡ []
none-before all items rest x same split one =
    let long = ap length same in
    let parts = ap length split ∙ length-append rest (x ∷ []) in
    nil_from_length rest (omega (arith, long, parts, one))

pub lone : {A : Type 0} (all items rest : List A) (x : A) → items ≡ all → items ≡ rest ++ x ∷ [] → rest ≡ [] → all ≡ x ∷ []
lone all items rest x same split none = sym same ∙ split ∙ ap (λ (l : List _). l ++ x ∷ []) none

pub all-open : {S : Type 0} (shape : Shape) (files : List (OpenFile S)) → AllByRecursion (IsOpenIn shape) files → AllByRecursion IsOpen files
all-open shape [] all = tt
all-open shape (f ∷ fs) all = (all.0.open_, all-open shape fs all.1)

-- a list that is written over another of its length
pub written : {A : Type 0} (new old : List A) (len : ℕ) → length new ≡ length old → len ≡ length old → take len (new ++ drop (length new) old) ≡ new
written new old len many long =
    take-append-le len new (drop (length new) old) (omega (arith, many, long)) ∙ ap (λ (n : ℕ). take n new) (let same : len ≡ length new = omega (arith, many, long) in same) ∙ take-length new
