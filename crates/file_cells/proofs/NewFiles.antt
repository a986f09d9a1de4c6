-- Files that are opened one after the other, and that end one after the other.
use Rattle.std.proofs.Common.{◌≡◌, ℕ, suc, ◌+◌, List, [], ◌∷◌, ◌++◌, length, reverse, Option, sym, ap, subst, ◌∙◌, arith, append_assoc}
use Rattle.std.proofs.lemmas.List.{reverse-append}
use Rattle.std.specs.List.{AllByRecursion}
use Rattle.domains.specs.Shape.{Shape}
use Rattle.flex_io.specs.declared.raw_place.RawPlace.{RawPlace}
use Rattle.scenario.specs.declared.scenario.FileDecl.{FileDecl}
use Rattle.file_cells.specs.FileEnds.{logs_of_files}
use Rattle.file_cells.specs.OpenFiles.{AreNew, HoldsNone, IsNewFile, IsOpen, entries_of, state_of}
use Rattle.file_cells.specs.declared.open_file.OpenFile.{OpenFile}

module _ {S : Type 0} (place_of : S → RawPlace) (content : S → Option (List ℕ)) (len_of : S → ℕ) where
  pub are_new-push : (shape : Shape) (room : ℕ) (ds : List FileDecl) (d : FileDecl) (number : ℕ) (fs : List (OpenFile S)) (f : OpenFile S)
      → AreNew place_of content len_of shape room ds number fs → IsNewFile place_of content len_of shape room (number + length fs) d f
      → AreNew place_of content len_of shape room (ds ++ d ∷ []) number (fs ++ f ∷ [])
  are_new-push shape room [] d number [] f are new =
      let same : number + 0 ≡ number = omega arith in
      (subst (λ (k : ℕ). IsNewFile place_of content len_of shape room k d f) same new, tt)
  are_new-push shape room [] d number (g ∷ fs) f are new = absurd are
  are_new-push shape room (e ∷ ds) d number [] f are new = absurd are
  are_new-push shape room (e ∷ ds) d number (g ∷ fs) f are new =
      let same : number + suc (length fs) ≡ suc number + length fs = omega arith in
      (are.0, are_new-push shape room ds d (suc number) fs f are.1 (subst (λ (k : ℕ). IsNewFile place_of content len_of shape room k d f) same new))

  pub hold_none : (shape : Shape) (room : ℕ) (ds : List FileDecl) (number : ℕ) (fs : List (OpenFile S)) → AreNew place_of content len_of shape room ds number fs → AllByRecursion HoldsNone fs
  hold_none shape room [] number [] are = tt
  hold_none shape room [] number (f ∷ fs) are = absurd are
  hold_none shape room (d ∷ ds) number [] are = absurd are
  hold_none shape room (d ∷ ds) number (f ∷ fs) are = (
    record { open_ = are.0.open_; groups = ap (λ x. x.groups) are.0.new; inode = ap (λ x. x.inode) are.0.new },
    hold_none shape room ds (suc number) fs are.1,
  )

module _ {S : Type 0} where
  -- the last of a stack of open files
  pub next_open : (stack less : List (OpenFile S)) (f : OpenFile S) → stack ≡ less ++ f ∷ [] → AllByRecursion IsOpen (reverse stack) → IsOpen f × AllByRecursion IsOpen (reverse less)
  next_open stack less f top are = subst (λ l. AllByRecursion IsOpen l) (ap reverse top ∙ reverse-append less (f ∷ [])) are

  -- its log is next
  pub next_log : (stack less : List (OpenFile S)) (f : OpenFile S) (logs all : List _) (log : _) → stack ≡ less ++ f ∷ [] → log ≡ entries_of (state_of f)
      → logs ++ logs_of_files (reverse stack) ≡ all → (logs ++ log ∷ []) ++ logs_of_files (reverse less) ≡ all
  next_log stack less f logs all log top is before =
      append_assoc logs (log ∷ []) (logs_of_files (reverse less))
      ∙ ap (λ x. logs ++ x ∷ logs_of_files (reverse less)) is
      ∙ ap (λ l. logs ++ logs_of_files l) (sym (ap reverse top ∙ reverse-append less (f ∷ [])))
      ∙ before
