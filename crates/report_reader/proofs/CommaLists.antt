-- Lists whose elements are parted by commas, or a dash.
use Rattle.std.proofs.Common.{◌≡◌, ℕ, ◌==◌, Bool, true, false, not, cond, ◌&&◌, List, [], ◌∷◌, ◌++◌, map, refl, sym, ap, ap₂, ◌∙◌, arith, append-nil}
use Rattle.std.specs.List.{AllByRecursion}
use Rattle.std.proofs.lemmas.Bool.{and_parts}
use Rattle.report_reader.specs.Lines.{lacks}
use Rattle.report_reader.proofs.Cuts.{lacks_both, one_piece, piece_at, pieces, same_text}

module _ {A : Type 0} where
  abbrev pub more : (A → List ℕ) → List A → List ℕ
  more text [] = []
  more text (a ∷ rest) = 44 ∷ (text a ++ more text rest)

  abbrev pub listed : (A → List ℕ) → List A → List ℕ
  listed text [] = 45 ∷ []
  listed text (a ∷ rest) = text a ++ more text rest

  -- the elements of a list that is no dash
  abbrev pub list_in : (List ℕ → A) → List ℕ → List A
  list_in guess text = cond (same_text text (45 ∷ [])) [] (map guess (pieces 44 text))

  -- the element is told by its text, which has neither a comma nor a dash
  pub record IsTold (text : A → List ℕ) (guess : List ℕ → A) (a : A) : Type 0 where
    pub again : guess (text a) ≡ a
    pub comma : lacks 44 (text a) ≡ true
    pub dash : lacks 45 (text a) ≡ true

  not_dash : (text : A → List ℕ) (xs : List ℕ) (rest : List A) → lacks 45 xs ≡ true → same_text (xs ++ more text rest) (45 ∷ []) ≡ false
  not_dash text [] [] h = refl
  not_dash text [] (a ∷ rest) h = refl
  not_dash text (x ∷ xs) rest h =
      let apart : (x == 45) ≡ false = grind (arith, (and_parts (not (x == 45)) (lacks 45 xs) h).0) in
      rw apart refl

  split : (text : A → List ℕ) (guess : List ℕ → A) (a : A) (rest : List A) → AllByRecursion (IsTold text guess) (a ∷ rest)
      → map guess (pieces 44 (text a ++ more text rest)) ≡ a ∷ rest
  split text guess a [] h =
      ap (λ t. map guess (pieces 44 t)) (append-nil (text a)) ∙ ap (map guess) (one_piece 44 (text a) h.0.comma) ∙ ap (λ b. b ∷ []) h.0.again
  split text guess a (b ∷ rest) h =
      ap (map guess) (piece_at 44 (text a) (text b ++ more text rest) h.0.comma) ∙ ap₂ (λ (x : A) (xs : List A). x ∷ xs) h.0.again (split text guess b rest h.1)

  pub listed_again : (text : A → List ℕ) (guess : List ℕ → A) (items : List A) → AllByRecursion (IsTold text guess) items → list_in guess (listed text items) ≡ items
  listed_again text guess [] h = refl
  listed_again text guess (a ∷ rest) h =
      ap (λ t. cond t [] (map guess (pieces 44 (text a ++ more text rest)))) (not_dash text (text a) rest h.0.dash) ∙ split text guess a rest h

  more_lacks : (c : ℕ) (text : A → List ℕ) (items : List A) → lacks c (44 ∷ []) ≡ true → AllByRecursion (λ a. lacks c (text a) ≡ true) items → lacks c (more text items) ≡ true
  more_lacks c text [] comma h = refl
  more_lacks c text (a ∷ rest) comma h =
      lacks_both c (44 ∷ []) (text a ++ more text rest) comma (lacks_both c (text a) (more text rest) h.0 (more_lacks c text rest comma h.1))

  pub listed_lacks : (c : ℕ) (text : A → List ℕ) (items : List A) → lacks c (44 ∷ []) ≡ true → lacks c (45 ∷ []) ≡ true → AllByRecursion (λ a. lacks c (text a) ≡ true) items
      → lacks c (listed text items) ≡ true
  listed_lacks c text [] comma dash h = dash
  listed_lacks c text (a ∷ rest) comma dash h = lacks_both c (text a) (more text rest) h.0 (more_lacks c text rest comma h.1)
