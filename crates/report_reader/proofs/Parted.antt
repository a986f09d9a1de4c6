-- A comma list as a loop reads it: what was read, and what is left of the text.
use Rattle.std.proofs.Common.{codes, ◌≡◌, ℕ, ◌+◌, ◌<◌, ◌≤◌, ◌^◌, true, List, [], ◌∷◌, ◌++◌, length, refl, sym, ap, ◌∙◌, subst, arith, append_assoc, append-nil, length-append, eqb, eq-eqb, false}
use Rattle.std.specs.Fmt.{decimal}
use Rattle.std.specs.List.{AllByRecursion}
use Rattle.std.proofs.lemmas.Fmt.{decimal_nonempty}
use Rattle.std.proofs.lemmas.Bool.{and_parts, eqb-true}
use Rattle.domains.specs.Drive.{Drive, IsDrive}
use Rattle.domains.specs.Place.{Place, IsPlace}
use Rattle.scenario.specs.Ops.{drive_text}
use Rattle.report.specs.Words.{place_text}
use Rattle.report_reader.specs.Fits.{FitsDrive, FitsPlace}
use Rattle.report_reader.specs.Lines.{IsGeneration, lacks}
use Rattle.report_reader.proofs.Cuts.{decimal_lacks, not_both}
use Rattle.report_reader.proofs.CommaLists.{IsTold, listed, more}
use Rattle.report_reader.proofs.WordsTold.{drive_spelled, drive_told, number_told, place_spelled, place_told}

module _ {A : Type 0} where
  abbrev pub joined : (A → List ℕ) → List A → List ℕ
  joined text [] = []
  joined text (a ∷ rest) = text a ++ more text rest

  -- the element has a text, with neither a comma nor a dash
  pub record IsPiece (text : A → List ℕ) (a : A) : Type 0 where
    pub comma : lacks 44 (text a) ≡ true
    pub dash : lacks 45 (text a) ≡ true
    pub some : 1 ≤ length (text a)

  pub record Parted (text : A → List ℕ) (Is : A → Type 0) (all items : List A) (rest : List ℕ) : Type 0 where
    pub left : List A
    pub whole : all ≡ items ++ left
    pub are : AllByRecursion Is left
    pub is : rest ≡ joined text left

  pub all_push : (Is : A → Type 0) (items : List A) (x : A) → AllByRecursion Is items → Is x → AllByRecursion Is (items ++ x ∷ [])
  all_push Is [] x are is = (is, tt)
  all_push Is (y ∷ ys) x are is = (are.0, all_push Is ys x are.1 is)

  no_dash : (text : A → List ℕ) (xs : List ℕ) (rest : List A) → lacks 45 xs ≡ true → 1 ≤ length xs → xs ++ more text rest ≡ 45 ∷ [] → ⊥
  no_dash text [] rest clean some same = absurd (omega arith)
  no_dash text (x ∷ xs) rest clean some same =
      not_both 45 (45 ∷ []) [] [] refl (subst (λ (n : ℕ). lacks 45 (n ∷ []) ≡ true) (ap (λ (l : List ℕ). first l) same) (one x xs clean))
    where
      first : List ℕ → ℕ
      first [] = 0
      first (y ∷ ys) = y

      one : (y : ℕ) (ys : List ℕ) → lacks 45 (y ∷ ys) ≡ true → lacks 45 (y ∷ []) ≡ true
      one y ys h = rw (and_parts _ (lacks 45 ys) h).0 refl

  pub starts : (text : A → List ℕ) (Is : A → Type 0) → ((a : A) → Is a → IsPiece text a) → (all : List A) → AllByRecursion Is all → (t s : List ℕ)
      → t ≡ listed text all → (t ≡ 45 ∷ [] → s ≡ []) → ((t ≡ 45 ∷ [] → ⊥) → s ≡ t) → Parted text Is all [] s
  starts text Is piece [] are t s is dash other = record { left = []; whole = refl; are = tt; is = dash is }
  starts text Is piece (a ∷ rest) are t s is dash other =
      let p = piece a are.0 in
      record { left = a ∷ rest; whole = refl; are = are; is = other (λ same. no_dash text (text a) rest p.dash p.some (sym is ∙ same)) ∙ is }

  module _ (text : A → List ℕ) (Is : A → Type 0) (piece : (a : A) → Is a → IsPiece text a) where
    step_at : (all items left : List A) (rest first after : List ℕ) (made : A) → all ≡ items ++ left → AllByRecursion Is left → rest ≡ joined text left → 1 ≤ length rest
        → ((xs ys : List ℕ) → lacks 44 xs ≡ true → rest ≡ xs ++ 44 ∷ ys → (first ≡ xs) × (after ≡ ys)) → (lacks 44 rest ≡ true → (first ≡ rest) × (after ≡ []))
        → ((a : A) → Is a → first ≡ text a → made ≡ a) → Parted text Is all (items ++ made ∷ []) after
    step_at all items [] rest first after made whole are is some cut none value =
        let none_left : 1 ≤ 0 = subst (λ (r : List ℕ). 1 ≤ length r) is some in absurd (omega arith)
    step_at all items (a ∷ []) rest first after made whole are is some cut none value =
        let alone : rest ≡ text a = is ∙ append-nil (text a) in
        let parts = none (ap (lacks 44) alone ∙ (piece a are.0).comma) in
        let same : made ≡ a = value a are.0 (parts.0 ∙ alone) in
        record { left = []; whole = whole ∙ ap (λ (x : A). items ++ x ∷ []) (sym same) ∙ sym (append-nil (items ++ made ∷ [])); are = tt; is = parts.1 }
    step_at all items (a ∷ b ∷ more_left) rest first after made whole are is some cut none value =
        let parts = cut (text a) (text b ++ more text more_left) (piece a are.0).comma is in
        let same : made ≡ a = value a are.0 parts.0 in
        record {
          left = b ∷ more_left;
          whole = whole ∙ ap (λ (x : A). items ++ x ∷ b ∷ more_left) (sym same) ∙ sym (append_assoc items (made ∷ []) (b ∷ more_left));
          are = are.1;
          is = parts.1;
        }

    pub step : (all items : List A) (rest first after : List ℕ) (made : A) → Parted text Is all items rest → 1 ≤ length rest
        → ((xs ys : List ℕ) → lacks 44 xs ≡ true → rest ≡ xs ++ 44 ∷ ys → (first ≡ xs) × (after ≡ ys)) → (lacks 44 rest ≡ true → (first ≡ rest) × (after ≡ []))
        → ((a : A) → Is a → first ≡ text a → made ≡ a) → Parted text Is all (items ++ made ∷ []) after
    step all items rest first after made p some cut none value = step_at all items p.left rest first after made p.whole p.are p.is some cut none value

    end_at : (all items left : List A) (rest : List ℕ) → all ≡ items ++ left → AllByRecursion Is left → rest ≡ joined text left → length rest ≡ 0 → items ≡ all
    end_at all items [] rest whole are is over = sym (whole ∙ append-nil items)
    end_at all items (a ∷ more_left) rest whole are is over =
        let some : 1 ≤ length (text a) = (piece a are.0).some in
        let len : length (text a ++ more text more_left) ≡ 0 = sym (ap length is) ∙ over in
        absurd (omega (arith, length-append (text a) (more text more_left)))

    pub ends : (all items : List A) (rest : List ℕ) → Parted text Is all items rest → length rest ≡ 0 → items ≡ all
    ends all items rest p over = end_at all items p.left rest p.whole p.are p.is over

pub drive_piece : (d : Drive) → IsDrive d → IsPiece drive_text d
drive_piece d h =
    let told = drive_told d (record { node = omega (arith, h.nodes); drive = omega (arith, h.drives) }) in
    let len : length (drive_text d) ≡ length (decimal d.node ++ 47 ∷ decimal d.drive) = ap length (drive_spelled d) in
    record { comma = told.comma; dash = told.dash; some = omega (arith, len, length-append (decimal d.node) (47 ∷ decimal d.drive)) }

pub place_piece : (s : Place) → IsPlace s → IsPiece place_text s
place_piece s h =
    let told = place_told s (record { drive = record { node = omega (arith, h.drive.nodes); drive = omega (arith, h.drive.drives) }; slot = omega (arith, h.slot) }) in
    let len : length (place_text s) ≡ length (drive_text s.drive ++ 58 ∷ decimal s.slot) = ap length (place_spelled s) in
    record { comma = told.comma; dash = told.dash; some = omega (arith, len, length-append (drive_text s.drive) (58 ∷ decimal s.slot)) }

pub generation_piece : (n : ℕ) → IsGeneration n → IsPiece decimal n
generation_piece n h =
    let told = number_told n (omega (arith, h)) in
    record { comma = told.comma; dash = told.dash; some = omega (arith, decimal_nonempty n (omega (arith, h))) }

pub nonempty : (xs : List ℕ) → eqb (length xs) 0 ≡ false → 1 ≤ length xs
nonempty xs other =
    let apart : length xs ≡ 0 → ⊥ = λ none. let zero : eqb (length xs) 0 ≡ true = eq-eqb (length xs) 0 none in cc in
    omega arith

pub empty : (xs : List ℕ) → eqb (length xs) 0 ≡ true → length xs ≡ 0
empty xs none = eqb-true (length xs) 0 none
