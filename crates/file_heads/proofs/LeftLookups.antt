-- What stands at a generation, and at one that was set.
use Rattle.std.proofs.Common.{◌≡◌, ℕ, zero, suc, ◌<◌, ◌≤◌, ◌==◌, ◌||◌, ◌++◌, Bool, true, false, if◌then◌else◌, List, [], ◌∷◌, length, get_or, Option, None, Some, slice_set, refl, sym, ap, ◌∙◌, arith, eq-eqb, eqb-true}
use Rattle.std.specs.List.{slice_get}
use Rattle.std.proofs.lemmas.Bool.{false≢true}
use Rattle.std.proofs.lemmas.Grind.{get_or-set_at}
use Rattle.std.proofs.lemmas.List.{get_or-set_other}
use Rattle.std.proofs.lemmas.Option.{get_or_from_slice_get}
use Rattle.domains.specs.declared.group.Group.{Group}
use Rattle.file_heads.specs.LeftGenerations.{entry_at, entry_number, has_generation}

pub past : (items : List ℕ) (generation : ℕ) → slice_get items generation ≡ None → entry_at items generation ≡ None
past [] generation is = refl
past (x ∷ xs) zero is = absurd (some_none is)
  where
    some_none : Some x ≡ None → ⊥
    some_none is = cc
past (x ∷ xs) (suc generation) is = past xs generation is

pub found : (items : List ℕ) (generation entry : ℕ) → slice_get items generation ≡ Some entry → entry_at items generation ≡ entry_number entry
found items generation entry is = ap entry_number (get_or_from_slice_get items generation entry 0 is)

pub some_number : (entry : ℕ) → 1 ≤ entry → entry_number entry ≡ Some entry
some_number zero some = absurd (omega (arith, some))
some_number (suc entry) some = refl

-- one generation is set
pub set_at : (items : List ℕ) (generation entry g : ℕ) → generation < length items → 1 ≤ entry
    → entry_at (slice_set items generation entry) g ≡ (if generation == g then Some entry else entry_at items g)
set_at items generation entry g below some = by_test (generation == g) refl
  where
    by_test : (same : Bool) → (generation == g) ≡ same
        → entry_at (slice_set items generation entry) g ≡ (if generation == g then Some entry else entry_at items g)
    by_test true is =
        ap entry_number (get_or-set_at items generation g entry 0 (sym (eqb-true generation g is)) below)
        ∙ some_number entry some
        ∙ ap (λ (same : Bool). if same then Some entry else entry_at items g) (sym is)
    by_test false is =
        ap entry_number (get_or-set_other items generation g entry 0 (λ same. false≢true (sym is ∙ eq-eqb generation g (sym same))))
        ∙ ap (λ (same : Bool). if same then Some entry else entry_at items g) (sym is)

-- groups that left, and then one more
pub left_with : (groups : List Group) (root : Group) (g : ℕ) (entry before : Option ℕ)
    → (if root.generation == g then entry else (if has_generation g groups then entry else before))
    ≡ (if has_generation g (groups ++ root ∷ []) then entry else before)
left_with [] root g entry before = one (root.generation == g)
  where
    one : (b : Bool) → (if b then entry else before) ≡ (if b || false then entry else before)
    one true = refl
    one false = refl
left_with (h ∷ hs) root g entry before =
    two (root.generation == g) (h.generation == g) (has_generation g hs)
    ∙ ap (λ (later : Option ℕ). if h.generation == g then entry else later) (left_with hs root g entry before)
    ∙ three (h.generation == g) (has_generation g (hs ++ root ∷ []))
  where
    two : (a b c : Bool) → (if a then entry else (if b || c then entry else before)) ≡ (if b then entry else (if a then entry else (if c then entry else before)))
    two true true c = refl
    two true false c = refl
    two false true c = refl
    two false false c = refl

    three : (b c : Bool) → (if b then entry else (if c then entry else before)) ≡ (if b || c then entry else before)
    three true c = refl
    three false c = refl
