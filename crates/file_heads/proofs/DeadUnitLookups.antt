-- A unit is looked for where its generation stands among the dead units.
use Rattle.std.proofs.Common.{◌≡◌, ℕ, zero, suc, ◌+◌, ◌-◌, ◌<◌, ◌≤◌, ◌==◌, Bool, false, ◌&&◌, ◌||◌, ◌⊎◌, inl, inr, List, [], ◌∷◌, length, take, drop, get_or, length-drop, refl, sym, ap, ◌∙◌, arith}
use Rattle.std.specs.List.{insert, list_any}
use Rattle.std.proofs.lemmas.Bool.{cases_lt, ne_eqb}
use Rattle.std.proofs.lemmas.List.{get_or-drop}
use Rattle.std.proofs.lemmas.List.Sorted.{IsPermutation-insert, list_any-IsPermutation}
use Rattle.file_history.specs.Layout.{Unit_}
use Rattle.file_heads.specs.DeadUnits.{StartsAt, is_unit, names}

-- elements that fail the test may be left out at the front
skip_front : {X : Type 0} (p : X → Bool) (xs : List X) (i : ℕ) → ((k : ℕ) (d : X) → k < i → p (get_or xs k d) ≡ false)
    → list_any p (drop i xs) ≡ list_any p xs
skip_front p [] zero fails = refl
skip_front p [] (suc i) fails = refl
skip_front p (x ∷ xs) zero fails = refl
skip_front p (x ∷ xs) (suc i) fails =
    skip_front p xs i (λ k d below. fails (suc k) d (omega (arith, below))) ∙ ap (λ (b : Bool). b || list_any p xs) (sym (fails 0 x (omega arith)))

-- and at the back
cut_back : {X : Type 0} (p : X → Bool) (xs : List X) (n : ℕ) → ((k : ℕ) (d : X) → n ≤ k → k < length xs → p (get_or xs k d) ≡ false)
    → list_any p (take n xs) ≡ list_any p xs
cut_back p [] zero fails = refl
cut_back p [] (suc n) fails = refl
cut_back p (x ∷ xs) zero fails = sym (all_fail (x ∷ xs) (λ k d below. fails k d (omega arith) below))
  where
    all_fail : (ys : List _) → ((k : ℕ) (d : _) → k < length ys → p (get_or ys k d) ≡ false) → list_any p ys ≡ false
    all_fail [] none = refl
    all_fail (y ∷ ys) none = ap (λ (b : Bool). b || list_any p ys) (none 0 y (omega arith)) ∙ all_fail ys (λ k d below. none (suc k) d (omega (arith, below)))
cut_back p (x ∷ xs) (suc n) fails =
    ap (λ (b : Bool). p x || b) (cut_back p xs n (λ k d from below. fails (suc k) d (omega (arith, from)) (omega (arith, below))))

-- a unit of another generation is not this one
other : (u : Unit_) (generation position : ℕ) → (u.generation ≡ generation → ⊥) → is_unit generation position u ≡ false
other u generation position differs = ap (λ (b : Bool). b && (u.position == position)) (ne_eqb u.generation generation differs)

-- a unit is found between where its generation starts and where the next one does
pub names-between : (units : List Unit_) (generation position start end : ℕ) → StartsAt units generation start → StartsAt units (generation + 1) end
    → names (take (end - start) (drop start units)) generation position ≡ names units generation position
names-between units generation position start end starts ends =
    cut_back (is_unit generation position) (drop start units) (end - start) later
    ∙ skip_front (is_unit generation position) units start earlier
  where
    earlier : (k : ℕ) (d : Unit_) → k < start → is_unit generation position (get_or units k d) ≡ false
    earlier k d below =
        let less = starts.before k d below in
        other (get_or units k d) generation position (λ same. omega (arith, less, same))

    later : (k : ℕ) (d : Unit_) → end - start ≤ k → k < length (drop start units) → is_unit generation position (get_or (drop start units) k d) ≡ false
    later k d from below =
        let within = length-drop start units in
        let more = ends.after (start + k) d (omega (arith, from)) (omega (arith, below, within)) in
        ap (is_unit generation position) (get_or-drop start units k d)
        ∙ other (get_or units (start + k) d) generation position (λ same. omega (arith, more, same))

-- where a generation starts is no later than where the next one does
pub start_before_end : (units : List Unit_) (generation start end : ℕ) → StartsAt units generation start → StartsAt units (generation + 1) end → start ≤ end
start_before_end units generation start end starts ends = order (cases_lt end start)
  where
    order : (end < start) ⊎ (start ≤ end) → start ≤ end
    order (inl less) =
        let d : Unit_ = record { generation = 0; position = 0 } in
        let within = starts.within in
        let before = starts.before end d less in
        let after = ends.after end d (omega arith) (omega (arith, less, within)) in
        absurd (omega (arith, before, after))
    order (inr more) = more

-- one unit more, wherever it stands
pub names-insert : (units : List Unit_) (at : ℕ) (u : Unit_) (generation position : ℕ)
    → names (insert units at u) generation position ≡ (is_unit generation position u || names units generation position)
names-insert units at u generation position =
    sym (list_any-IsPermutation (is_unit generation position) (u ∷ units) (insert units at u) (IsPermutation-insert units at u))
