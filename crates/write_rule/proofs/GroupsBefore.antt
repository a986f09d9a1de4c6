-- What stands before a run of groups with other generations.
use Rattle.std.proofs.Common.{◌≡◌, ℕ, zero, suc, ◌+◌, ◌≤◌, ◌⊎◌, inl, inr, Bool, true, false, ◌||◌, not, cond, eqb, List, [], ◌∷◌, ◌++◌, length, take, drop, refl, sym, ap, ◌∙◌, arith}
use Rattle.std.specs.Prelude.{take_while}
use Rattle.std.specs.List.{AllByRecursion, prefix_len}
use Rattle.std.proofs.lemmas.Bool.{eq-eqb, ne_eqb}
use Rattle.std.proofs.lemmas.List.{take-append-drop, length-take, length-drop, length-map, append_assoc}
use Rattle.domains.specs.declared.group.Group.{Group}
use Rattle.inode_codec.specs.Inode.{AreGenerations}
use Rattle.file_history.specs.Layout.{is_among, replaced}
use Rattle.file_history.specs.WriteRule.{generations_of, groups_before}
use Rattle.map_changes.specs.ChangedMaps.{spliced}

or_neither : (x y : Bool) → x ≡ false → y ≡ false → (x || y) ≡ false
or_neither x y h k = ap (λ z. z || y) h ∙ k

Stops : (Group → Bool) → List Group → Type 0
Stops p [] = Unit {0}
Stops p (g ∷ gs) = p g ≡ false

one_more : (n : ℕ) → 1 + n ≡ suc n
one_more n = omega arith

-- a list that passes, and then an element that does not
passing : (p : Group → Bool) (xs ys : List Group) → AllByRecursion (λ (x : Group). p x ≡ true) xs → Stops p ys → take_while p (xs ++ ys) ≡ xs
unfolding Stops
passing p [] [] all stop = refl
passing p [] (y ∷ ys) all stop = ap (λ (c : Bool). take (cond c (1 + prefix_len p ys) 0) (y ∷ ys)) stop
passing p (x ∷ xs) ys all stop =
    ap (λ (c : Bool). take (cond c (1 + prefix_len p (xs ++ ys)) 0) (x ∷ (xs ++ ys))) all.0
    ∙ ap (λ (n : ℕ). take n (x ∷ (xs ++ ys))) (one_more (prefix_len p (xs ++ ys)))
    ∙ ap (λ (l : List Group). x ∷ l) (passing p xs ys all.1 stop)

All-taken : {A : Type 0} (P : A → Type 0) (n : ℕ) (xs : List A) → AllByRecursion P xs → AllByRecursion P (take n xs)
All-taken P zero xs all = tt
All-taken P (suc n) [] all = tt
All-taken P (suc n) (x ∷ xs) all = (all.0, All-taken P n xs all.1)

All-dropped : {A : Type 0} (P : A → Type 0) (n : ℕ) (xs : List A) → AllByRecursion P xs → AllByRecursion P (drop n xs)
All-dropped P zero xs all = all
All-dropped P (suc n) [] all = tt
All-dropped P (suc n) (x ∷ xs) all = All-dropped P n xs all.1

absent : (n : ℕ) (gs : List Group) → AllByRecursion (λ (h : Group). n ≡ h.generation → ⊥) gs → is_among (generations_of gs) n ≡ false
absent n [] all = refl
absent n (g ∷ gs) all =
    or_neither (eqb g.generation n) (is_among (generations_of gs) n) (ne_eqb g.generation n (λ same. all.0 (sym same))) (absent n gs all.1)

abbrev is_other : List Group → Group → Bool
is_other run g = not (is_among (generations_of run) g.generation)

apart : (gs : List Group) (first count : ℕ) → AreGenerations gs → AllByRecursion (λ (g : Group). is_other (take count (drop first gs)) g ≡ true) (take first gs)
apart gs zero count differ = tt
apart [] (suc first) count differ = tt
apart (g ∷ gs) (suc first) count differ =
    let Q : Group → Type 0 = λ h. g.generation ≡ h.generation → ⊥ in
    (ap not (absent g.generation (take count (drop first gs)) (All-taken Q count (drop first gs) (All-dropped Q first gs differ.0))), apart gs first count differ.1)

heads : (gs : List Group) (count : ℕ) → (1 ≤ count) ⊎ (length gs ≡ 0) → Stops (is_other (take count gs)) gs
unfolding Stops
heads [] count some = tt
heads (g ∷ gs) zero (inl some) = absurd (omega (arith, some))
heads (g ∷ gs) zero (inr none) = absurd (omega (arith, none))
heads (g ∷ gs) (suc count) some = ap (λ (b : Bool). not (b || is_among (generations_of (take count gs)) g.generation)) (eq-eqb g.generation g.generation refl)

-- the groups before a run
pub before_run : (gs : List Group) (first count : ℕ) → AreGenerations gs → (1 ≤ count) ⊎ (first ≡ length gs)
    → groups_before (take count (drop first gs)) gs ≡ take first gs
before_run gs first count differ some =
    let long = length-drop first gs in
    ap (take_while (is_other (take count (drop first gs)))) (sym (take-append-drop first gs))
    ∙ passing (is_other (take count (drop first gs))) (take first gs) (drop first gs) (apart gs first count differ)
    (heads (drop first gs) count (elim some [ inl more ↦ inl more | inr all ↦ inr (omega (arith, long, all)) ]))

-- what replaces the run
pub replaced_run : (gs new : List Group) (first count : ℕ) → AreGenerations gs → (1 ≤ count) ⊎ (first ≡ length gs) → first + count ≤ length gs
    → replaced (generations_of (take count (drop first gs))) new gs ≡ spliced gs first count new
replaced_run gs new first count differ some within =
    let old : List ℕ = generations_of (take count (drop first gs)) in
    ap (λ (front : List Group). front ++ new ++ drop (length front + length old) gs) (before_run gs first count differ some)
    ∙ ap (λ (n : ℕ). take first gs ++ new ++ drop n gs) (numbers gs first count within)
    ∙ append_assoc (take first gs) new (drop (first + count) gs)
  where
    numbers : (gs : List Group) (first count : ℕ) → first + count ≤ length gs
        → length (take first gs) + length (generations_of (take count (drop first gs))) ≡ first + count
    numbers gs first count within =
        let a = length-take first gs in
        let b = length-map (take count (drop first gs)) (λ (g : Group). g.generation) in
        let c = length-take count (drop first gs) in
        let d = length-drop first gs in
        omega (arith, a, b, c, d, within)
