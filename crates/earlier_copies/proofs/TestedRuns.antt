-- Groups of a map for which a test passes, by where they stand.
use Rattle.std.proofs.Common.{◌≡◌, ℕ, ◌+◌, ◌≤◌, inl, inr, Bool, true, false, if◌then◌else◌, List, [], ◌∷◌, ◌++◌, Some, refl, sym, ap, ◌∙◌, arith}
use Rattle.std.specs.List.{AllByRecursion}
use Rattle.std.proofs.lemmas.Bool.{cases_Bool}
use Rattle.std.proofs.lemmas.List.Sums.{sum_by-cons}
use Rattle.domains.specs.declared.group.Group.{Group}
use Rattle.inode_codec.specs.Inode.{data_units}
use Rattle.file_history.specs.Live.{groups_with}
use Rattle.map_laws.specs.MappedGroups.{StandsFrom}
use Rattle.earlier_copies.specs.ReadyWrites.{last_generation}

-- a test of a group's first data unit, the group, and whether it is the last
abbrev pub Test : Type 0
Test = ℕ → Group → Bool → Bool

-- each group has a data unit
abbrev pub HaveUnits : List Group → Type 0
HaveUnits gs = AllByRecursion (λ (g : Group). 1 ≤ g.n) gs

-- the groups that pass, none of which is the last
abbrev pub passing : List Group → ℕ → Test → List Group
passing [] start p = []
passing (g ∷ gs) start p = if p start g false then g ∷ passing gs (start + g.n) p else passing gs (start + g.n) p

-- none of the groups passes, if it is not the last
abbrev pub Fail : List Group → ℕ → Test → Type 0
Fail gs start p = (g : Group) (first : ℕ) → StandsFrom gs start g first → p first g false ≡ false

passing_start : (gs : List Group) (a b : ℕ) (p : Test) → a ≡ b → passing gs a p ≡ passing gs b p
passing_start gs a b p same = ap (λ (s : ℕ). passing gs s p) same

pub passing-append : (xs ys : List Group) (start : ℕ) (p : Test) → passing (xs ++ ys) start p ≡ passing xs start p ++ passing ys (start + data_units xs) p
passing-append [] ys start p = passing_start ys start (start + data_units []) p (omega arith)
passing-append (x ∷ xs) ys start p =
    let whole = sum_by-cons (λ (g : Group). g.n) x xs in
    let rest : passing (xs ++ ys) (start + x.n) p ≡ passing xs (start + x.n) p ++ passing ys (start + data_units (x ∷ xs)) p =
    passing-append xs ys (start + x.n) p
    ∙ ap (λ (l : List Group). passing xs (start + x.n) p ++ l) (passing_start ys (start + x.n + data_units xs) (start + data_units (x ∷ xs)) p (omega (arith, whole))) in
    elim (p start x false)
    as (λ b. (if b then x ∷ passing (xs ++ ys) (start + x.n) p else passing (xs ++ ys) (start + x.n) p)
    ≡ (if b then x ∷ passing xs (start + x.n) p else passing xs (start + x.n) p) ++ passing ys (start + data_units (x ∷ xs)) p) [
      | true ↦ ap (λ (l : List Group). x ∷ l) rest
      | false ↦ rest
    ]

pub passing-none : (gs : List Group) (start : ℕ) (p : Test) → Fail gs start p → passing gs start p ≡ []
passing-none [] start p fail = refl
passing-none (g ∷ gs) start p fail =
    ap (λ (b : Bool). if b then g ∷ passing gs (start + g.n) p else passing gs (start + g.n) p) (fail g start (inl (refl, refl)))
    ∙ passing-none gs (start + g.n) p (λ h first stands. fail h first (inr stands))

-- where it does not matter which is the last, the groups that pass are those
pub with-passing : (gs : List Group) (start : ℕ) (p : Test) → ((first : ℕ) (g : Group) → p first g true ≡ p first g false) → groups_with gs start p ≡ passing gs start p
with-passing [] start p same = refl
with-passing (g ∷ []) start p same = ap (λ (b : Bool). if b then g ∷ [] else []) (same start g)
with-passing (g ∷ h ∷ gs) start p same =
    ap (λ (l : List Group). if p start g false then g ∷ l else l) (with-passing (h ∷ gs) (start + g.n) p same)

-- groups that fail before others
pub with-after : (xs : List Group) (y : Group) (ys : List Group) (start : ℕ) (p : Test) → Fail xs start p
    → groups_with (xs ++ (y ∷ ys)) start p ≡ groups_with (y ∷ ys) (start + data_units xs) p
with-after [] y ys start p fail = ap (λ (s : ℕ). groups_with (y ∷ ys) s p) (omega arith)
with-after (x ∷ []) y ys start p fail =
    let whole = sum_by-cons (λ (g : Group). g.n) x [] in
    ap (λ (b : Bool). if b then x ∷ groups_with (y ∷ ys) (start + x.n) p else groups_with (y ∷ ys) (start + x.n) p) (fail x start (inl (refl, refl)))
    ∙ ap (λ (s : ℕ). groups_with (y ∷ ys) s p) (omega (arith, whole))
with-after (x ∷ z ∷ zs) y ys start p fail =
    let whole = sum_by-cons (λ (g : Group). g.n) x (z ∷ zs) in
    ap (λ (b : Bool). if b then x ∷ groups_with (z ∷ (zs ++ (y ∷ ys))) (start + x.n) p else groups_with (z ∷ (zs ++ (y ∷ ys))) (start + x.n) p) (fail x start (inl (refl, refl)))
    ∙ with-after (z ∷ zs) y ys (start + x.n) p (λ h first stands. fail h first (inr stands))
    ∙ ap (λ (s : ℕ). groups_with (y ∷ ys) s p) (omega (arith, whole))

-- groups that fail, the last too
pub with-none : (gs : List Group) (start : ℕ) (p : Test) → Fail gs start p
    → ((g : Group) (first : ℕ) → StandsFrom gs start g first → first + g.n ≡ start + data_units gs → p first g true ≡ false) → groups_with gs start p ≡ []
with-none [] start p fail last = refl
with-none (g ∷ []) start p fail last =
    let whole = sum_by-cons (λ (h : Group). h.n) g [] in
    ap (λ (b : Bool). if b then g ∷ [] else []) (last g start (inl (refl, refl)) (omega (arith, whole)))
with-none (g ∷ h ∷ gs) start p fail last =
    let whole = sum_by-cons (λ (k : Group). k.n) g (h ∷ gs) in
    ap (λ (b : Bool). if b then g ∷ groups_with (h ∷ gs) (start + g.n) p else groups_with (h ∷ gs) (start + g.n) p) (fail g start (inl (refl, refl)))
    ∙ with-none (h ∷ gs) (start + g.n) p (λ k first stands. fail k first (inr stands))
    (λ k first stands ends. last k first (inr stands) (omega (arith, ends, whole)))

not_cons : (g : Group) (gs : List Group) → g ∷ gs ≡ [] → ⊥
not_cons g gs h = cc

-- and where none passes, the last fails
pub last-fails : (gs : List Group) (start : ℕ) (p : Test) (g : Group) (first : ℕ) → HaveUnits gs → groups_with gs start p ≡ [] → StandsFrom gs start g first
    → first + g.n ≡ start + data_units gs → p first g true ≡ false
last-fails [] start p g first some none stands ends = absurd stands
last-fails (h ∷ []) start p g first some none (inl here) ends = elim (cases_Bool (p first g true)) [
  | inl passes ↦
      let same : p start h true ≡ true = ap (λ (x : Group × ℕ). p x.1 x.0 true) (λ i. (here.0 i, here.1 i)) ∙ passes in
      absurd (not_cons h [] (sym (ap (λ (b : Bool). if b then h ∷ [] else []) same) ∙ none))
  | inr fails ↦ fails
]
last-fails (h ∷ []) start p g first some none (inr later) ends = absurd later
last-fails (h ∷ k ∷ ks) start p g first some none (inl here) ends =
    let whole = sum_by-cons (λ (x : Group). x.n) h (k ∷ ks) in
    let more = sum_by-cons (λ (x : Group). x.n) k ks in
    let one : 1 ≤ k.n = some.1.0 in
    let same : h.n ≡ g.n = ap (λ (x : Group). x.n) here.0 in
    let at = here.1 in
    absurd (omega (arith, whole, more, one, same, at, ends))
last-fails (h ∷ k ∷ ks) start p g first some none (inr later) ends =
    let whole = sum_by-cons (λ (x : Group). x.n) h (k ∷ ks) in
    last-fails (k ∷ ks) (start + h.n) p g first some.1 (rest (p start h false) none) later (omega (arith, ends, whole))
  where
    rest : (b : Bool) → (if b then h ∷ groups_with (k ∷ ks) (start + h.n) p else groups_with (k ∷ ks) (start + h.n) p) ≡ [] → groups_with (k ∷ ks) (start + h.n) p ≡ []
    rest true is = absurd (not_cons h (groups_with (k ∷ ks) (start + h.n) p) is)
    rest false is = is

-- a group that ends where all end is the last
pub last-is : (gs : List Group) (start : ℕ) (g : Group) (first : ℕ) → HaveUnits gs → StandsFrom gs start g first → first + g.n ≡ start + data_units gs
    → last_generation gs ≡ Some g.generation
last-is [] start g first some stands ends = absurd stands
last-is (h ∷ []) start g first some (inl here) ends = ap (λ (x : Group). Some x.generation) here.0
last-is (h ∷ []) start g first some (inr later) ends = absurd later
last-is (h ∷ k ∷ ks) start g first some (inl here) ends =
    let whole = sum_by-cons (λ (x : Group). x.n) h (k ∷ ks) in
    let more = sum_by-cons (λ (x : Group). x.n) k ks in
    let one : 1 ≤ k.n = some.1.0 in
    let same : h.n ≡ g.n = ap (λ (x : Group). x.n) here.0 in
    let at = here.1 in
    absurd (omega (arith, whole, more, one, same, at, ends))
last-is (h ∷ k ∷ ks) start g first some (inr later) ends =
    let whole = sum_by-cons (λ (x : Group). x.n) h (k ∷ ks) in
    last-is (k ∷ ks) (start + h.n) g first some.1 later (omega (arith, ends, whole))

-- groups without data units are none
pub no_groups : (gs : List Group) → HaveUnits gs → data_units gs ≡ 0 → gs ≡ []
no_groups [] some none = refl
no_groups (g ∷ gs) some none =
    let whole = sum_by-cons (λ (h : Group). h.n) g gs in
    let one : 1 ≤ g.n = some.0 in
    absurd (omega (arith, whole, one, none))
