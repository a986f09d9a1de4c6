-- The first groups of a map, one more at a time.
use Rattle.std.proofs.Common.{◌≡◌, ℕ, zero, suc, ◌+◌, ◌<◌, ◌≤◌, List, [], ◌∷◌, ◌++◌, length, map, take, drop, Option, Some, None, refl, sym, ap, ◌∙◌, arith, length-append}
use Rattle.std.specs.List.{slice_get}
use Rattle.std.proofs.lemmas.List.{take-map, drop-map}
use Rattle.domains.specs.declared.group.Group.{Group}
use Rattle.file_history.specs.Layout.{Layout, all_groups, group_list}
use Rattle.file_history.specs.WriteRule.{generations_of}
use Rattle.write_rule.specs.Runs.{run_of, widths_of}

abbrev or_else : {A : Type 0} → A → Option A → A
or_else d None = d
or_else d (Some x) = x

taken_suc : {A : Type 0} {B : Type 0} (f : A → B) (xs ys : List A) (k : ℕ) (x : A) → slice_get (xs ++ ys) k ≡ Some x → k < length xs
    → map f (take k xs) ++ f x ∷ [] ≡ map f (take (suc k) xs)
taken_suc f [] ys k x is below = absurd (omega (arith, below))
taken_suc f (y ∷ xs) ys zero x is below = ap (λ z. f z ∷ []) (sym (ap (or_else y) is))
taken_suc f (y ∷ xs) ys (suc k) x is below = ap (λ zs. f y ∷ zs) (taken_suc f xs ys k x is (omega (arith, below)))

taken_more : {A : Type 0} {B : Type 0} (f : A → B) (xs ys : List A) (k : ℕ) (x : A) → slice_get (xs ++ ys) k ≡ Some x → k < length xs
    → map f (take k xs) ++ f x ∷ [] ≡ map f (take (k + 1) xs)
taken_more f xs ys k x is below = let more : suc k ≡ k + 1 = omega arith in taken_suc f xs ys k x is below ∙ ap (λ (n : ℕ). map f (take n xs)) more

-- one generation more
pub generations_more : (l : Layout) (k : ℕ) (g : Group) → slice_get (all_groups l) k ≡ Some g → k < length l.groups
    → generations_of (take k l.groups) ++ g.generation ∷ [] ≡ generations_of (take (k + 1) l.groups)
generations_more l k g is below = taken_more (λ (g : Group). g.generation) l.groups (group_list l.inode) k g is below

-- one width more
pub widths_more : (l : Layout) (k : ℕ) (g : Group) → slice_get (all_groups l) k ≡ Some g → k < length l.groups
    → widths_of (take k l.groups) ++ g.n ∷ [] ≡ widths_of (take (k + 1) l.groups)
widths_more l k g is below = taken_more (λ (g : Group). g.n) l.groups (group_list l.inode) k g is below

-- a position of the map is one of all groups
pub group_there : (l : Layout) (k : ℕ) → k < length l.groups → length (all_groups l) ≤ k → ⊥
group_there l k below none = let sum = length-append l.groups (group_list l.inode) in omega (arith, below, none, sum)

taken_all : {A : Type 0} (xs : List A) (n : ℕ) → n ≡ length xs → take n xs ≡ xs
taken_all [] zero is = refl
taken_all [] (suc n) is = absurd (omega (arith, is))
taken_all (x ∷ xs) zero is = absurd (omega (arith, is))
taken_all (x ∷ xs) (suc n) is = ap (λ ys. x ∷ ys) (taken_all xs n (omega (arith, is)))

pub generations_all : (l : Layout) (n : ℕ) → n ≡ length l.groups → generations_of (take n l.groups) ≡ generations_of l.groups
generations_all l n is = ap generations_of (taken_all l.groups n is)

pub widths_all : (l : Layout) (n : ℕ) → n ≡ length l.groups → widths_of (take n l.groups) ≡ widths_of l.groups
widths_all l n is = ap widths_of (taken_all l.groups n is)

-- the generations of a run are a run of the generations
pub generations_of_run : (gs : List Group) (first count : ℕ) → take count (drop first (generations_of gs)) ≡ generations_of (run_of gs first count)
generations_of_run gs first count =
    ap (take count) (drop-map (λ (g : Group). g.generation) first gs) ∙ take-map (λ (g : Group). g.generation) count (drop first gs)
