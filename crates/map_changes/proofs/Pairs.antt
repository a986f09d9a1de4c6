-- Lists any two of whose elements are related, the earlier to the later.
use Rattle.std.proofs.Common.{ℕ, zero, suc, List, [], ◌∷◌, ◌++◌, take, drop}
use Rattle.std.specs.List.{AllByRecursion}

pub All-append : {A : Type 0} (P : A → Type 0) (xs ys : List A) → AllByRecursion P xs → AllByRecursion P ys → AllByRecursion P (xs ++ ys)
All-append P [] ys front back = back
All-append P (x ∷ xs) ys front back = (front.0, All-append P xs ys front.1 back)

pub All-left : {A : Type 0} (P : A → Type 0) (xs ys : List A) → AllByRecursion P (xs ++ ys) → AllByRecursion P xs
All-left P [] ys all = tt
All-left P (x ∷ xs) ys all = (all.0, All-left P xs ys all.1)

pub All-right : {A : Type 0} (P : A → Type 0) (xs ys : List A) → AllByRecursion P (xs ++ ys) → AllByRecursion P ys
All-right P [] ys all = all
All-right P (x ∷ xs) ys all = All-right P xs ys all.1

pub All-then : {A : Type 0} (P Q : A → Type 0) (xs : List A) → ((x : A) → P x → Q x) → AllByRecursion P xs → AllByRecursion Q xs
All-then P Q [] then all = tt
All-then P Q (x ∷ xs) then all = (then x all.0, All-then P Q xs then all.1)

pub All-take : {A : Type 0} (P : A → Type 0) (n : ℕ) (xs : List A) → AllByRecursion P xs → AllByRecursion P (take n xs)
All-take P zero xs all = tt
All-take P (suc n) [] all = tt
All-take P (suc n) (x ∷ xs) all = (all.0, All-take P n xs all.1)

pub All-drop : {A : Type 0} (P : A → Type 0) (n : ℕ) (xs : List A) → AllByRecursion P xs → AllByRecursion P (drop n xs)
All-drop P zero xs all = all
All-drop P (suc n) [] all = tt
All-drop P (suc n) (x ∷ xs) all = All-drop P n xs all.1

abbrev pub Pairs : {A : Type 0} → List A → (A → A → Type 0) → Type 0
Pairs [] R = Unit {0}
Pairs (x ∷ xs) R = AllByRecursion (R x) xs × Pairs xs R

-- each of the first is related to each of the second
abbrev pub Cross : {A : Type 0} → List A → List A → (A → A → Type 0) → Type 0
Cross xs ys R = AllByRecursion (λ x. AllByRecursion (R x) ys) xs

pub Pairs-append : {A : Type 0} (xs ys : List A) (R : A → A → Type 0) → Pairs xs R → Pairs ys R → Cross xs ys R → Pairs (xs ++ ys) R
Pairs-append [] ys R front back cross = back
Pairs-append (x ∷ xs) ys R front back cross = (All-append (R x) xs ys front.0 cross.0, Pairs-append xs ys R front.1 back cross.1)

pub Pairs-left : {A : Type 0} (xs ys : List A) (R : A → A → Type 0) → Pairs (xs ++ ys) R → Pairs xs R
Pairs-left [] ys R pairs = tt
Pairs-left (x ∷ xs) ys R pairs = (All-left (R x) xs ys pairs.0, Pairs-left xs ys R pairs.1)

pub Pairs-right : {A : Type 0} (xs ys : List A) (R : A → A → Type 0) → Pairs (xs ++ ys) R → Pairs ys R
Pairs-right [] ys R pairs = pairs
Pairs-right (x ∷ xs) ys R pairs = Pairs-right xs ys R pairs.1

pub Pairs-cross : {A : Type 0} (xs ys : List A) (R : A → A → Type 0) → Pairs (xs ++ ys) R → Cross xs ys R
Pairs-cross [] ys R pairs = tt
Pairs-cross (x ∷ xs) ys R pairs = (All-right (R x) xs ys pairs.0, Pairs-cross xs ys R pairs.1)

-- the relation read from the other side
pub Cross-turned : {A : Type 0} (xs ys : List A) (R Q : A → A → Type 0) → ((x y : A) → R x y → Q y x) → Cross xs ys R → Cross ys xs Q
Cross-turned xs [] R Q turn cross = tt
Cross-turned xs (y ∷ ys) R Q turn cross = (first xs cross, Cross-turned xs ys R Q turn (rest xs cross))
  where
    first : (zs : List _) → Cross zs (y ∷ ys) R → AllByRecursion (Q y) zs
    first [] all = tt
    first (z ∷ zs) all = (turn z y all.0.0, first zs all.1)

    rest : (zs : List _) → Cross zs (y ∷ ys) R → Cross zs ys R
    rest [] all = tt
    rest (z ∷ zs) all = (all.0.1, rest zs all.1)
