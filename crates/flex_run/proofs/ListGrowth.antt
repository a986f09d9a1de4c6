-- Lists that grow at their end.
use Rattle.std.proofs.Common.{◌≡◌, ℕ, ◌+◌, Bool, cond, List, [], ◌∷◌, ◌++◌, map, count_by, length, get_or, IsTrue, refl, ap, sym, ◌∙◌, arith}
use Rattle.std.specs.Bool.{Decides}
use Rattle.std.specs.List.{AllByRecursion}
use Rattle.std.proofs.lemmas.List.Sums.{sum_by-append}

pub All-push : {X : Type 0} (P : X → Type 0) (xs : List X) (x : X) → AllByRecursion P xs → P x → AllByRecursion P (xs ++ x ∷ [])
All-push P [] x all here = (here, tt)
All-push P (y ∷ ys) x all here = (all.0, All-push P ys x all.1 here)

pub All-weaken : {X : Type 0} (P Q : X → Type 0) → ((x : X) → P x → Q x) → (xs : List X) → AllByRecursion P xs → AllByRecursion Q xs
All-weaken P Q f [] all = tt
All-weaken P Q f (x ∷ xs) all = (f x all.0, All-weaken P Q f xs all.1)

pub All-both : {X : Type 0} (P Q R : X → Type 0) → ((x : X) → P x → Q x → R x) → (xs : List X)
    → AllByRecursion P xs → AllByRecursion Q xs → AllByRecursion R xs
All-both P Q R f [] p q = tt
All-both P Q R f (x ∷ xs) p q = (f x p.0 q.0, All-both P Q R f xs p.1 q.1)

pub All-map : {X Y : Type 0} (P : Y → Type 0) (f : X → Y) → (xs : List X) → AllByRecursion (λ x. P (f x)) xs → AllByRecursion P (map f xs)
All-map P f [] all = tt
All-map P f (x ∷ xs) all = (all.0, All-map P f xs all.1)

pub map-push : {X Y : Type 0} (f : X → Y) (xs : List X) (x : X) → map f (xs ++ x ∷ []) ≡ map f xs ++ f x ∷ []
map-push f [] x = refl
map-push f (y ∷ ys) x = ap (λ l. f y ∷ l) (map-push f ys x)

pub count_by-push : {X : Type 0} (p : X → Bool) (xs : List X) (x : X) → count_by p (xs ++ x ∷ []) ≡ count_by p xs + cond (p x) 1 0
count_by-push p xs x = grind (arith, sum_by-append (λ y. cond (p y) 1 0) xs (x ∷ []))

-- a list of one element
pub map-one : {X Y : Type 0} (f : X → Y) (xs : List X) (x : X) → length xs ≡ 1 → x ≡ get_or xs 0 x → map f xs ≡ f x ∷ []
map-one f [] x one here = absurd (omega arith)
map-one f (y ∷ []) x one here = ap (λ z. f z ∷ []) (sym here)
map-one f (y ∷ z ∷ zs) x one here = absurd (omega arith)

-- the only word is this text
pub only_word : {X : Type 0} (f : X → List ℕ) (words : List X) (shown : List ℕ) (text : List ℕ) (w : X) (b : Bool) → Decides b (shown ≡ text) → shown ≡ f w → map f words ≡ f w ∷ []
    → (IsTrue b → map f words ≡ text ∷ []) × (map f words ≡ text ∷ [] → IsTrue b)
only_word f words shown text w b decides value one = (
  λ passes. one ∙ ap (λ l. l ∷ []) (sym value ∙ decides.0 passes),
  λ whole. decides.1 (value ∙ (let joined = sym one ∙ whole in cc)),
)
