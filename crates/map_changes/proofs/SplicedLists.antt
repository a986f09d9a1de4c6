-- Lists in which others stand in the place of a run.
use Rattle.std.proofs.Common.{◌≡◌, ℕ, ◌+◌, List, ◌++◌, map, take, drop, sym, ap, ◌∙◌}
use Rattle.std.specs.List.{AllByRecursion}
use Rattle.std.proofs.lemmas.List.{map-append, take-map, drop-map, take-append-drop, drop-drop}
use Rattle.map_changes.specs.ChangedMaps.{spliced}
use Rattle.map_changes.proofs.Pairs.{All-append, All-take, All-drop}

-- a list in three parts
pub in_three : {A : Type 0} (xs : List A) (first count : ℕ) → xs ≡ take first xs ++ (take count (drop first xs) ++ drop (first + count) xs)
in_three xs first count =
    sym (take-append-drop first xs)
    ∙ ap (λ l. take first xs ++ l) (sym (take-append-drop count (drop first xs)) ∙ ap (λ l. take count (drop first xs) ++ l) (drop-drop count first xs))

pub map-spliced : {A B : Type 0} (f : A → B) (xs : List A) (first count : ℕ) (new : List A) → map f (spliced xs first count new) ≡ spliced (map f xs) first count (map f new)
map-spliced f xs first count new =
    map-append f (take first xs) (new ++ drop (first + count) xs)
    ∙ ap (λ l. map f (take first xs) ++ l) (map-append f new (drop (first + count) xs))
    ∙ ap (λ l. l ++ (map f new ++ map f (drop (first + count) xs))) (sym (take-map f first xs))
    ∙ ap (λ l. take first (map f xs) ++ (map f new ++ l)) (sym (drop-map f (first + count) xs))

pub All-spliced : {A : Type 0} (P : A → Type 0) (xs : List A) (first count : ℕ) (new : List A) → AllByRecursion P xs → AllByRecursion P new → AllByRecursion P (spliced xs first count new)
All-spliced P xs first count new old fresh =
    All-append P (take first xs) (new ++ drop (first + count) xs) (All-take P first xs old) (All-append P new (drop (first + count) xs) fresh (All-drop P (first + count) xs old))
