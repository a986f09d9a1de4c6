-- What holds of all elements of a list, when one leaves its midst or comes there.
use Rattle.std.proofs.Common.{List, [], ◌∷◌, ◌++◌}
use Rattle.std.specs.List.{All}
use Rattle.std.proofs.lemmas.List.Elements.{All-cons, All-head, All-nil, All-tail}

pub All-without : {X : Type 0} (P : X → Type 0) (xs ys : List X) (x : X) → All P (xs ++ x ∷ ys) → All P (xs ++ ys)
All-without P [] ys x all = All-tail P x ys all
All-without P (z ∷ xs) ys x all = All-cons P z (xs ++ ys) (All-head P z (xs ++ x ∷ ys) all) (All-without P xs ys x (All-tail P z (xs ++ x ∷ ys) all))

pub All-midst : {X : Type 0} (P : X → Type 0) (xs ys : List X) (x : X) → All P (xs ++ x ∷ ys) → P x
All-midst P [] ys x all = All-head P x ys all
All-midst P (z ∷ xs) ys x all = All-midst P xs ys x (All-tail P z (xs ++ x ∷ ys) all)

pub All-right : {X : Type 0} (P : X → Type 0) (xs ys : List X) → All P (xs ++ ys) → All P ys
All-right P [] ys all = all
All-right P (z ∷ xs) ys all = All-right P xs ys (All-tail P z (xs ++ ys) all)

pub All-with : {X : Type 0} (P : X → Type 0) (xs ys : List X) (x : X) → P x → All P (xs ++ ys) → All P (xs ++ x ∷ ys)
All-with P [] ys x here all = All-cons P x ys here all
All-with P (z ∷ xs) ys x here all = All-cons P z (xs ++ x ∷ ys) (All-head P z (xs ++ ys) all) (All-with P xs ys x here (All-tail P z (xs ++ ys) all))

pub All-left : {X : Type 0} (P : X → Type 0) (xs ys : List X) → All P (xs ++ ys) → All P xs
All-left P [] ys all = All-nil P
All-left P (z ∷ xs) ys all = All-cons P z xs (All-head P z (xs ++ ys) all) (All-left P xs ys (All-tail P z (xs ++ ys) all))
