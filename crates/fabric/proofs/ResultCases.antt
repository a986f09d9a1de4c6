-- What follows from what a call says of each outcome.
use Rattle.std.proofs.Common.{Result, Ok, Err, IfOk, IfErr, OnOk, OnErr}

module _ {T E : Type 0} where
  -- a fact without the value, at one outcome
  pub on_ok_if : (r : Result T E) (P : T → Type 0) (Q : Type 0) → ((x : T) → P x → Q) → IfOk r P → OnOk r Q
  on_ok_if (Ok x) P Q f told = f x told
  on_ok_if (Err y) P Q f told = tt

  pub on_err_if : (r : Result T E) (P : E → Type 0) (Q : Type 0) → ((y : E) → P y → Q) → IfErr r P → OnErr r Q
  on_err_if (Ok x) P Q f told = tt
  on_err_if (Err y) P Q f told = f y told

  -- what follows from each outcome's value
  pub either_way : (r : Result T E) (P : T → Type 0) (Q : E → Type 0) (C : Type 0) → ((x : T) → P x → C) → ((y : E) → Q y → C) → IfOk r P → IfErr r Q → C
  either_way (Ok x) P Q C f g ok err = f x ok
  either_way (Err y) P Q C f g ok err = g y err

  -- what follows from each outcome
  pub whichever : (r : Result T E) (P Q C : Type 0) → (P → C) → (Q → C) → OnOk r P → OnErr r Q → C
  whichever (Ok x) P Q C f g ok err = f ok
  whichever (Err y) P Q C f g ok err = g err

  -- what follows from the answer's value, and from a refusal
  pub answered : (r : Result T E) (P : T → Type 0) (Q C : Type 0) → ((x : T) → P x → C) → (Q → C) → IfOk r P → OnErr r Q → C
  answered (Ok x) P Q C f g ok err = f x ok
  answered (Err y) P Q C f g ok err = g err
