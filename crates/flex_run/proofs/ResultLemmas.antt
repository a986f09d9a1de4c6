-- Answers that say less.
use Rattle.std.proofs.Common.{Result, Ok, Err, IfOk, OnOk}

pub IfOk-weaken : {T E : Type 0} (r : Result T E) (P Q : T → Type 0) → ((x : T) → P x → Q x) → IfOk r P → IfOk r Q
IfOk-weaken (Ok x) P Q f h = f x h
IfOk-weaken (Err e) P Q f h = tt

-- what is known of the value, and what is known where there is one
pub IfOk-both : {T E : Type 0} (r : Result T E) (P Q : T → Type 0) (K : Type 0) → ((x : T) → P x → K → Q x) → IfOk r P → OnOk r K → IfOk r Q
IfOk-both (Ok x) P Q K f h k = f x h k
IfOk-both (Err e) P Q K f h k = tt

-- two facts of an answer with a value
pub OnOk-both : {T E : Type 0} (r : Result T E) (P Q : Type 0) → OnOk r P → OnOk r Q → OnOk r (P × Q)
OnOk-both (Ok x) P Q p q = (p, q)
OnOk-both (Err e) P Q p q = tt
