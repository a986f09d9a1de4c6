-- What a call that failed, or found nothing, tells.
use Rattle.std.proofs.Common.{◌≡◌, Option, None, Some, IsSomeAnd, Result, Ok, Err, IfErr, refl, sym, subst}
use Rattle.std.specs.Result.{IsErrAnd}
use Rattle.report_blocks.specs.declared.stop.Stop.{Stop}

-- nothing was found of which the fact could hold
pub none_found : {T : Type 0} (o : Option T) (P : T → Type 0) → o ≡ None → IsSomeAnd o P → ⊥
none_found o P is h = subst (λ (x : Option _). IsSomeAnd x P) is h

pub nothing_found : {T : Type 0} (o : Option T) (P : T → Type 0) → ((x : T) → o ≡ Some x → ⊥) → IsSomeAnd o P → ⊥
nothing_found None P none h = h
nothing_found (Some x) P none h = none x refl

-- a stop is handed on
pub stops_too : {U : Type 0} (r : Result U Stop) (s : Stop) (P : Stop → Type 0) → IsErrAnd r (λ f. f ≡ s) → P s → IfErr r P
stops_too (Ok z) s P failed h = absurd failed
stops_too (Err f) s P failed h = subst P (sym failed) h
