-- Lists that are put in order, and lists that differ.
use Rattle.std.proofs.Common.{◌≡◌, ℕ, zero, suc, ◌+◌, ◌<◌, ◌≤◌, true, false, cond, List, [], ◌∷◌, length, drop, Option, Some, None, refl, ap, ◌∙◌, arith, nat_lt, nat_eq}
use Rattle.std.proofs.lemmas.Bool.Decides.{nat_tests}
use Rattle.std.specs.List.{insert}
use Rattle.checkpoints.specs.declared.checkpoint.JobSaved.{JobSaved}
use Rattle.job_log.specs.Jobs.{one_later}
use Rattle.job_log.proofs.JobPlaces.{later_by}
use Rattle.engine_core.specs.SavedJobs.{before_in, differs_at, put}

pub insert_put : (s : JobSaved) (saved : List JobSaved) → insert saved (before_in s.job saved) s ≡ put s saved
insert_put s [] = refl
insert_put s (t ∷ ts) =
    elim (nat_lt t.job.number s.job.number) as (λ b. insert (t ∷ ts) (cond b (suc (before_in s.job ts)) 0) s ≡ cond b (t ∷ put s ts) (s ∷ t ∷ ts)) [
      | true ↦ ap (λ l. t ∷ l) (insert_put s ts)
      | false ↦ refl
    ]

none_later : (o : Option ℕ) → one_later o ≡ None → o ≡ None
none_later None is = refl
none_later (Some n) is = absurd cc

pub differs_none : (xs ys : List ℕ) → differs_at xs ys ≡ None → xs ≡ ys
differs_none [] [] none = refl
differs_none [] (y ∷ ys) none = absurd cc
differs_none (x ∷ xs) [] none = absurd cc
differs_none (x ∷ xs) (y ∷ ys) none =
    elim (nat_eq x y) as (λ t. nat_eq x y ≡ t → cond t (one_later (differs_at xs ys)) (Some 0) ≡ None → x ∷ xs ≡ y ∷ ys) [
      | true ↦ λ same later. (λ i. equal x y same i ∷ differs_none xs ys (none_later (differs_at xs ys) later) i)
      | false ↦ λ _ some. absurd cc
    ] refl none
  where
    equal : (m n : ℕ) → nat_eq m n ≡ true → m ≡ n
    equal m n test = grind (arith, nat_tests)

at_zero : (at : ℕ) → later_by at (Some 0) ≡ Some at
at_zero at = let same : at + 0 ≡ at = omega arith in ap (λ (n : ℕ). Some n) same

drop_past : (at : ℕ) (xs : List ℕ) → length xs ≤ at → drop at xs ≡ []
drop_past zero [] past = refl
drop_past (suc at) [] past = refl
drop_past zero (x ∷ xs) past = absurd (omega (arith, past))
drop_past (suc at) (x ∷ xs) past = drop_past at xs (omega (arith, past))

drop_some : (at : ℕ) (xs : List ℕ) → at < length xs → (y : ℕ) × (ys : List ℕ) × (drop at xs ≡ y ∷ ys)
drop_some at [] within = absurd (omega (arith, within))
drop_some zero (x ∷ xs) within = (x, xs, refl)
drop_some (suc at) (x ∷ xs) within = drop_some at xs (omega (arith, within))

-- the second is shorter
pub differs_short : (at : ℕ) (xs ys : List ℕ) → at < length xs → length ys ≤ at → later_by at (differs_at (drop at xs) (drop at ys)) ≡ Some at
differs_short at xs ys within past =
    let some = drop_some at xs within in
    ap (λ l. later_by at (differs_at l (drop at ys))) some.2 ∙ ap (λ l. later_by at (differs_at (some.0 ∷ some.1) l)) (drop_past at ys past) ∙ at_zero at

-- the first is shorter
pub differs_long : (at : ℕ) (xs ys : List ℕ) → length xs ≤ at → at < length ys → later_by at (differs_at (drop at xs) (drop at ys)) ≡ Some at
differs_long at xs ys past within =
    let some = drop_some at ys within in
    ap (λ l. later_by at (differs_at l (drop at ys))) (drop_past at xs past) ∙ ap (λ l. later_by at (differs_at [] l)) some.2 ∙ at_zero at
