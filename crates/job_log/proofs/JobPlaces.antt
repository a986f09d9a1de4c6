-- One job among others.
use Rattle.std.proofs.Common.{◌≡◌, ◌≢◌, ℕ, suc, ◌+◌, ◌<◌, Bool, true, false, cond, List, [], ◌∷◌, length, Option, Some, None, refl, sym, ap, ◌∙◌, arith, subst, zero-add}
use Rattle.std.proofs.lemmas.Bool.Decides.{nat_tests}
use Rattle.std.specs.Prelude.{slice_index_or, slice_set, IfSome}
use Rattle.std.specs.List.{AllByRecursion}
use Rattle.job_rules.specs.declared.job.JobId.{JobId}
use Rattle.engine_history.specs.Jobs.{at_job, find_job, is_job}
use Rattle.engine_history.specs.declared.job.JobState.{JobState}
use Rattle.job_log.specs.Jobs.{AreApart, AreOrderedFrom, IsFoundAt, one_later, place_of}

abbrev Jobs : Type 0
Jobs = List JobState

pub number_is : (job : JobId) (j : JobState) → is_job job j ≡ true → j.job.number ≡ job.number
number_is job j named = grind (arith, nat_tests)

-- a job with another number is another
pub not_job : (job : JobId) (j : JobState) → (j.job.number ≡ job.number → ⊥) → is_job job j ≡ false
not_job job j other = elim (is_job job j) as (λ t. is_job job j ≡ t → t ≡ false) [ true ↦ λ named. absurd (other (number_is job j named)) | false ↦ λ _. refl ] refl

-- where no job has the number, a change of it changes nothing
pub at_job-none : (job : JobId) (f : JobState → JobState) (jobs : Jobs) → AllByRecursion (λ (k : JobState). is_job job k ≡ false) jobs → at_job job f jobs ≡ jobs
at_job-none job f [] none = refl
at_job-none job f (j ∷ js) none = ap (λ t. cond t (f j) j ∷ at_job job f js) none.0 ∙ ap (λ l. j ∷ l) (at_job-none job f js none.1)

-- behind a job, none has its number
pub none_behind : (job : JobId) (j : JobState) (jobs : Jobs) → is_job job j ≡ true → AllByRecursion (λ (k : JobState). j.job.number ≢ k.job.number) jobs
    → AllByRecursion (λ (k : JobState). is_job job k ≡ false) jobs
none_behind job j [] named other = tt
none_behind job j (k ∷ ks) named other = (not_job job k (λ same. other.0 (number_is job j named ∙ sym same)), none_behind job j ks named other.1)

some_later : (o : Option ℕ) (at : ℕ) → one_later o ≡ Some at → (n : ℕ) × (o ≡ Some n) × (at ≡ suc n)
some_later None at is = absurd cc
some_later (Some n) at is = (n, refl, cc)

none_later : (o : Option ℕ) → one_later o ≡ None → o ≡ None
none_later None is = refl
none_later (Some n) is = absurd cc

-- where the job has no place, none of these is it
pub none_placed : (job : JobId) (jobs : Jobs) → place_of job jobs ≡ None → AllByRecursion (λ (k : JobState). is_job job k ≡ false) jobs
none_placed job [] none = tt
none_placed job (j ∷ js) none =
    elim (is_job job j) as (λ t. is_job job j ≡ t → cond t (Some 0) (one_later (place_of job js)) ≡ None → AllByRecursion (λ (k : JobState). is_job job k ≡ false) (j ∷ js)) [
      | true ↦ λ _ is. absurd cc
      | false ↦ λ other is. (other, none_placed job js (none_later (place_of job js) is))
    ] refl none

-- what the place of a job tells
pub record IsPlace (job : JobId) (jobs : Jobs) (at : ℕ) (d : JobState) : Type 0 where
  pub within : at < length jobs
  pub named : is_job job (slice_index_or jobs at d) ≡ true
  pub found : find_job job jobs ≡ Some (slice_index_or jobs at d)
  pub set : (f : JobState → JobState) → AreApart jobs → at_job job f jobs ≡ slice_set jobs at (f (slice_index_or jobs at d))

pub placed : (job : JobId) (jobs : Jobs) (at : ℕ) (d : JobState) → place_of job jobs ≡ Some at → IsPlace job jobs at d
placed job [] at d is = absurd cc
placed job (j ∷ js) at d is =
    elim (is_job job j) as (λ t. is_job job j ≡ t → cond t (Some 0) (one_later (place_of job js)) ≡ Some at → IsPlace job (j ∷ js) at d) [
      | true ↦ λ named first. let e : 0 ≡ at = cc in subst (λ n. IsPlace job (j ∷ js) n d) e (here named)
      | false ↦ λ other later. let p = some_later (place_of job js) at later in subst (λ n. IsPlace job (j ∷ js) n d) (sym p.2) (there p.0 other (placed job js p.0 d p.1))
    ] refl is
  where
    here : is_job job j ≡ true → IsPlace job (j ∷ js) 0 d
    here named = record {
      within = omega arith;
      named = named;
      found = ap (λ t. cond t (Some j) (find_job job js)) named;
      set = λ f apart. ap (λ t. cond t (f j) j ∷ at_job job f js) named ∙ ap (λ l. f j ∷ l) (at_job-none job f js (none_behind job j js named apart.0));
    }

    there : (n : ℕ) → is_job job j ≡ false → IsPlace job js n d → IsPlace job (j ∷ js) (suc n) d
    there n other p = record {
      within = omega (arith, p.within);
      named = p.named;
      found = ap (λ t. cond t (Some j) (find_job job js)) other ∙ p.found;
      set = λ f apart. ap (λ t. cond t (f j) j ∷ at_job job f js) other ∙ ap (λ l. j ∷ l) (p.set f apart.1);
    }

-- what holds of the job that is found holds of each of its number
pub found_alone : (P : JobState → Type 0) (job : JobId) (jobs : Jobs) → AreApart jobs → IfSome (find_job job jobs) P → AllByRecursion (λ (k : JobState). is_job job k ≡ true → P k) jobs
found_alone P job [] apart found = tt
found_alone P job (j ∷ js) apart found =
    elim (is_job job j) as (λ t. is_job job j ≡ t → IfSome (cond t (Some j) (find_job job js)) P → AllByRecursion (λ (k : JobState). is_job job k ≡ true → P k) (j ∷ js)) [
      | true ↦ λ named here. ((λ _. here), none_true js (none_behind job j js named apart.0))
      | false ↦ λ other later. ((λ named. absurd (clash other named)), found_alone P job js apart.1 later)
    ] refl found
  where
    clash : {t : Bool} → t ≡ false → t ≡ true → ⊥
    clash fails passes = cc

    none_true : (ks : Jobs) → AllByRecursion (λ (k : JobState). is_job job k ≡ false) ks → AllByRecursion (λ (k : JobState). is_job job k ≡ true → P k) ks
    none_true [] none = tt
    none_true (k ∷ ks) none = ((λ named. absurd (clash none.0 named)), none_true ks none.1)

-- ---- a change of one job

pub all-at_job : (P : JobState → Type 0) (job : JobId) (f : JobState → JobState) (jobs : Jobs) → AllByRecursion (λ (j : JobState). is_job job j ≡ true → P j → P (f j)) jobs
    → AllByRecursion P jobs → AllByRecursion P (at_job job f jobs)
all-at_job P job f [] keeps all = tt
all-at_job P job f (j ∷ js) keeps all = (
  elim (is_job job j) as (λ t. is_job job j ≡ t → P (cond t (f j) j)) [ true ↦ λ named. keeps.0 named all.0 | false ↦ λ _. all.0 ] refl,
  all-at_job P job f js keeps.1 all.1,
)

pub every_job : (P : JobState → Type 0) → ((j : JobState) → P j) → (jobs : Jobs) → AllByRecursion P jobs
every_job P so [] = tt
every_job P so (j ∷ js) = (so j, every_job P so js)

number-at : (job : JobId) (f : JobState → JobState) (j : JobState) → (f j).job ≡ j.job → (cond (is_job job j) (f j) j).job.number ≡ j.job.number
number-at job f j same = elim (is_job job j) as (λ t. (cond t (f j) j).job.number ≡ j.job.number) [ true ↦ ap (λ (x : JobId). x.number) same | false ↦ refl ]

pub apart-at_job : (job : JobId) (f : JobState → JobState) (jobs : Jobs) → ((j : JobState) → (f j).job ≡ j.job) → AreApart jobs → AreApart (at_job job f jobs)
apart-at_job job f [] same apart = tt
apart-at_job job f (j ∷ js) same apart = (behind js apart.0, apart-at_job job f js same apart.1)
  where
    behind : (ks : Jobs) → AllByRecursion (λ (k : JobState). j.job.number ≢ k.job.number) ks → AllByRecursion (λ (k : JobState). (cond (is_job job j) (f j) j).job.number ≢ k.job.number) (at_job job f ks)
    behind [] other = tt
    behind (k ∷ ks) other = ((λ eq. other.0 (sym (number-at job f j (same j)) ∙ eq ∙ number-at job f k (same k))), behind ks other.1)

pub ordered-at_job : (n : ℕ) (job : JobId) (f : JobState → JobState) (jobs : Jobs) → ((j : JobState) → (f j).order ≡ j.order) → AreOrderedFrom n jobs → AreOrderedFrom n (at_job job f jobs)
ordered-at_job n job f [] same ordered = tt
ordered-at_job n job f (j ∷ js) same ordered = (
  elim (is_job job j) as (λ t. (cond t (f j) j).order ≡ n) [ true ↦ same j ∙ ordered.0 | false ↦ ordered.0 ],
  ordered-at_job (suc n) job f js same ordered.1,
)

pub length-at_job : (job : JobId) (f : JobState → JobState) (jobs : Jobs) → length (at_job job f jobs) ≡ length jobs
length-at_job job f [] = refl
length-at_job job f (j ∷ js) = ap suc (length-at_job job f js)

-- the place counted from further on
abbrev pub later_by : ℕ → Option ℕ → Option ℕ
later_by n None = None
later_by n (Some k) = Some (n + k)

pub later_by-none : (o : Option ℕ) → later_by 0 o ≡ o
later_by-none None = refl
later_by-none (Some k) = ap (λ (x : ℕ). Some x) (zero-add k)

pub later_by-one : (n : ℕ) (o : Option ℕ) → later_by n (one_later o) ≡ later_by (n + 1) o
later_by-one n None = refl
later_by-one n (Some k) = let same : n + suc k ≡ n + 1 + k = omega arith in ap (λ (x : ℕ). Some x) same

pub placed_within : (job : JobId) (jobs : Jobs) (at : ℕ) → place_of job jobs ≡ Some at → at < length jobs
placed_within job [] at is = absurd cc
placed_within job (j ∷ js) at is = (placed job (j ∷ js) at j is).within

pub placed_some : (job : JobId) (jobs : Jobs) (o : Option ℕ) → o ≡ place_of job jobs → IfSome o (λ at. at < length jobs)
placed_some job jobs None is = tt
placed_some job jobs (Some at) is = placed_within job jobs at (sym is)

none_found : (job : JobId) (jobs : Jobs) → AllByRecursion (λ (k : JobState). is_job job k ≡ false) jobs → find_job job jobs ≡ None
none_found job [] none = refl
none_found job (j ∷ js) none = ap (λ t. cond t (Some j) (find_job job js)) none.0 ∙ none_found job js none.1

pub found_placed : (job : JobId) (jobs : Jobs) (o : Option ℕ) → o ≡ place_of job jobs → IsFoundAt job jobs o
found_placed job jobs None is = none_found job jobs (none_placed job jobs (sym is))
found_placed job jobs (Some at) is = λ d. (placed job jobs at d (sym is)).found
