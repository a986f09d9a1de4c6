-- The first item that is out.
use Rattle.std.proofs.Common.{◌≡◌, ◌≢◌, ℕ, zero, suc, ◌+◌, ◌<◌, ◌≤◌, ◌⊎◌, inl, inr, Bool, true, false, cond, not, ◌&&◌, ◌||◌, List, [], ◌∷◌, Option, Some, None, refl, sym, ap, ◌∙◌, subst, arith, eq-eqb}
use Rattle.std.proofs.lemmas.Bool.Decides.{nat_tests}
use Rattle.std.specs.Prelude.{nat_lt}
use Rattle.std.specs.List.{AllByRecursion, list_any, position_or_len}
use Rattle.job_rules.specs.declared.job.JobId.{JobId}
use Rattle.checkpoints.specs.declared.checkpoint.ItemSaved.{ItemSaved}
use Rattle.checkpoints.specs.declared.checkpoint.ItemSaved.TheVariants.{ToDo, Out, Whole, Lost, Short}
use Rattle.engine_history.specs.Items.{count_out, is_out}
use Rattle.engine_history.specs.Jobs.{find_job, is_job}
use Rattle.engine_history.specs.Steps.{is_item_out, out_among, out_of}
use Rattle.engine_history.specs.declared.job.JobState.{JobState}
use Rattle.engine_history.proofs.RunningJobs.{any-count}
use Rattle.job_log.specs.Jobs.{AreApart}
use Rattle.job_log.proofs.JobPlaces.{not_job}
use Rattle.engine_core.specs.Outs.{IsFirstOut, first_out_of, is_lower, job_found, lowest_out, out_in, out_of_work}
use Rattle.engine_core.specs.Tasks.{next_among, work_from, work_in}
use Rattle.engine_core.specs.declared.work.Work.{Work}
use Rattle.engine_core.proofs.DueEntries.{found_job}

clash : {t : Bool} → t ≡ true → t ≡ false → ⊥
clash passes fails = cc

less : (m n : ℕ) → nat_lt m n ≡ true → m < n
less m n test = grind (arith, nat_tests)

not_less : (m n : ℕ) → nat_lt m n ≡ false → n ≤ m
not_less m n test = grind (arith, nat_tests)

same_job : (a b : JobId) → (let one : Option JobId = Some a in one) ≡ Some b → a ≡ b
same_job a b same = cc

same_state : (a b : JobState) → (let one : Option JobState = Some a in one) ≡ Some b → a ≡ b
same_state a b same = cc

-- ---- the lowest job with items out

abbrev IsBelow : Option JobId → JobId → Type 0
IsBelow None best = Unit {0}
IsBelow (Some l) best = best.number ≤ l.number

-- a job of this number has items out
abbrev HasOut : JobId → List JobState → Type 0
HasOut best [] = ⊥
HasOut best (j ∷ js) = ((j.job ≡ best) × (list_any is_out j.items ≡ true)) ⊎ HasOut best js

-- those with items out have no lower number
abbrev AreAbove : JobId → List JobState → Type 0
AreAbove best jobs = AllByRecursion (λ (j : JobState). list_any is_out j.items ≡ true → best.number ≤ j.job.number) jobs

record IsLowest (jobs : List JobState) (lowest : Option JobId) (best : JobId) : Type 0 where
  below : IsBelow lowest best
  above : AreAbove best jobs
  from : (lowest ≡ Some best) ⊎ HasOut best jobs

below_taken : (lowest : Option JobId) (job best : JobId) → is_lower lowest job ≡ true → best.number ≤ job.number → IsBelow lowest best
below_taken None job best lower at = tt
below_taken (Some l) job best lower at = let first = less job.number l.number lower in omega (arith, first, at)

above_left : (lowest : Option JobId) (job best : JobId) → is_lower lowest job ≡ false → IsBelow lowest best → best.number ≤ job.number
above_left None job best later below = absurd cc
above_left (Some l) job best later below = let behind = not_less job.number l.number later in omega (arith, behind, below)

below_itself : (lowest : Option JobId) (best : JobId) → lowest ≡ Some best → IsBelow lowest best
below_itself None best is = tt
below_itself (Some l) best is = let same = ap (λ (x : JobId). x.number) (same_job l best is) in omega (arith, same)

lowest_step : (j : JobState) (js : List JobState) (lowest : Option JobId) (best : JobId) (out lower : Bool) → nat_lt 0 (count_out j.items) ≡ out → is_lower lowest j.job ≡ lower
    → ((next : Option JobId) → lowest_out js next ≡ Some best → IsLowest js next best) → lowest_out js (cond (out && lower) (Some j.job) lowest) ≡ Some best → IsLowest (j ∷ js) lowest best
lowest_step j js lowest best true true out lower rest is =
    let r = rest (Some j.job) is in record { below = below_taken lowest j.job best lower r.below; above = ((λ _. r.below), r.above); from = taken r.from }
  where
    taken : ((let own : Option JobId = Some j.job in own) ≡ Some best) ⊎ HasOut best js → (lowest ≡ Some best) ⊎ HasOut best (j ∷ js)
    taken (inl own) = inr (inl (same_job j.job best own, sym (any-count j.items) ∙ out))
    taken (inr has) = inr (inr has)
lowest_step j js lowest best true false out lower rest is =
    let r = rest lowest is in record { below = r.below; above = ((λ _. above_left lowest j.job best lower r.below), r.above); from = later r.from }
  where
    later : (lowest ≡ Some best) ⊎ HasOut best js → (lowest ≡ Some best) ⊎ HasOut best (j ∷ js)
    later (inl own) = inl own
    later (inr has) = inr (inr has)
lowest_step j js lowest best false lower out is_low rest is =
    let r = rest lowest is in record { below = r.below; above = ((λ any. absurd (clash (any-count j.items ∙ any) out)), r.above); from = later r.from }
  where
    later : (lowest ≡ Some best) ⊎ HasOut best js → (lowest ≡ Some best) ⊎ HasOut best (j ∷ js)
    later (inl own) = inl own
    later (inr has) = inr (inr has)

lowest_is : (jobs : List JobState) (lowest : Option JobId) (best : JobId) → lowest_out jobs lowest ≡ Some best → IsLowest jobs lowest best
lowest_is [] lowest best is = record { below = below_itself lowest best is; above = tt; from = inl is }
lowest_is (j ∷ js) lowest best is = lowest_step j js lowest best (nat_lt 0 (count_out j.items)) (is_lower lowest j.job) refl refl (λ next. lowest_is js next best) is

some_none : (job : JobId) → (let one : Option JobId = Some job in one) ≡ None → ⊥
some_none job none = cc

-- where there is none, no job has items out
abbrev AreIdle : List JobState → Type 0
AreIdle jobs = AllByRecursion (λ (j : JobState). list_any is_out j.items ≡ false) jobs

none_step : (j : JobState) (js : List JobState) (lowest : Option JobId) (out lower : Bool) → nat_lt 0 (count_out j.items) ≡ out → is_lower lowest j.job ≡ lower
    → ((next : Option JobId) → lowest_out js next ≡ None → (next ≡ None) × AreIdle js) → lowest_out js (cond (out && lower) (Some j.job) lowest) ≡ None → (lowest ≡ None) × AreIdle (j ∷ js)
none_step j js lowest true true out lower rest is = absurd (some_none j.job (rest (Some j.job) is).0)
none_step j js lowest true false out lower rest is = absurd (clash (ap (λ (o : Option JobId). is_lower o j.job) (rest lowest is).0) lower)
none_step j js lowest false lower out is_low rest is = let r = rest lowest is in (r.0, (sym (any-count j.items) ∙ out, r.1))

none_is : (jobs : List JobState) (lowest : Option JobId) → lowest_out jobs lowest ≡ None → (lowest ≡ None) × AreIdle jobs
none_is [] lowest is = (is, tt)
none_is (j ∷ js) lowest is = none_step j js lowest (nat_lt 0 (count_out j.items)) (is_lower lowest j.job) refl refl (λ next. none_is js next) is

-- ---- its first item

out_any : (item : ℕ) (items : List ItemSaved) → out_among item items ≡ true → list_any is_out items ≡ true
out_any item [] out = absurd cc
out_any zero (i ∷ is) out = ap (λ t. t || list_any is_out is) out
out_any (suc item) (i ∷ is) out = elim (is_out i) as (λ t. t || list_any is_out is ≡ true) [ true ↦ refl | false ↦ out_any item is out ]

record IsOutAt (place : ℕ) (items : List ItemSaved) : Type 0 where
  next : ℕ
  at : next_among place items ≡ Some next

out_here : (i : ItemSaved) (is : List ItemSaved) → is_out i ≡ true → IsOutAt zero (i ∷ is)
out_here (ToDo n) is out = absurd cc
out_here (Out n) is out = record { next = n; at = refl }
out_here Whole is out = absurd cc
out_here Lost is out = absurd cc
out_here Short is out = absurd cc

at_first : (items : List ItemSaved) → list_any is_out items ≡ true → IsOutAt (position_or_len is_out items) items
at_first [] any = absurd cc
at_first (i ∷ is) any =
    elim (is_out i) as (λ t. is_out i ≡ t → list_any is_out (i ∷ is) ≡ true → IsOutAt (cond (not t) (1 + position_or_len is_out is) 0) (i ∷ is)) [
      | true ↦ λ here _. out_here i is here
      | false ↦ λ other some.
          let r = at_first is (subst (λ t. t || list_any is_out is ≡ true) other some) in
          let later : 1 + position_or_len is_out is ≡ suc (position_or_len is_out is) = omega arith in record { next = r.next; at = ap (λ m. next_among m (i ∷ is)) later ∙ r.at }
    ] refl any

first_below : (items : List ItemSaved) (item : ℕ) → out_among item items ≡ true → position_or_len is_out items ≤ item
first_below [] item out = absurd cc
first_below (i ∷ is) zero out =
    elim (is_out i) as (λ t. is_out i ≡ t → cond (not t) (1 + position_or_len is_out is) 0 ≤ 0) [ true ↦ λ _. omega arith | false ↦ λ other. absurd (clash out other) ] refl
first_below (i ∷ is) (suc item) out =
    let later = first_below is item out in
    elim (is_out i) as (λ t. cond (not t) (1 + position_or_len is_out is) 0 ≤ suc item) [ true ↦ omega arith | false ↦ omega (arith, later) ]

-- ---- among the jobs

found_all : (P : JobState → Type 0) (job : JobId) (jobs : List JobState) (j : JobState) → AllByRecursion P jobs → find_job job jobs ≡ Some j → P j
found_all P job [] j all found = absurd cc
found_all P job (k ∷ ks) j all found =
    elim (is_job job k) as (λ t. cond t (Some k) (find_job job ks) ≡ Some j → P j) [ true ↦ λ here. subst P (same_state k j here) all.0 | false ↦ λ later. found_all P job ks j all.1 later ] found

record IsFound (jobs : List JobState) (job : JobId) (item : ℕ) : Type 0 where
  state : JobState
  found : find_job job jobs ≡ Some state
  out : out_among item state.items ≡ true

item_found : (jobs : List JobState) (job : JobId) (item : ℕ) → is_item_out jobs job item ≡ true → IsFound jobs job item
item_found jobs job item out = by_found (find_job job jobs) refl out
  where
    by_found : (o : Option JobState) → find_job job jobs ≡ o → out_of o item ≡ true → IsFound jobs job item
    by_found None is none = absurd cc
    by_found (Some j) is there = record { state = j; found = is; out = there }

none_out : (jobs : List JobState) → AreIdle jobs → (job : JobId) (item : ℕ) → is_item_out jobs job item ≡ false
none_out jobs idle job item =
    elim (is_item_out jobs job item) as (λ t. is_item_out jobs job item ≡ t → t ≡ false) [
      | true ↦ λ out. let f = item_found jobs job item out in absurd (clash (out_any item f.state.items f.out) (found_all (λ (j : JobState). list_any is_out j.items ≡ false) job jobs f.state idle f.found))
      | false ↦ λ _. refl
    ] refl

record HasFound (best : JobId) (jobs : List JobState) : Type 0 where
  state : JobState
  found : find_job best jobs ≡ Some state
  some : list_any is_out state.items ≡ true

has_found : (best : JobId) (jobs : List JobState) → AreApart jobs → HasOut best jobs → HasFound best jobs
has_found best [] apart has = absurd has
has_found best (k ∷ ks) apart (inl here) =
    record { state = k; found = ap (λ t. cond t (Some k) (find_job best ks)) (eq-eqb k.job.number best.number (ap (λ (x : JobId). x.number) here.0)); some = here.1 }
has_found best (k ∷ ks) apart (inr later) =
    let r = has_found best ks apart.1 later in
    record { state = r.state; found = ap (λ t. cond t (Some k) (find_job best ks)) (not_job best k (differs ks apart.0 later)) ∙ r.found; some = r.some }
  where
    differs : (xs : List JobState) → AllByRecursion (λ (x : JobState). k.job.number ≢ x.job.number) xs → HasOut best xs → k.job.number ≡ best.number → ⊥
    differs [] all has same = absurd has
    differs (x ∷ xs) all (inl here) same = all.0 (same ∙ sym (ap (λ (y : JobId). y.number) here.0))
    differs (x ∷ xs) all (inr has) same = differs xs all.1 has same

module _ (jobs : List JobState) (best : JobId) (j : JobState) (found : find_job best jobs ≡ Some j) (lowest : IsLowest jobs None best) (out : IsOutAt (position_or_len is_out j.items) j.items) where
  named : j.job ≡ best
  named = found_job best jobs j found

  abbrev place : ℕ
  place = position_or_len is_out j.items

  abbrev work : Work
  work = record { job = j.job; kind = j.kind; phase = j.phase; item = place; bars = j.bars; from_group = out.next }

  worked : work_in (Some j) j.phase place ≡ Some work
  worked = ap (λ t. cond t (work_from j place (next_among place j.items)) None) (eq-eqb j.phase j.phase refl) ∙ ap (work_from j place) out.at

  own : find_job j.job jobs ≡ Some j
  own = ap (λ (x : JobId). find_job x jobs) named ∙ found

  lowest_one : (job : JobId) (item : ℕ) → is_item_out jobs job item ≡ true → j.job.number ≤ job.number
  lowest_one job item is =
      let f = item_found jobs job item is in
      let above = found_all (λ (k : JobState). list_any is_out k.items ≡ true → best.number ≤ k.job.number) job jobs f.state lowest.above f.found (out_any item f.state.items f.out) in
      let mine = ap (λ (x : JobId). x.number) named in
      let other = ap (λ (x : JobId). x.number) (found_job job jobs f.state f.found) in omega (arith, above, mine, other)

  first_one : (job : JobId) (item : ℕ) → is_item_out jobs job item ≡ true → job.number ≡ j.job.number → place ≤ item
  first_one job item is same =
      let f = item_found jobs job item is in
      let state = same_state f.state j (sym f.found ∙ ap (λ (n : ℕ). let made : JobId = record { number = n } in find_job made jobs) same ∙ own) in
      first_below j.items item (subst (λ (k : JobState). out_among item k.items ≡ true) state f.out)

  found_first : IsFirstOut jobs (out_in (Some j))
  found_first = subst (λ (o : Option Work). IsFirstOut jobs (out_of_work o)) (sym worked) (record {
    work = ap (λ (o : Option JobState). work_in o j.phase place) own ∙ worked;
    next = refl;
    lowest = lowest_one;
    first = first_one;
  })

pub first_out_is : (jobs : List JobState) → AreApart jobs → IsFirstOut jobs (first_out_of jobs)
first_out_is jobs apart = by_lowest (lowest_out jobs None) refl
  where
    of_best : (best : JobId) → IsLowest jobs None best → (None ≡ Some best) ⊎ HasOut best jobs → IsFirstOut jobs (out_in (job_found jobs (Some best)))
    of_best best is (inl none) = absurd cc
    of_best best is (inr has) =
        let r = has_found best jobs apart has in
        subst (λ (o : Option JobState). IsFirstOut jobs (out_in o)) (sym r.found) (found_first jobs best r.state r.found is (at_first r.state.items r.some))

    by_lowest : (o : Option JobId) → lowest_out jobs None ≡ o → IsFirstOut jobs (out_in (job_found jobs o))
    by_lowest None is = none_out jobs (none_is jobs None is).1
    by_lowest (Some best) is = let l = lowest_is jobs None best is in of_best best l l.from
