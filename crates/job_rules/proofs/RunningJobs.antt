-- A job that does not wait shares no set with another that has items out, and at most two others have.
use Rattle.std.proofs.Common.{◌≡◌, ◌≢◌, ◌≤◌, inl, inr, Bool, true, false, cond, not, ◌&&◌, ◌||◌, List, [], ◌∷◌, ◌++◌, length, Option, Some, None, IsSome, refl, sym, ap, ◌∙◌, subst, arith, ltb as nat_lt, nat_eq, eq-eqb}
use Rattle.std.proofs.lemmas.Bool.Decides.{nat_tests}
use Rattle.std.specs.List.{AllByRecursion, filter, find, list_any}
use Rattle.job_rules.specs.Rank.{AreApart, IsApart, in_rank, place, rank_before, share, shares}
use Rattle.job_rules.specs.Chosen.{chosen, fits, has_job, keep}
use Rattle.job_rules.specs.Why.{counted_by, excluded_by, is_leaving, is_other_out, kept_before, or_else, view_of, why}
use Rattle.job_rules.specs.declared.job.JobId.{JobId}
use Rattle.job_rules.specs.declared.kind.Sets.{Sets}
use Rattle.job_rules.specs.declared.rank.JobView.{JobView}
use Rattle.job_rules.specs.declared.waits.Waits.{Waits}
use Rattle.job_rules.specs.declared.waits.Waits.TheVariants.{ByUser}
use Rattle.job_rules.proofs.FirstInRank.{all-place}
use Rattle.job_rules.proofs.RankedLists.{all-in_rank}
use Rattle.job_rules.proofs.WaitingJobs.{IsAmong, among-in_rank, found_among, some_waits, why-kept, why-not_kept, why-paused}

and_comm : (x y : Bool) → x && y ≡ y && x
and_comm true true = refl
and_comm true false = refl
and_comm false true = refl
and_comm false false = refl

pub share-comm : (a b : JobView) → share a b ≡ share b a
share-comm a b = both_sets (Rattle.job_rules.specs.Kinds.sets_of a.kind) (Rattle.job_rules.specs.Kinds.sets_of b.kind)
  where
    both_sets : (s t : Sets) → shares s t ≡ shares t s
    both_sets s t = ap (λ x. x || (s.mark && t.mark)) (and_comm s.restripe t.restripe) ∙ ap (λ x. (t.restripe && s.restripe) || x) (and_comm s.mark t.mark)

-- no two of these share a set
abbrev pub AreExclusive : List JobView → Type 0
AreExclusive [] = Unit {0}
AreExclusive (k ∷ ks) = AllByRecursion (λ v. share k v ≡ false) ks × AreExclusive ks

exclusive-last : (ks : List JobView) (v : JobView) → AreExclusive ks → list_any (λ k. share k v) ks ≡ false → AreExclusive (ks ++ v ∷ [])
exclusive-last [] v apart none = (tt, tt)
exclusive-last (k ∷ ks) v apart none =
    let here : share k v ≡ false = elim (share k v) as (λ t. t || list_any (λ x. share x v) ks ≡ false → t ≡ false) [ true ↦ λ h. absurd cc | false ↦ λ _. refl ] none in
    let later : list_any (λ x. share x v) ks ≡ false = elim (share k v) as (λ t. t || list_any (λ x. share x v) ks ≡ false → list_any (λ x. share x v) ks ≡ false) [ true ↦ λ h. absurd cc | false ↦ λ h. h ] none in
    (last_too ks apart.0 here, exclusive-last ks v apart.1 later)
  where
    last_too : (ks : List JobView) → AllByRecursion (λ w. share k w ≡ false) ks → share k v ≡ false → AllByRecursion (λ w. share k w ≡ false) (ks ++ v ∷ [])
    last_too [] all here = (here, tt)
    last_too (x ∷ xs) all here = (all.0, last_too xs all.1 here)

fit_alone : (kept : List JobView) (v : JobView) → fits kept v ≡ true → list_any (λ k. share k v) kept ≡ false
fit_alone kept v fit =
    elim (list_any (λ k. share k v) kept) as (λ t. (not v.by_user && nat_lt (length kept) 3) && not t ≡ true → t ≡ false) [
      | true ↦ λ h. absurd (no_both (not v.by_user && nat_lt (length kept) 3) h)
      | false ↦ λ _. refl
    ] fit
  where
    no_both : (x : Bool) → x && false ≡ true → ⊥
    no_both true h = cc
    no_both false h = cc

pub exclusive-keep : (vs kept : List JobView) → AreExclusive kept → AreExclusive (keep vs kept)
exclusive-keep [] kept apart = apart
exclusive-keep (v ∷ vs) kept apart =
    exclusive-keep vs (cond (fits kept v) (kept ++ v ∷ []) kept)
    (elim (fits kept v) as (λ t. fits kept v ≡ t → AreExclusive (cond t (kept ++ v ∷ []) kept)) [
      | true ↦ λ fit. exclusive-last kept v apart (fit_alone kept v fit)
      | false ↦ λ _. apart
    ] refl)

-- those that a walk keeps are among those it began with and those it walks through
all_keep : (P : JobView → Type 0) (vs kept : List JobView) → AllByRecursion P vs → AllByRecursion P kept → AllByRecursion P (keep vs kept)
all_keep P [] kept all held = held
all_keep P (v ∷ vs) kept all held =
    all_keep P vs (cond (fits kept v) (kept ++ v ∷ []) kept) all.1
    (elim (fits kept v) as (λ t. AllByRecursion P (cond t (kept ++ v ∷ []) kept)) [ true ↦ last_too kept held | false ↦ held ])
  where
    last_too : (ks : List JobView) → AllByRecursion P ks → AllByRecursion P (ks ++ v ∷ [])
    last_too [] held = (all.0, tt)
    last_too (k ∷ ks) held = (held.0, last_too ks held.1)

all_among : (vs all : List JobView) → ((v : JobView) → IsAmong v vs → IsAmong v all) → AllByRecursion (λ v. IsAmong v all) vs
all_among [] all so = tt
all_among (v ∷ vs) all so = (so v (inl refl), all_among vs all (λ w among. so w (inr among)))

among_all : (P : JobView → Type 0) (vs : List JobView) (v : JobView) → AllByRecursion P vs → IsAmong v vs → P v
among_all P [] v all among = absurd among
among_all P (x ∷ xs) v all among = elim among [ inl here ↦ subst P (sym here) all.0 | inr later ↦ among_all P xs v all.1 later ]

-- jobs of one number among these are one
one_job : (vs : List JobView) (a b : JobView) → AreApart vs → IsAmong a vs → IsAmong b vs → a.job.number ≡ b.job.number → a ≡ b
one_job [] a b apart one other same = absurd one
one_job (v ∷ vs) a b apart one other same =
    elim one [
      | inl a_is ↦ elim other [
        | inl b_is ↦ a_is ∙ sym b_is
        | inr b_later ↦ absurd ((among_all (IsApart v) vs b apart.0 b_later).job (ap (λ (x : JobView). x.job.number) (sym a_is) ∙ same))
      ]
      | inr a_later ↦ elim other [
        | inl b_is ↦ absurd ((among_all (IsApart v) vs a apart.0 a_later).job (ap (λ (x : JobView). x.job.number) (sym b_is) ∙ sym same))
        | inr b_later ↦ one_job vs a b apart.1 a_later b_later same
      ]
    ]

-- a job of this number among them
named : (job : JobId) (vs : List JobView) → has_job job vs ≡ true → (k : JobView) × IsAmong k vs × (k.job.number ≡ job.number)
named job [] has = absurd cc
named job (v ∷ vs) has =
    elim (nat_eq v.job.number job.number) as (λ t. nat_eq v.job.number job.number ≡ t → t || has_job job vs ≡ true → (k : JobView) × IsAmong k (v ∷ vs) × (k.job.number ≡ job.number)) [
      | true ↦ λ here _. (v, inl refl, equal v here)
      | false ↦ λ _ later. let found = named job vs later in (found.0, inr found.1, found.2)
    ] refl has
  where
    equal : (v : JobView) → nat_eq v.job.number job.number ≡ true → v.job.number ≡ job.number
    equal v test = grind (arith, nat_tests)

two_apart : (ks : List JobView) (a b : JobView) → AreExclusive ks → IsAmong a ks → IsAmong b ks → a.job.number ≢ b.job.number → share a b ≡ false
two_apart [] a b apart one other differ = absurd one
two_apart (k ∷ ks) a b apart one other differ =
    elim one [
      | inl a_is ↦ elim other [
        | inl b_is ↦ absurd (differ (ap (λ (x : JobView). x.job.number) (a_is ∙ sym b_is)))
        | inr b_later ↦ subst (λ x. share x b ≡ false) (sym a_is) (among_all (λ w. share k w ≡ false) ks b apart.0 b_later)
      ]
      | inr a_later ↦ elim other [
        | inl b_is ↦ share-comm a b ∙ subst (λ x. share x a ≡ false) (sym b_is) (among_all (λ w. share k w ≡ false) ks a apart.0 a_later)
        | inr b_later ↦ two_apart ks a b apart.1 a_later b_later differ
      ]
    ]

find_none : (p : JobView → Bool) (vs : List JobView) → find p vs ≡ None → AllByRecursion (λ v. p v ≡ false) vs
find_none p [] none = tt
find_none p (v ∷ vs) none =
    elim (p v) as (λ t. p v ≡ t → cond t (Some v) (find p vs) ≡ None → AllByRecursion (λ w. p w ≡ false) (v ∷ vs)) [
      | true ↦ λ _ found. absurd cc
      | false ↦ λ fails rest. (fails, find_none p vs rest)
    ] refl none

-- where a job does not wait, no user paused it, it is kept, no other leaves, and no three are out
record Runs (jobs : List JobView) (own : JobView) : Type 0 where
  kept : has_job own.job (chosen jobs) ≡ true
  leaving : find (is_leaving own (chosen jobs)) (in_rank jobs) ≡ None
  counted : counted_by (filter (is_other_out own) (in_rank jobs)) ≡ None

excluded_none : (o : Option JobView) (other : Option Waits) → or_else (excluded_by o) other ≡ None → o ≡ None
excluded_none None other none = refl
excluded_none (Some v) other none = absurd cc

counted_none : (o : Option JobView) (other : Option Waits) → or_else (excluded_by o) other ≡ None → other ≡ None
counted_none None other none = none
counted_none (Some v) other none = absurd cc

runs : (jobs : List JobView) (own : JobView) → AreApart jobs → view_of own.job jobs ≡ Some own → why jobs own.job ≡ None → Runs jobs own
runs jobs own apart found none =
    let waits : Option Waits = or_else (excluded_by (kept_before own (chosen jobs))) (counted_by (chosen jobs)) in
    let free : own.by_user ≡ false =
    elim own.by_user as (λ t. own.by_user ≡ t → t ≡ false) [ true ↦ λ user. let paused : Some ByUser ≡ why jobs own.job = why-paused jobs own.job own found user in absurd cc | false ↦ λ _. refl ] refl in
    let kept : has_job own.job (chosen jobs) ≡ true =
    elim (has_job own.job (chosen jobs)) as (λ t. has_job own.job (chosen jobs) ≡ t → t ≡ true) [
      | true ↦ λ _. refl
      | false ↦ λ out.
          let some : IsSome waits = some_waits jobs own.job own apart found free out in
          let so : why jobs own.job ≡ waits = why-not_kept jobs own.job own found free out in
          absurd (not_some waits some (sym so ∙ none))
    ] refl in
    let so = why-kept jobs own.job own found free kept in
    record {
      kept = kept;
      leaving = excluded_none (find (is_leaving own (chosen jobs)) (in_rank jobs)) (counted_by (filter (is_other_out own) (in_rank jobs))) (sym so ∙ none);
      counted = counted_none (find (is_leaving own (chosen jobs)) (in_rank jobs)) (counted_by (filter (is_other_out own) (in_rank jobs))) (sym so ∙ none);
    }
  where
    not_some : (o : Option Waits) → IsSome o → o ≡ None → ⊥
    not_some None some none = cc
    not_some (Some w) some none = cc

-- the jobs that the rules keep, seen as those that they were chosen from
kept_among : (jobs : List JobView) → AllByRecursion (λ v. IsAmong v (in_rank jobs)) (chosen jobs)
kept_among jobs = all_keep (λ v. IsAmong v (in_rank jobs)) (in_rank jobs) [] (all_among (in_rank jobs) (in_rank jobs) (λ v among. among)) tt

apart-place : (v : JobView) (ws : List JobView) → AllByRecursion (IsApart v) ws → AreApart ws → AreApart (place v ws)
apart-place v [] here apart = (tt, tt)
apart-place v (w ∷ ws) here apart =
    elim (rank_before w v) as (λ b. AreApart (cond b (w ∷ place v ws) (v ∷ w ∷ ws))) [
      | true ↦ (all-place (IsApart w) v ws (record { job = λ e. here.0.job (sym e); started = λ e. here.0.started (sym e) }) apart.0, apart-place v ws here.1 apart.1)
      | false ↦ (here, apart)
    ]

apart-in_rank : (vs : List JobView) → AreApart vs → AreApart (in_rank vs)
apart-in_rank [] apart = tt
apart-in_rank (v ∷ vs) apart = apart-place v (in_rank vs) (all-in_rank (IsApart v) vs apart.0) (apart-in_rank vs apart.1)

-- a job that a job of this list names by its number is that job
kept_itself : (jobs : List JobView) (v : JobView) → AreApart jobs → IsAmong v jobs → has_job v.job (chosen jobs) ≡ true → IsAmong v (chosen jobs)
kept_itself jobs v apart among kept =
    let k = named v.job (chosen jobs) kept in
    let from : IsAmong k.0 (in_rank jobs) = among_all (λ x. IsAmong x (in_rank jobs)) (chosen jobs) k.0 (kept_among jobs) k.1 in
    let same : k.0 ≡ v = one_job (in_rank jobs) k.0 v (apart-in_rank jobs apart) from (among-in_rank v jobs among) k.2 in
    subst (λ x. IsAmong x (chosen jobs)) same k.1

-- another job with items out shares no set with one that does not wait
other_apart : (jobs : List JobView) (own v : JobView) → AreApart jobs → view_of own.job jobs ≡ Some own → why jobs own.job ≡ None → IsAmong v jobs → is_other_out own v ≡ true → share v own ≡ false
other_apart jobs own v apart found none among out =
    let r = runs jobs own apart found none in
    let own_among : IsAmong own jobs = found_among (λ x. nat_eq x.job.number own.job.number) jobs own found in
    elim (has_job v.job (chosen jobs)) as (λ t. has_job v.job (chosen jobs) ≡ t → share v own ≡ false) [
      | true ↦ λ kept.
          two_apart (chosen jobs) v own (exclusive-keep (in_rank jobs) [] tt) (kept_itself jobs v apart among kept) (kept_itself jobs own apart own_among r.kept) (other_number own v out)
      | false ↦ λ gone.
          let stays : is_leaving own (chosen jobs) v ≡ false = among_all (λ x. is_leaving own (chosen jobs) x ≡ false) (in_rank jobs) v (find_none (is_leaving own (chosen jobs)) (in_rank jobs) r.leaving) (among-in_rank v jobs among) in
          leaving_shares (share v own) (nat_lt 0 v.out) (has_job v.job (chosen jobs)) gone (is_out (nat_eq v.job.number own.job.number) (nat_lt 0 v.out) out) stays
    ] refl
  where
    is_out : (x y : Bool) → not x && y ≡ true → y ≡ true
    is_out true y h = absurd cc
    is_out false y h = h

    leaving_shares : (s o h : Bool) → h ≡ false → o ≡ true → (not h && o) && s ≡ false → s ≡ false
    leaving_shares s true false gone out stays = stays
    leaving_shares s true true gone out stays = absurd cc
    leaving_shares s false h gone out stays = absurd cc

    other_number : (own v : JobView) → is_other_out own v ≡ true → v.job.number ≢ own.job.number
    other_number own v out same =
        elim (nat_eq v.job.number own.job.number) as (λ t. nat_eq v.job.number own.job.number ≡ t → not t && nat_lt 0 v.out ≡ true → ⊥) [
          | true ↦ λ _ h. cc
          | false ↦ λ differ _. let yes : nat_eq v.job.number own.job.number ≡ true = eq-eqb v.job.number own.job.number same in cc
        ] refl out

all_others : (jobs : List JobView) (own : JobView) → ((v : JobView) → IsAmong v jobs → is_other_out own v ≡ true → share v own ≡ false) → (vs : List JobView) → ((v : JobView) → IsAmong v vs → IsAmong v jobs)
    → AllByRecursion (λ v. is_other_out own v ≡ true → share v own ≡ false) vs
all_others jobs own so [] within = tt
all_others jobs own so (v ∷ vs) within = (λ out. so v (within v (inl refl)) out, all_others jobs own so vs (λ w among. within w (inr among)))

pub others_apart : (jobs : List JobView) (own : JobView) → AreApart jobs → view_of own.job jobs ≡ Some own → why jobs own.job ≡ None → AllByRecursion (λ v. is_other_out own v ≡ true → share v own ≡ false) jobs
others_apart jobs own apart found none = all_others jobs own (λ v among out. other_apart jobs own v apart found none among out) jobs (λ v among. among)

filter-place : (q : JobView → Bool) (v : JobView) (ws : List JobView) → length (filter q (place v ws)) ≡ length (filter q (v ∷ ws))
filter-place q v [] = refl
filter-place q v (w ∷ ws) =
    elim (rank_before w v) as (λ b. length (filter q (cond b (w ∷ place v ws) (v ∷ w ∷ ws))) ≡ length (filter q (v ∷ w ∷ ws))) [
      | true ↦ swapped (q w) (q v) (filter q (place v ws)) (filter q ws) (filter-place q v ws)
      | false ↦ refl
    ]
  where
    swapped : (qw qv : Bool) (placed rest : List JobView) → length placed ≡ length (cond qv (v ∷ rest) rest)
        → length (cond qw (w ∷ placed) placed) ≡ length (cond qv (v ∷ cond qw (w ∷ rest) rest) (cond qw (w ∷ rest) rest))
    swapped true true placed rest e = omega arith
    swapped true false placed rest e = omega arith
    swapped false true placed rest e = e
    swapped false false placed rest e = e

filter-in_rank : (q : JobView → Bool) (vs : List JobView) → length (filter q (in_rank vs)) ≡ length (filter q vs)
filter-in_rank q [] = refl
filter-in_rank q (v ∷ vs) = filter-place q v (in_rank vs) ∙ more (q v) (filter-in_rank q vs)
  where
    more : (t : Bool) → length (filter q (in_rank vs)) ≡ length (filter q vs) → length (cond t (v ∷ filter q (in_rank vs)) (filter q (in_rank vs))) ≡ length (cond t (v ∷ filter q vs) (filter q vs))
    more true e = omega arith
    more false e = e

below_three : (vs : List JobView) → counted_by vs ≡ None → length vs ≤ 2
below_three [] none = omega arith
below_three (a ∷ []) none = omega arith
below_three (a ∷ b ∷ []) none = omega arith
below_three (a ∷ b ∷ c ∷ vs) none = absurd cc

pub others_few : (jobs : List JobView) (own : JobView) → AreApart jobs → view_of own.job jobs ≡ Some own → why jobs own.job ≡ None → length (filter (is_other_out own) jobs) ≤ 2
others_few jobs own apart found none =
    let r = runs jobs own apart found none in
    let few = below_three (filter (is_other_out own) (in_rank jobs)) r.counted in
    omega (arith, filter-in_rank (is_other_out own) jobs)
