-- A job that no user paused and that is not kept has a job before it that shares a set with it, or three are kept.
use Rattle.std.proofs.Common.{◌≡◌, ◌<◌, ◌≤◌, ◌⊎◌, inl, inr, Bool, true, false, cond, not, ◌&&◌, ◌||◌, List, [], ◌∷◌, ◌++◌, length, length-append, Option, Some, None, IsSome, refl, sym, ap, ◌∙◌, subst, arith, ltb as nat_lt, nat_eq, eq-eqb, rules}
use Rattle.std.proofs.lemmas.Bool.Decides.{nat_tests}
use Rattle.std.proofs.lemmas.List.Folds.{list_any-append}
use Rattle.std.specs.List.{AllByRecursion, filter, find, list_any}
use Rattle.job_rules.specs.Rank.{AreApart, in_rank, place, rank_before, share}
use Rattle.job_rules.specs.Chosen.{chosen, fits, has_job, keep}
use Rattle.job_rules.specs.Why.{counted_by, excluded_by, is_leaving, is_other_out, kept_before, or_else, view_of, why, why_seen}
use Rattle.job_rules.specs.declared.job.JobId.{JobId}
use Rattle.job_rules.specs.declared.rank.JobView.{JobView}
use Rattle.job_rules.specs.declared.waits.Waits.{Waits}
use Rattle.job_rules.specs.declared.waits.Waits.TheVariants.{ByUser, ByExclusion}
use Rattle.job_rules.proofs.RankedLists.{IsRanked, find_passes, ranked-in_rank}
use Rattle.job_rules.proofs.KeptJobs.{keep-full}

-- the job is one of these
abbrev pub IsAmong : JobView → List JobView → Type 0
IsAmong own [] = ⊥
IsAmong own (v ∷ vs) = (own ≡ v) ⊎ IsAmong own vs

-- each of these ranks before the job
abbrev AreBefore : JobView → List JobView → Type 0
AreBefore v kept = AllByRecursion (λ k. rank_before k v ≡ true) kept

-- each of these ranks before each of those
abbrev AllBefore : List JobView → List JobView → Type 0
AllBefore kept [] = Unit {0}
AllBefore kept (v ∷ vs) = AreBefore v kept × AllBefore kept vs

among-place : (own v : JobView) (ws : List JobView) → (own ≡ v) ⊎ IsAmong own ws → IsAmong own (place v ws)
among-place own v [] among = among
among-place own v (w ∷ ws) among =
    elim (rank_before w v) as (λ b. IsAmong own (cond b (w ∷ place v ws) (v ∷ w ∷ ws))) [
      | true ↦ elim among [ inl here ↦ inr (among-place own v ws (inl here)) | inr rest ↦ elim rest [ inl first ↦ inl first | inr later ↦ inr (among-place own v ws (inr later)) ] ]
      | false ↦ among
    ]

pub among-in_rank : (own : JobView) (vs : List JobView) → IsAmong own vs → IsAmong own (in_rank vs)
among-in_rank own [] among = among
among-in_rank own (v ∷ vs) among =
    among-place own v (in_rank vs) (elim among [ inl here ↦ inl here | inr later ↦ inr (among-in_rank own vs later) ])

pub found_among : (p : JobView → Bool) (vs : List JobView) (w : JobView) → find p vs ≡ Some w → IsAmong w vs
found_among p [] w found = absurd cc
found_among p (v ∷ vs) w found =
    elim (p v) as (λ b. cond b (Some v) (find p vs) ≡ Some w → (w ≡ v) ⊎ IsAmong w vs) [
      | true ↦ λ this. let same : w ≡ v = cc in inl same
      | false ↦ λ later. inr (found_among p vs w later)
    ] found

-- what is kept stays kept
any-keep : (p : JobView → Bool) (vs kept : List JobView) → list_any p kept ≡ true → list_any p (keep vs kept) ≡ true
any-keep p [] kept some = some
any-keep p (v ∷ vs) kept some =
    any-keep p vs (cond (fits kept v) (kept ++ v ∷ []) kept)
    (elim (fits kept v) as (λ b. list_any p (cond b (kept ++ v ∷ []) kept) ≡ true) [
      | true ↦ list_any-append p kept (v ∷ []) ∙ ap (λ b. b || list_any p (v ∷ [])) some
      | false ↦ some
    ])

any_last : (p : JobView → Bool) (v : JobView) (kept : List JobView) → p v ≡ true → list_any p (kept ++ v ∷ []) ≡ true
any_last p v kept passes =
    list_any-append p kept (v ∷ [])
    ∙ ap (λ b. list_any p kept || (b || false)) passes
    ∙ elim (list_any p kept) as (λ b. b || true ≡ true) [ true ↦ refl | false ↦ refl ]

any-found : (p : JobView → Bool) (vs : List JobView) → find p vs ≡ None → list_any p vs ≡ false
any-found p [] none = refl
any-found p (v ∷ vs) none =
    elim (p v) as (λ b. cond b (Some v) (find p vs) ≡ None → b || list_any p vs ≡ false) [
      | true ↦ λ found. absurd cc
      | false ↦ λ rest. any-found p vs rest
    ] none

any_both : (own : JobView) (kept : List JobView) → AreBefore own kept → list_any (λ k. share k own && rank_before k own) kept ≡ list_any (λ k. share k own) kept
any_both own [] before = refl
any_both own (k ∷ ks) before =
    ap (λ b. (share k own && b) || list_any (λ x. share x own && rank_before x own) ks) before.0
    ∙ elim (share k own) as (λ s. (s && true) || list_any (λ x. share x own && rank_before x own) ks ≡ s || list_any (λ x. share x own) ks) [
      | true ↦ refl
      | false ↦ any_both own ks before.1
    ]

before_more : (v : JobView) (kept : List JobView) (w : JobView) → AreBefore w kept → rank_before v w ≡ true → AreBefore w (kept ++ v ∷ [])
before_more v [] w before here = (here, tt)
before_more v (k ∷ ks) w before here = (before.0, before_more v ks w before.1 here)

all_before_more : (v : JobView) (kept vs : List JobView) → AllBefore kept vs → AllByRecursion (λ w. rank_before v w ≡ true) vs → AllBefore (kept ++ v ∷ []) vs
all_before_more v kept [] before here = tt
all_before_more v kept (w ∷ ws) before here = (before_more v kept w before.0 here.0, all_before_more v kept ws before.1 here.1)

-- one that does not fit though no user paused it: three are kept, or one of these shares a set with it
misfit : (kept : List JobView) (own : JobView) → length kept ≤ 3 → own.by_user ≡ false → fits kept own ≡ false → (length kept ≡ 3) ⊎ (list_any (λ k. share k own) kept ≡ true)
misfit kept own few free out =
    elim (list_any (λ k. share k own) kept) as (λ s. (not own.by_user && nat_lt (length kept) 3) && not s ≡ false → (length kept ≡ 3) ⊎ (s ≡ true)) [
      | true ↦ λ _. inr refl
      | false ↦ λ test.
          let least : (not false && nat_lt (length kept) 3) && true ≡ false = subst (λ b. (not b && nat_lt (length kept) 3) && true ≡ false) free test in
          inl (full least)
    ] out
  where
    full : (not false && nat_lt (length kept) 3) && true ≡ false → length kept ≡ 3
    full test = grind (arith, nat_tests)

waits_in : (own : JobView) (vs kept : List JobView) → IsRanked vs → AllBefore kept vs → length kept ≤ 3 → own.by_user ≡ false → IsAmong own vs
    → has_job own.job (keep vs kept) ≡ false → find (λ k. share k own && rank_before k own) (keep vs kept) ≡ None → length (keep vs kept) ≡ 3
waits_in own [] kept ranked before few free among out none = absurd among
waits_in own (v ∷ vs) kept ranked before few free among out none =
    elim (fits kept v) as (λ b. fits kept v ≡ b → has_job own.job (keep vs (cond b (kept ++ v ∷ []) kept)) ≡ false → find (λ k. share k own && rank_before k own) (keep vs (cond b (kept ++ v ∷ []) kept)) ≡ None → length (keep vs (cond b (kept ++ v ∷ []) kept)) ≡ 3) [
      | true ↦ λ fit gone alone. elim among [
        | inl here ↦
            let this : v.job.number ≡ own.job.number = ap (λ (x : JobView). x.job.number) (sym here) in
            let kept_now : has_job own.job (keep vs (kept ++ v ∷ [])) ≡ true =
            any-keep (λ x. nat_eq x.job.number own.job.number) vs (kept ++ v ∷ []) (any_last (λ x. nat_eq x.job.number own.job.number) v kept (eq-eqb v.job.number own.job.number this)) in
            absurd cc
        | inr later ↦
            waits_in own vs (kept ++ v ∷ []) ranked.1 (all_before_more v kept vs before.1 ranked.0) (one_more kept v fit) free later gone alone
      ]
      | false ↦ λ unfit gone alone. elim among [
        | inl here ↦ elim (misfit kept own few free (subst (λ x. fits kept x ≡ false) (sym here) unfit)) [
          | inl full ↦ ap length (keep-full vs kept full) ∙ full
          | inr some ↦
              let both : list_any (λ k. share k own && rank_before k own) kept ≡ true = any_both own kept (subst (λ x. AreBefore x kept) (sym here) before.0) ∙ some in
              let found : list_any (λ k. share k own && rank_before k own) (keep vs kept) ≡ true = any-keep (λ k. share k own && rank_before k own) vs kept both in
              let none_found : list_any (λ k. share k own && rank_before k own) (keep vs kept) ≡ false = any-found (λ k. share k own && rank_before k own) (keep vs kept) alone in
              absurd cc
        ]
        | inr later ↦ waits_in own vs kept ranked.1 before.1 few free later gone alone
      ]
    ] refl out none
  where
    one_more : (kept : List JobView) (v : JobView) → fits kept v ≡ true → length (kept ++ v ∷ []) ≤ 3
    one_more kept v fit =
        let room : nat_lt (length kept) 3 ≡ true =
        elim (nat_lt (length kept) 3) as (λ b. (not v.by_user && b) && not (list_any (λ k. share k v) kept) ≡ true → b ≡ true) [
          | true ↦ λ _. refl
          | false ↦ λ test. elim v.by_user as (λ u. (not u && false) && not (list_any (λ k. share k v) kept) ≡ true → false ≡ true) [ true ↦ λ h. h | false ↦ λ h. h ] test
        ] fit in
        let below : length kept < 3 = grind (arith, nat_tests) in
        omega (arith, length-append kept (v ∷ []))

three-some : (kept : List JobView) → length kept ≡ 3 → IsSome (counted_by kept)
three-some [] full = absurd (omega arith)
three-some (a ∷ []) full = absurd (omega arith)
three-some (a ∷ b ∷ []) full = absurd (omega arith)
three-some (a ∷ b ∷ c ∷ rest) full = search rules

pub has_job-view : (job : JobId) (own : JobView) (jobs vs : List JobView) → view_of job jobs ≡ Some own → has_job own.job vs ≡ has_job job vs
has_job-view job own jobs vs found =
    let named : nat_eq own.job.number job.number ≡ true = find_passes (λ v. nat_eq v.job.number job.number) jobs own found in
    let same : own.job.number ≡ job.number = grind (arith, nat_tests) in
    ap (λ n. list_any (λ v. nat_eq v.job.number n) vs) same

all_before_none : (vs : List JobView) → AllBefore [] vs
all_before_none [] = tt
all_before_none (v ∷ vs) = (tt, all_before_none vs)

pub some_waits : (jobs : List JobView) (job : JobId) (own : JobView) → AreApart jobs → view_of job jobs ≡ Some own → own.by_user ≡ false → has_job job (chosen jobs) ≡ false
    → IsSome (or_else (excluded_by (kept_before own (chosen jobs))) (counted_by (chosen jobs)))
some_waits jobs job own apart found free out =
    elim (kept_before own (chosen jobs)) as (λ o. kept_before own (chosen jobs) ≡ o → IsSome (or_else (excluded_by o) (counted_by (chosen jobs)))) [
      | None ↦ λ none.
          three-some (chosen jobs)
          (waits_in own (in_rank jobs) [] (ranked-in_rank jobs apart) (all_before_none (in_rank jobs)) (omega arith) free
          (among-in_rank own jobs (found_among (λ v. nat_eq v.job.number job.number) jobs own found)) (has_job-view job own jobs (chosen jobs) found ∙ out) none)
      | Some v ↦ λ _. search rules
    ] refl

-- why it waits, by whether a user paused it and whether it is kept
abbrev decided : List JobView → JobView → Bool → Bool → Option Waits
decided jobs own user kept =
    cond user (Some ByUser)
    (cond (not kept) (or_else (excluded_by (kept_before own (chosen jobs))) (counted_by (chosen jobs)))
    (or_else (excluded_by (find (is_leaving own (chosen jobs)) (in_rank jobs))) (counted_by (filter (is_other_out own) (in_rank jobs)))))

why-decided : (jobs : List JobView) (job : JobId) (own : JobView) → view_of job jobs ≡ Some own → why jobs job ≡ decided jobs own own.by_user (has_job job (chosen jobs))
why-decided jobs job own found = ap (why_seen jobs) found ∙ ap (decided jobs own own.by_user) (has_job-view job own jobs (chosen jobs) found)

pub why-paused : (jobs : List JobView) (job : JobId) (own : JobView) → view_of job jobs ≡ Some own → own.by_user ≡ true → Some ByUser ≡ why jobs job
why-paused jobs job own found user = sym (why-decided jobs job own found ∙ ap (λ u. decided jobs own u (has_job job (chosen jobs))) user)

pub why-not_kept : (jobs : List JobView) (job : JobId) (own : JobView) → view_of job jobs ≡ Some own → own.by_user ≡ false → has_job job (chosen jobs) ≡ false
    → why jobs job ≡ or_else (excluded_by (kept_before own (chosen jobs))) (counted_by (chosen jobs))
why-not_kept jobs job own found free out =
    why-decided jobs job own found ∙ ap (λ u. decided jobs own u (has_job job (chosen jobs))) free ∙ ap (decided jobs own false) out

pub why-kept : (jobs : List JobView) (job : JobId) (own : JobView) → view_of job jobs ≡ Some own → own.by_user ≡ false → has_job job (chosen jobs) ≡ true
    → why jobs job ≡ or_else (excluded_by (find (is_leaving own (chosen jobs)) (in_rank jobs))) (counted_by (filter (is_other_out own) (in_rank jobs)))
why-kept jobs job own found free kept =
    why-decided jobs job own found ∙ ap (λ u. decided jobs own u (has_job job (chosen jobs))) free ∙ ap (decided jobs own false) kept

pub why-leaving : (jobs : List JobView) (job : JobId) (own other : JobView) → view_of job jobs ≡ Some own → own.by_user ≡ false → has_job job (chosen jobs) ≡ true
    → find (is_leaving own (chosen jobs)) (in_rank jobs) ≡ Some other → Some (ByExclusion other.job) ≡ why jobs job
why-leaving jobs job own other found free kept leaving =
    sym (why-kept jobs job own found free kept ∙ ap (λ o. or_else (excluded_by o) (counted_by (filter (is_other_out own) (in_rank jobs)))) leaving)

pub why-none_leaving : (jobs : List JobView) (job : JobId) (own : JobView) → view_of job jobs ≡ Some own → own.by_user ≡ false → has_job job (chosen jobs) ≡ true
    → find (is_leaving own (chosen jobs)) (in_rank jobs) ≡ None → why jobs job ≡ counted_by (filter (is_other_out own) (in_rank jobs))
why-none_leaving jobs job own found free kept none =
    why-kept jobs job own found free kept ∙ ap (λ o. or_else (excluded_by o) (counted_by (filter (is_other_out own) (in_rank jobs)))) none
