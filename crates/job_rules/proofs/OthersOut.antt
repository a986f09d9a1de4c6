-- The first three in rank of those that pass a test, found one after the other.
use Rattle.std.proofs.Common.{◌≡◌, Bool, true, false, cond, ◌&&◌, List, [], ◌∷◌, Option, Some, None, refl, sym, ap, ◌∙◌, subst}
use Rattle.std.specs.List.{filter, find}
use Rattle.job_rules.specs.Rank.{AreApart, in_rank, is_after, rank_before}
use Rattle.job_rules.specs.Why.{counted_by}
use Rattle.job_rules.specs.declared.rank.JobView.{JobView}
use Rattle.job_rules.specs.declared.waits.Waits.TheVariants.{ByCount}
use Rattle.job_rules.proofs.RankedLists.{IsRanked, filter-after, filter-first, filter-is_after, filter-later, find-filter, find_passes, ranked-filter, ranked-in_rank}

filter-none : (q : JobView → Bool) (vs : List JobView) → find q vs ≡ None → filter q vs ≡ []
filter-none q [] none = refl
filter-none q (v ∷ vs) none =
    elim (q v) as (λ b. cond b (Some v) (find q vs) ≡ None → cond b (v ∷ filter q vs) (filter q vs) ≡ []) [
      | true ↦ λ found. absurd cc
      | false ↦ λ rest. filter-none q vs rest
    ] none

filter-found : (q : JobView → Bool) (vs : List JobView) (w : JobView) → IsRanked vs → find q vs ≡ Some w → filter q vs ≡ w ∷ filter q (filter (rank_before w) vs)
filter-found q [] w ranked found = absurd cc
filter-found q (v ∷ vs) w ranked found =
    elim (q v) as (λ b. cond b (Some v) (find q vs) ≡ Some w → cond b (v ∷ filter q vs) (filter q vs) ≡ w ∷ filter q (filter (rank_before w) (v ∷ vs))) [
      | true ↦ λ this.
          let same : v ≡ w = cc in
          subst (λ x. v ∷ filter q vs ≡ x ∷ filter q (filter (rank_before x) (v ∷ vs))) same (ap (λ rest. v ∷ filter q rest) (sym (filter-first v vs ranked)))
      | false ↦ λ later. filter-found q vs w ranked.1 later ∙ ap (λ rest. w ∷ filter q rest) (sym (filter-later q v vs w ranked later))
    ] found

-- those of the jobs behind the last that pass, in rank
abbrev pub left_after : (JobView → Bool) → Option JobView → List JobView → List JobView
left_after q last jobs = filter q (filter (is_after last) (in_rank jobs))

pub left-none : (q : JobView → Bool) (jobs : List JobView) → left_after q None jobs ≡ filter q (in_rank jobs)
left-none q jobs = ap (filter q) (filter-is_after (in_rank jobs))

pub left-last : (q : JobView → Bool) (last : Option JobView) (jobs : List JobView) → find (λ v. is_after last v && q v) (in_rank jobs) ≡ None → left_after q last jobs ≡ []
left-last q last jobs none = filter-none q (filter (is_after last) (in_rank jobs)) (sym (find-filter (is_after last) q (in_rank jobs)) ∙ none)

pub left-next : (q : JobView → Bool) (last : Option JobView) (jobs : List JobView) (w : JobView) → AreApart jobs
    → find (λ v. is_after last v && q v) (in_rank jobs) ≡ Some w → left_after q last jobs ≡ w ∷ left_after q (Some w) jobs
left-next q last jobs w apart found =
    let ranked : IsRanked (in_rank jobs) = ranked-in_rank jobs apart in
    let both : is_after last w && q w ≡ true = find_passes (λ v. is_after last v && q v) (in_rank jobs) w found in
    let after : is_after last w ≡ true = elim (is_after last w) as (λ b. b && q w ≡ true → b ≡ true) [ true ↦ λ _. refl | false ↦ λ h. h ] both in
    filter-found q (filter (is_after last) (in_rank jobs)) w (ranked-filter (is_after last) (in_rank jobs) ranked) (sym (find-filter (is_after last) q (in_rank jobs)) ∙ found)
    ∙ ap (λ rest. w ∷ filter q rest) (filter-after last w (in_rank jobs) after)

-- what is counted where there is no first, no second or no third, and where all three are there
pub counted-none : (q : JobView → Bool) (jobs : List JobView) → find (λ v. is_after None v && q v) (in_rank jobs) ≡ None → counted_by (filter q (in_rank jobs)) ≡ None
counted-none q jobs none = ap counted_by (sym (left-none q jobs) ∙ left-last q None jobs none)

pub counted-one : (q : JobView → Bool) (jobs : List JobView) (a : JobView) → AreApart jobs
    → find (λ v. is_after None v && q v) (in_rank jobs) ≡ Some a → find (λ v. is_after (Some a) v && q v) (in_rank jobs) ≡ None
    → counted_by (filter q (in_rank jobs)) ≡ None
counted-one q jobs a apart first none =
    ap counted_by (sym (left-none q jobs) ∙ left-next q None jobs a apart first ∙ ap (λ rest. a ∷ rest) (left-last q (Some a) jobs none))

pub counted-two : (q : JobView → Bool) (jobs : List JobView) (a b : JobView) → AreApart jobs
    → find (λ v. is_after None v && q v) (in_rank jobs) ≡ Some a → find (λ v. is_after (Some a) v && q v) (in_rank jobs) ≡ Some b
    → find (λ v. is_after (Some b) v && q v) (in_rank jobs) ≡ None → counted_by (filter q (in_rank jobs)) ≡ None
counted-two q jobs a b apart first second none =
    ap counted_by (sym (left-none q jobs) ∙ left-next q None jobs a apart first
    ∙ ap (λ rest. a ∷ rest) (left-next q (Some a) jobs b apart second ∙ ap (λ rest. b ∷ rest) (left-last q (Some b) jobs none)))

pub counted-three : (q : JobView → Bool) (jobs : List JobView) (a b c : JobView) → AreApart jobs
    → find (λ v. is_after None v && q v) (in_rank jobs) ≡ Some a → find (λ v. is_after (Some a) v && q v) (in_rank jobs) ≡ Some b
    → find (λ v. is_after (Some b) v && q v) (in_rank jobs) ≡ Some c
    → counted_by (filter q (in_rank jobs)) ≡ Some (ByCount (a.job ∷ b.job ∷ c.job ∷ []))
counted-three q jobs a b c apart first second third =
    ap counted_by (sym (left-none q jobs) ∙ left-next q None jobs a apart first
    ∙ ap (λ rest. a ∷ rest) (left-next q (Some a) jobs b apart second ∙ ap (λ rest. b ∷ rest) (left-next q (Some b) jobs c apart third)))
