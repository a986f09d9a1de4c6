-- The jobs that a walk in rank keeps.
use Rattle.std.proofs.Common.{◌≡◌, true, false, cond, not, ◌&&◌, List, [], ◌∷◌, ◌++◌, length, Option, Some, None, refl, sym, ap, ◌∙◌, subst, ltb as nat_lt}
use Rattle.std.specs.List.{filter, find, list_any}
use Rattle.job_rules.specs.Rank.{AreApart, in_rank, is_after, rank_before, share}
use Rattle.job_rules.specs.Chosen.{fits, keep}
use Rattle.job_rules.specs.declared.rank.JobView.{JobView}
use Rattle.job_rules.proofs.RankedLists.{IsRanked, filter-after, filter-first, filter-later, find-filter, find_passes, ranked-filter, ranked-in_rank}

pub keep-none : (vs kept : List JobView) → find (fits kept) vs ≡ None → keep vs kept ≡ kept
keep-none [] kept none = refl
keep-none (v ∷ vs) kept none =
    elim (fits kept v) as (λ b. cond b (Some v) (find (fits kept) vs) ≡ None → keep vs (cond b (kept ++ v ∷ []) kept) ≡ kept) [
      | true ↦ λ found. absurd cc
      | false ↦ λ rest. keep-none vs kept rest
    ] none

keep-some : (vs kept : List JobView) (w : JobView) → IsRanked vs → find (fits kept) vs ≡ Some w → keep vs kept ≡ keep (filter (rank_before w) vs) (kept ++ w ∷ [])
keep-some [] kept w ranked found = absurd cc
keep-some (v ∷ vs) kept w ranked found =
    elim (fits kept v) as (λ b. cond b (Some v) (find (fits kept) vs) ≡ Some w → keep vs (cond b (kept ++ v ∷ []) kept) ≡ keep (filter (rank_before w) (v ∷ vs)) (kept ++ w ∷ [])) [
      | true ↦ λ this.
          let same : v ≡ w = cc in
          subst (λ x. keep vs (kept ++ v ∷ []) ≡ keep (filter (rank_before x) (v ∷ vs)) (kept ++ x ∷ [])) same (ap (λ rest. keep rest (kept ++ v ∷ [])) (sym (filter-first v vs ranked)))
      | false ↦ λ later. keep-some vs kept w ranked.1 later ∙ ap (λ rest. keep rest (kept ++ w ∷ [])) (sym (filter-later (fits kept) v vs w ranked later))
    ] found

-- one turn of the walk: the first that fits behind the last is kept, and the walk goes on behind it
pub keep-next : (jobs : List JobView) (last : Option JobView) (kept : List JobView) (w : JobView) → AreApart jobs
    → find (λ v. is_after last v && fits kept v) (in_rank jobs) ≡ Some w
    → keep (filter (is_after last) (in_rank jobs)) kept ≡ keep (filter (is_after (Some w)) (in_rank jobs)) (kept ++ w ∷ [])
keep-next jobs last kept w apart found =
    let ranked : IsRanked (in_rank jobs) = ranked-in_rank jobs apart in
    let both : is_after last w && fits kept w ≡ true = find_passes (λ v. is_after last v && fits kept v) (in_rank jobs) w found in
    let after : is_after last w ≡ true = elim (is_after last w) as (λ b. b && fits kept w ≡ true → b ≡ true) [ true ↦ λ _. refl | false ↦ λ h. h ] both in
    keep-some (filter (is_after last) (in_rank jobs)) kept w (ranked-filter (is_after last) (in_rank jobs) ranked) (sym (find-filter (is_after last) (fits kept) (in_rank jobs)) ∙ found)
    ∙ ap (λ rest. keep rest (kept ++ w ∷ [])) (filter-after last w (in_rank jobs) after)

pub keep-last : (jobs : List JobView) (last : Option JobView) (kept : List JobView)
    → find (λ v. is_after last v && fits kept v) (in_rank jobs) ≡ None → keep (filter (is_after last) (in_rank jobs)) kept ≡ kept
keep-last jobs last kept none = keep-none (filter (is_after last) (in_rank jobs)) kept (sym (find-filter (is_after last) (fits kept) (in_rank jobs)) ∙ none)

fits-full : (kept : List JobView) (v : JobView) → length kept ≡ 3 → fits kept v ≡ false
fits-full kept v full =
    ap (λ n. (not v.by_user && nat_lt n 3) && not (list_any (λ k. share k v) kept)) full
    ∙ elim v.by_user as (λ b. (not b && false) && not (list_any (λ k. share k v) kept) ≡ false) [ true ↦ refl | false ↦ refl ]

pub keep-full : (vs kept : List JobView) → length kept ≡ 3 → keep vs kept ≡ kept
keep-full [] kept full = refl
keep-full (v ∷ vs) kept full = ap (λ b. keep vs (cond b (kept ++ v ∷ []) kept)) (fits-full kept v full) ∙ keep-full vs kept full
