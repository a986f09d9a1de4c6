-- Jobs in rank whose starts differ: each ranks before all behind it.
use Rattle.std.proofs.Common.{◌≡◌, Bool, true, false, cond, ◌&&◌, List, [], ◌∷◌, Option, Some, None, refl, sym, ap, ◌∙◌, subst}
use Rattle.std.specs.List.{AllByRecursion, filter, find}
use Rattle.job_rules.specs.Rank.{AreApart, IsApart, in_rank, is_after, place, rank_before}
use Rattle.job_rules.specs.declared.rank.JobView.{JobView}
use Rattle.job_rules.proofs.RankLemmas.{rank_along, rank_either, rank_not_back}
use Rattle.job_rules.proofs.FirstInRank.{all-place}

-- each ranks before all behind it
abbrev pub IsRanked : List JobView → Type 0
IsRanked [] = Unit {0}
IsRanked (v ∷ vs) = AllByRecursion (λ w. rank_before v w ≡ true) vs × IsRanked vs

all_after : (v w : JobView) (ws : List JobView) → rank_before v w ≡ true → AllByRecursion (λ x. rank_before w x ≡ true) ws → AllByRecursion (λ x. rank_before v x ≡ true) ws
all_after v w [] before all = tt
all_after v w (x ∷ xs) before all = (rank_along v w x before all.0, all_after v w xs before all.1)

ranked-place : (v : JobView) (ws : List JobView) → AllByRecursion (IsApart v) ws → IsRanked ws → IsRanked (place v ws)
ranked-place v [] apart ranked = (tt, tt)
ranked-place v (w ∷ ws) apart ranked =
    elim (rank_before w v) as (λ b. rank_before w v ≡ b → IsRanked (cond b (w ∷ place v ws) (v ∷ w ∷ ws))) [
      | true ↦ λ before. (all-place (λ x. rank_before w x ≡ true) v ws before ranked.0, ranked-place v ws apart.1 ranked.1)
      | false ↦ λ behind.
          let first : rank_before v w ≡ true = rank_either w v (λ same. apart.0.started (sym same)) behind in
          ((first, all_after v w ws first ranked.0), ranked)
    ] refl

pub all-in_rank : (P : JobView → Type 0) (vs : List JobView) → AllByRecursion P vs → AllByRecursion P (in_rank vs)
all-in_rank P [] all = tt
all-in_rank P (v ∷ vs) all = all-place P v (in_rank vs) all.0 (all-in_rank P vs all.1)

pub ranked-in_rank : (vs : List JobView) → AreApart vs → IsRanked (in_rank vs)
ranked-in_rank [] apart = tt
ranked-in_rank (v ∷ vs) apart = ranked-place v (in_rank vs) (all-in_rank (IsApart v) vs apart.0) (ranked-in_rank vs apart.1)

all-filter : (P : JobView → Type 0) (p : JobView → Bool) (vs : List JobView) → AllByRecursion P vs → AllByRecursion P (filter p vs)
all-filter P p [] all = tt
all-filter P p (v ∷ vs) all =
    elim (p v) as (λ b. AllByRecursion P (cond b (v ∷ filter p vs) (filter p vs))) [
      | true ↦ (all.0, all-filter P p vs all.1)
      | false ↦ all-filter P p vs all.1
    ]

pub ranked-filter : (p : JobView → Bool) (vs : List JobView) → IsRanked vs → IsRanked (filter p vs)
ranked-filter p [] ranked = tt
ranked-filter p (v ∷ vs) ranked =
    elim (p v) as (λ b. IsRanked (cond b (v ∷ filter p vs) (filter p vs))) [
      | true ↦ (all-filter (λ w. rank_before v w ≡ true) p vs ranked.0, ranked-filter p vs ranked.1)
      | false ↦ ranked-filter p vs ranked.1
    ]

pub find-filter : (p q : JobView → Bool) (vs : List JobView) → find (λ v. p v && q v) vs ≡ find q (filter p vs)
find-filter p q [] = refl
find-filter p q (v ∷ vs) =
    elim (p v) as (λ b. cond (b && q v) (Some v) (find (λ w. p w && q w) vs) ≡ find q (cond b (v ∷ filter p vs) (filter p vs))) [
      | true ↦ ap (λ rest. cond (q v) (Some v) rest) (find-filter p q vs)
      | false ↦ find-filter p q vs
    ]

-- what is found passes, and is what each is
pub find_passes : (p : JobView → Bool) (vs : List JobView) (w : JobView) → find p vs ≡ Some w → p w ≡ true
find_passes p [] w found = absurd cc
find_passes p (v ∷ vs) w found =
    elim (p v) as (λ b. p v ≡ b → cond b (Some v) (find p vs) ≡ Some w → p w ≡ true) [
      | true ↦ λ passes this. let same : v ≡ w = cc in subst (λ x. p x ≡ true) same passes
      | false ↦ λ _ later. find_passes p vs w later
    ] refl found

pub find_holds : (P : JobView → Type 0) (p : JobView → Bool) (vs : List JobView) (w : JobView) → AllByRecursion P vs → find p vs ≡ Some w → P w
find_holds P p [] w all found = absurd cc
find_holds P p (v ∷ vs) w all found =
    elim (p v) as (λ b. cond b (Some v) (find p vs) ≡ Some w → P w) [
      | true ↦ λ this. let same : v ≡ w = cc in subst P same all.0
      | false ↦ λ later. find_holds P p vs w all.1 later
    ] found

-- a filter is idle behind which a narrower one stands
pub filter-filter : (p q : JobView → Bool) (vs : List JobView) → ((v : JobView) → q v ≡ true → p v ≡ true) → filter q (filter p vs) ≡ filter q vs
filter-filter p q [] narrower = refl
filter-filter p q (v ∷ vs) narrower =
    elim (p v) as (λ b. p v ≡ b → filter q (cond b (v ∷ filter p vs) (filter p vs)) ≡ filter q (v ∷ vs)) [
      | true ↦ λ _. ap (λ rest. cond (q v) (v ∷ rest) rest) (filter-filter p q vs narrower)
      | false ↦ λ fails.
          let out : q v ≡ false = elim (q v) as (λ c. q v ≡ c → c ≡ false) [ true ↦ λ passes. let both : p v ≡ true = narrower v passes in cc | false ↦ λ _. refl ] refl in
          filter-filter p q vs narrower ∙ ap (λ c. cond c (v ∷ filter q vs) (filter q vs)) (sym out)
    ] refl

pub filter-all : (p : JobView → Bool) (vs : List JobView) → AllByRecursion (λ v. p v ≡ true) vs → filter p vs ≡ vs
filter-all p [] all = refl
filter-all p (v ∷ vs) all = ap (λ b. cond b (v ∷ filter p vs) (filter p vs)) all.0 ∙ ap (λ rest. v ∷ rest) (filter-all p vs all.1)

every_after : (vs : List JobView) → AllByRecursion (λ v. is_after None v ≡ true) vs
every_after [] = tt
every_after (v ∷ vs) = (refl, every_after vs)

-- before the first is chosen none is passed over
pub filter-is_after : (vs : List JobView) → filter (is_after None) vs ≡ vs
filter-is_after vs = filter-all (is_after None) vs (every_after vs)

itself : (v : JobView) → rank_before v v ≡ false
itself v = elim (rank_before v v) as (λ b. rank_before v v ≡ b → b ≡ false) [ true ↦ λ before. sym before ∙ rank_not_back v v before | false ↦ λ _. refl ] refl

pub filter-first : (v : JobView) (vs : List JobView) → IsRanked (v ∷ vs) → filter (rank_before v) (v ∷ vs) ≡ vs
filter-first v vs ranked = ap (λ b. cond b (v ∷ filter (rank_before v) vs) (filter (rank_before v) vs)) (itself v) ∙ filter-all (rank_before v) vs ranked.0

-- behind one that is found later, the first is no more
pub filter-later : (p : JobView → Bool) (v : JobView) (vs : List JobView) (w : JobView) → IsRanked (v ∷ vs) → find p vs ≡ Some w → filter (rank_before w) (v ∷ vs) ≡ filter (rank_before w) vs
filter-later p v vs w ranked found =
    ap (λ b. cond b (v ∷ filter (rank_before w) vs) (filter (rank_before w) vs)) (rank_not_back v w (find_holds (λ x. rank_before v x ≡ true) p vs w ranked.0 found))

-- those behind one that comes after the last are behind both
pub filter-after : (last : Option JobView) (w : JobView) (vs : List JobView) → is_after last w ≡ true → filter (is_after (Some w)) (filter (is_after last) vs) ≡ filter (is_after (Some w)) vs
filter-after None w vs after = filter-filter (is_after None) (is_after (Some w)) vs (λ v _. refl)
filter-after (Some last) w vs after = filter-filter (is_after (Some last)) (is_after (Some w)) vs (λ v behind. rank_along last w v after behind)
