-- The first in rank of the jobs that pass a test, found in one walk through them.
use Rattle.std.proofs.Common.{◌≡◌, ℕ, ◌≤◌, length, drop, Bool, true, false, cond, List, [], ◌∷◌, Option, Some, None, refl, sym, ap, ◌∙◌}
use Rattle.std.proofs.lemmas.List.{drop_all}
use Rattle.std.specs.List.{AllByRecursion, find}
use Rattle.job_rules.specs.Rank.{earlier, in_rank, place, rank_before}
use Rattle.job_rules.specs.declared.rank.JobView.{JobView}
use Rattle.job_rules.proofs.RankLemmas.{rank_along, rank_not_along, rank_not_back}

-- the first in rank of those that pass, and of the one before them
abbrev pub earliest : (JobView → Bool) → List JobView → Option JobView → Option JobView
earliest p [] first = first
earliest p (v ∷ vs) first = earliest p vs (cond (p v) (earlier first v) first)

-- no job ranks before one that stands before it
abbrev pub IsOrdered : List JobView → Type 0
IsOrdered [] = Unit {0}
IsOrdered (v ∷ vs) = AllByRecursion (λ w. rank_before w v ≡ false) vs × IsOrdered vs

-- the first in rank of two, each of which may be missing
abbrev sooner : Option JobView → Option JobView → Option JobView
sooner first None = first
sooner first (Some v) = earlier first v

sooner-none : (v : Option JobView) → sooner None v ≡ v
sooner-none None = refl
sooner-none (Some v) = refl

pub all-place : (P : JobView → Type 0) (v : JobView) (ws : List JobView) → P v → AllByRecursion P ws → AllByRecursion P (place v ws)
all-place P v [] here all = (here, tt)
all-place P v (w ∷ ws) here all =
    elim (rank_before w v) as (λ b. AllByRecursion P (cond b (w ∷ place v ws) (v ∷ w ∷ ws))) [
      | true ↦ (all.0, all-place P v ws here all.1)
      | false ↦ (here, all)
    ]

all_behind : (v w : JobView) (ws : List JobView) → rank_before w v ≡ false → AllByRecursion (λ x. rank_before x w ≡ false) ws → AllByRecursion (λ x. rank_before x v ≡ false) ws
all_behind v w [] behind all = tt
all_behind v w (x ∷ xs) behind all = (rank_not_along x w v all.0 behind, all_behind v w xs behind all.1)

ordered-place : (v : JobView) (ws : List JobView) → IsOrdered ws → IsOrdered (place v ws)
ordered-place v [] ordered = (tt, tt)
ordered-place v (w ∷ ws) ordered =
    elim (rank_before w v) as (λ b. rank_before w v ≡ b → IsOrdered (cond b (w ∷ place v ws) (v ∷ w ∷ ws))) [
      | true ↦ λ before. (all-place (λ x. rank_before x w ≡ false) v ws (rank_not_back w v before) ordered.0, ordered-place v ws ordered.1)
      | false ↦ λ behind. ((behind, all_behind v w ws behind ordered.0), ordered)
    ] refl

pub ordered-in_rank : (vs : List JobView) → IsOrdered (in_rank vs)
ordered-in_rank [] = tt
ordered-in_rank (v ∷ vs) = ordered-place v (in_rank vs) (ordered-in_rank vs)

-- a job stays the first where no other ranks before it
stays_first : (p : JobView → Bool) (v : JobView) (ws : List JobView) → AllByRecursion (λ x. rank_before x v ≡ false) ws → sooner (Some v) (find p ws) ≡ Some v
stays_first p v [] all = refl
stays_first p v (w ∷ ws) all =
    elim (p w) as (λ b. sooner (Some v) (cond b (Some w) (find p ws)) ≡ Some v) [
      | true ↦ ap (λ b. cond b (Some w) (Some v)) all.0
      | false ↦ stays_first p v ws all.1
    ]

find-place : (p : JobView → Bool) (v : JobView) (ws : List JobView) → IsOrdered ws → find p (place v ws) ≡ sooner (cond (p v) (Some v) None) (find p ws)
find-place p v [] ordered = refl
find-place p v (w ∷ ws) ordered =
    elim (rank_before w v) as (λ b. rank_before w v ≡ b → find p (cond b (w ∷ place v ws) (v ∷ w ∷ ws)) ≡ sooner (cond (p v) (Some v) None) (cond (p w) (Some w) (find p ws))) [
      | true ↦ λ before.
          elim (p w) as (λ c. cond c (Some w) (find p (place v ws)) ≡ sooner (cond (p v) (Some v) None) (cond c (Some w) (find p ws))) [
            | true ↦ elim (p v) as (λ d. Some w ≡ earlier (cond d (Some v) None) w) [
              | true ↦ ap (λ b. cond b (Some w) (Some v)) (sym before)
              | false ↦ refl
            ]
            | false ↦ find-place p v ws ordered.1
          ]
      | false ↦ λ behind.
          let rest : Option JobView = cond (p w) (Some w) (find p ws) in
          elim (p v) as (λ d. cond d (Some v) rest ≡ sooner (cond d (Some v) None) rest) [
            | true ↦ sym (stays_first p v (w ∷ ws) (behind, all_behind v w ws behind ordered.0))
            | false ↦ sym (sooner-none rest)
          ]
    ] refl

sooner-earlier : (first : Option JobView) (v : JobView) (last : Option JobView) → sooner (earlier first v) last ≡ sooner first (sooner (Some v) last)
sooner-earlier first v None = refl
sooner-earlier None v (Some y) = sym (sooner-none (earlier (Some v) y))
sooner-earlier (Some b) v (Some y) =
    elim (rank_before v b) as (λ s. rank_before v b ≡ s → earlier (cond s (Some v) (Some b)) y ≡ sooner (Some b) (cond (rank_before y v) (Some y) (Some v))) [
      | true ↦ λ v_before.
          elim (rank_before y v) as (λ t. rank_before y v ≡ t → cond t (Some y) (Some v) ≡ sooner (Some b) (cond t (Some y) (Some v))) [
            | true ↦ λ y_before. ap (λ u. cond u (Some y) (Some b)) (sym (rank_along y v b y_before v_before))
            | false ↦ λ y_behind. ap (λ u. cond u (Some v) (Some b)) (sym v_before)
          ] refl
      | false ↦ λ v_behind.
          elim (rank_before y v) as (λ t. rank_before y v ≡ t → cond (rank_before y b) (Some y) (Some b) ≡ sooner (Some b) (cond t (Some y) (Some v))) [
            | true ↦ λ y_before. refl
            | false ↦ λ y_behind. ap (λ u. cond u (Some y) (Some b)) (rank_not_along y v b y_behind v_behind) ∙ ap (λ u. cond u (Some v) (Some b)) (sym v_behind)
          ] refl
    ] refl

earliest-sooner : (p : JobView → Bool) (vs : List JobView) (first : Option JobView) → earliest p vs first ≡ sooner first (find p (in_rank vs))
earliest-sooner p [] first = refl
earliest-sooner p (v ∷ vs) first =
    let rest : Option JobView = find p (in_rank vs) in
    (elim (p v) as (λ b. earliest p vs (cond b (earlier first v) first) ≡ sooner first (sooner (cond b (Some v) None) rest)) [
      | true ↦ earliest-sooner p vs (earlier first v) ∙ sooner-earlier first v rest
      | false ↦ earliest-sooner p vs first ∙ ap (sooner first) (sym (sooner-none rest))
    ])
    ∙ ap (sooner first) (sym (find-place p v (in_rank vs) (ordered-in_rank vs)))

-- what one walk finds is the first in rank
pub find-in_rank : (p : JobView → Bool) (vs : List JobView) → earliest p vs None ≡ find p (in_rank vs)
find-in_rank p vs = earliest-sooner p vs None ∙ sooner-none (find p (in_rank vs))

pub walked : (p : JobView → Bool) (vs : List JobView) (n : ℕ) (first : Option JobView) → length vs ≤ n → earliest p (drop n vs) first ≡ earliest p vs None → first ≡ find p (in_rank vs)
walked p vs n first end walk = ap (λ rest. earliest p rest first) (sym (drop_all n vs end)) ∙ walk ∙ find-in_rank p vs
