-- Items to do that stand in a row.
use Rattle.std.proofs.Common.{◌≡◌, ℕ, zero, suc, ◌+◌, ◌-◌, ◌<◌, ◌≤◌, true, false, cond, not, ◌&&◌, ◌||◌, List, [], ◌∷◌, length, take, drop, refl, sym, ap, ◌∙◌, subst, arith}
use Rattle.std.specs.Prelude.{slice_index_or}
use Rattle.std.specs.List.{list_all, list_any, position_or_len}
use Rattle.checkpoints.specs.declared.checkpoint.ItemSaved.{ItemSaved}
use Rattle.engine_history.specs.Items.{is_to_do}
use Rattle.engine_history.specs.Steps.{IsRun}
use Rattle.engine_history.specs.declared.job.JobState.{JobState}
use Rattle.engine_core.specs.Tasks.{run_of}

-- `count` items at the front are to do, and these stand behind them
abbrev pub RunsOn : ℕ → ℕ → List ItemSaved → List ItemSaved → Type 0
RunsOn most count rest items = (left : ℕ) → most ≡ count + left → run_of most items ≡ count + run_of left rest

run_few : (most : ℕ) (items : List ItemSaved) → run_of most items ≤ most
run_few zero items = omega arith
run_few (suc most) [] = omega arith
run_few (suc most) (i ∷ is) = elim (is_to_do i) as (λ t. cond t (suc (run_of most is)) 0 ≤ suc most) [ true ↦ omega (arith, run_few most is) | false ↦ omega arith ]

run_within : (most : ℕ) (items : List ItemSaved) → run_of most items ≤ length items
run_within zero items = omega arith
run_within (suc most) [] = omega arith
run_within (suc most) (i ∷ is) = elim (is_to_do i) as (λ t. cond t (suc (run_of most is)) 0 ≤ suc (length is)) [ true ↦ omega (arith, run_within most is) | false ↦ omega arith ]

run_all : (most : ℕ) (items : List ItemSaved) → list_all is_to_do (take (run_of most items) items) ≡ true
run_all zero items = refl
run_all (suc most) [] = refl
run_all (suc most) (i ∷ is) =
    elim (is_to_do i) as (λ t. is_to_do i ≡ t → list_all is_to_do (take (cond t (suc (run_of most is)) 0) (i ∷ is)) ≡ true) [
      | true ↦ λ here. ap (λ t. t && list_all is_to_do (take (run_of most is) is)) here ∙ run_all most is
      | false ↦ λ _. refl
    ] refl

drop_one : (n : ℕ) (i : ItemSaved) (is : List ItemSaved) → drop (1 + n) (i ∷ is) ≡ drop n is
drop_one n i is = let next : 1 + n ≡ suc n = omega arith in ap (λ m. drop m (i ∷ is)) next

-- where one is to do, the first of them begins a run
first_run : (most : ℕ) (items : List ItemSaved) → 1 ≤ most → list_any is_to_do items ≡ true → (1 ≤ run_of most (drop (position_or_len is_to_do items) items)) × (position_or_len is_to_do items < length items)
first_run zero items some any = absurd (omega (arith, some))
first_run (suc most) [] some any = absurd cc
first_run (suc most) (i ∷ is) some any =
    elim (is_to_do i) as (λ t. is_to_do i ≡ t → list_any is_to_do (i ∷ is) ≡ true → (1 ≤ run_of (suc most) (drop (cond (not t) (1 + position_or_len is_to_do is) 0) (i ∷ is))) × (cond (not t) (1 + position_or_len is_to_do is) 0 < suc (length is))) [
      | true ↦ λ here _. (subst (λ t. 1 ≤ cond t (suc (run_of most is)) 0) (sym here) (omega arith), omega arith)
      | false ↦ λ other later.
          let rest = first_run (suc most) is some (subst (λ t. t || list_any is_to_do is ≡ true) other later) in
          (subst (λ (xs : List ItemSaved). 1 ≤ run_of (suc most) xs) (sym (drop_one (position_or_len is_to_do is) i is)) rest.0, omega (arith, rest.1))
    ] refl any

length_drop_run : (n most : ℕ) (items : List ItemSaved) → n ≤ length items → n + run_of most (drop n items) ≤ length items
length_drop_run zero most items within = omega (arith, run_within most items)
length_drop_run (suc n) most [] within = absurd (omega (arith, within))
length_drop_run (suc n) most (i ∷ is) within = omega (arith, length_drop_run n most is (omega (arith, within)))

-- the task of a job that has an item to do
pub run_is : (j : JobState) (most : ℕ) → 1 ≤ most → most ≤ 8 → list_any is_to_do j.items ≡ true → IsRun j j.phase (position_or_len is_to_do j.items) (run_of most (drop (position_or_len is_to_do j.items) j.items))
run_is j most some few any =
    let first = position_or_len is_to_do j.items in
    let start = first_run most j.items some any in
    let most_few = run_few most (drop first j.items) in record {
      phase_now = refl;
      first_one = refl;
      some = start.0;
      few = omega (arith, most_few, few);
      within = length_drop_run first most j.items (omega (arith, start.1));
      all = run_all most (drop first j.items);
    }

-- ---- the run, item by item

drop_at : (i : ℕ) (items : List ItemSaved) (d : ItemSaved) → i < length items → drop i items ≡ slice_index_or items i d ∷ drop (suc i) items
drop_at i [] d within = absurd (omega (arith, within))
drop_at zero (x ∷ xs) d within = refl
drop_at (suc i) (x ∷ xs) d within = drop_at i xs d (omega (arith, within))

run_nil : (n : ℕ) → run_of n [] ≡ 0
run_nil zero = refl
run_nil (suc n) = refl

drop_past : (i : ℕ) (items : List ItemSaved) → length items ≤ i → drop i items ≡ []
drop_past zero [] past = refl
drop_past (suc i) [] past = refl
drop_past zero (x ∷ xs) past = absurd (omega (arith, past))
drop_past (suc i) (x ∷ xs) past = drop_past i xs (omega (arith, past))

-- all that were asked for
pub run_full : (most count i : ℕ) (items : List ItemSaved) → RunsOn most count (drop i items) items → count ≡ most → count ≡ run_of most items
run_full most count i items run full = let whole : run_of most items ≡ count + 0 = run 0 (omega (arith, full)) in omega (arith, whole)

-- the items end
pub run_ends : (most count i : ℕ) (items : List ItemSaved) → RunsOn most count (drop i items) items → count ≤ most → length items ≤ i → count ≡ run_of most items
run_ends most count i items run few past =
    let whole = run (most - count) (omega (arith, few)) in
    let none : run_of (most - count) (drop i items) ≡ 0 = ap (run_of (most - count)) (drop_past i items past) ∙ run_nil (most - count) in
    omega (arith, whole, none)

-- the next one is not to do
pub run_stops : (most count i : ℕ) (items : List ItemSaved) (d : ItemSaved) → RunsOn most count (drop i items) items → count < most → i < length items → is_to_do (slice_index_or items i d) ≡ false → count ≡ run_of most items
run_stops most count i items d run more within other =
    let whole = run (suc (most - count - 1)) (omega (arith, more)) in
    let none : run_of (suc (most - count - 1)) (drop i items) ≡ 0 =
    ap (run_of (suc (most - count - 1))) (drop_at i items d within) ∙ ap (λ t. cond t (suc (run_of (most - count - 1) (drop (suc i) items))) 0) other in
    omega (arith, whole, none)

-- the next one is to do
pub run_goes : (most count i : ℕ) (items : List ItemSaved) (d : ItemSaved) → RunsOn most count (drop i items) items → i < length items → is_to_do (slice_index_or items i d) ≡ true → RunsOn most (count + 1) (drop (i + 1) items) items
run_goes most count i items d run within here left counted =
    let whole = run (suc left) (omega (arith, counted)) in
    let next : i + 1 ≡ suc i = omega arith in
    let one : run_of (suc left) (drop i items) ≡ suc (run_of left (drop (i + 1) items)) =
    ap (run_of (suc left)) (drop_at i items d within) ∙ ap (λ t. cond t (suc (run_of left (drop (suc i) items))) 0) here ∙ ap (λ n. suc (run_of left (drop n items))) (sym next) in
    omega (arith, whole, one)
