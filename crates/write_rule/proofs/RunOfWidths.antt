-- The run of a write, found over the numbers of data units alone.
use Rattle.std.proofs.Common.{◌≡◌, ℕ, zero, suc, ◌+◌, ◌-◌, ◌<◌, ◌≤◌, Bool, true, false, not, ◌&&◌, cond, leb, ◌/◌, min, max, List, [], ◌∷◌, length, take, sum_by, refl, sym, ap, subst, ◌∙◌, arith}
use Rattle.std.proofs.lemmas.Bool.{le-leb, lt-leb, cond-true, cond-false, and_right}
use Rattle.std.proofs.lemmas.List.Sums.{sum_by-cons}
use Rattle.domains.specs.declared.group.Group.{Group}
use Rattle.inode_codec.specs.Inode.{IsInode, data_units, units_for}
use Rattle.file_history.specs.Layout.{Layout}
use Rattle.file_history.specs.Live.{is_filled_up}
use Rattle.file_history.specs.Stored.{inode_of}
use Rattle.file_history.specs.WriteRule.{new_units}
use Rattle.write_rule.specs.Runs.{IsAffectedRun, run_of, last_unit, widths_of, first_from, begun_by, first_replaced, stop_replaced}
use Rattle.write_rule.specs.WriteRuns.{IsRunOfWrite, units_up_to}
use Rattle.write_rule.specs.declared.run.ReplacedRun.{ReplacedRun}
use Rattle.write_rule.proofs.RunLemmas.{affected_are_runs}

-- a group that ends by the unit stays, but for a last one that is filled up
pub first_from-stays : (n : ℕ) (ns : List ℕ) (s a : ℕ) (fills : ℕ → Bool) → s + n ≤ a → (length ns ≡ 0 → fills n ≡ false)
    → first_from (n ∷ ns) s a fills ≡ 1 + first_from ns (s + n) a fills
first_from-stays n [] s a fills past on =
    ap (λ (b : Bool). cond (b && not (fills n)) 1 0) (le-leb (s + n) a past) ∙ ap (λ (b : Bool). cond (not b) 1 0) (on refl)
first_from-stays n (m ∷ ns) s a fills past on = cond-true (leb (s + n) a) (1 + first_from (m ∷ ns) (s + n) a fills) 0 (le-leb (s + n) a past)

-- a group that ends behind it goes
pub first_from-ends : (n : ℕ) (ns : List ℕ) (s a : ℕ) (fills : ℕ → Bool) → a < s + n → first_from (n ∷ ns) s a fills ≡ 0
first_from-ends n [] s a fills here = ap (λ (b : Bool). cond (b && not (fills n)) 1 0) (lt-leb (s + n) a here)
first_from-ends n (m ∷ ns) s a fills here = cond-false (leb (s + n) a) (1 + first_from (m ∷ ns) (s + n) a fills) 0 (lt-leb (s + n) a here)

-- and so does a last one that is filled up
pub first_from-filled : (n : ℕ) (ns : List ℕ) (s a : ℕ) (fills : ℕ → Bool) → length ns ≡ 0 → fills n ≡ true → first_from (n ∷ ns) s a fills ≡ 0
first_from-filled n [] s a fills none on = ap (λ (b : Bool). cond b 1 0) (and_right (leb (s + n) a) (not (fills n)) (ap not on))
first_from-filled n (m ∷ ns) s a fills none on = absurd (omega (arith, none))

pub begun_by-stays : (n : ℕ) (ns : List ℕ) (s b : ℕ) → s ≤ b → begun_by (n ∷ ns) s b ≡ 1 + begun_by ns (s + n) b
begun_by-stays n ns s b here = cond-true (leb s b) (1 + begun_by ns (s + n) b) 0 (le-leb s b here)

pub begun_by-ends : (ns : List ℕ) (s b : ℕ) → b < s → begun_by ns s b ≡ 0
begun_by-ends [] s b past = refl
begun_by-ends (n ∷ ns) s b past = cond-false (leb s b) (1 + begun_by ns (s + n) b) 0 (lt-leb s b past)

units-of : (gs : List Group) → sum_by (λ (n : ℕ). n) (widths_of gs) ≡ data_units gs
units-of [] = refl
units-of (g ∷ gs) =
    let one = sum_by-cons (λ (n : ℕ). n) g.n (widths_of gs) in
    let other = sum_by-cons (λ (h : Group). h.n) g gs in
    let rest = units-of gs in
    omega (arith, one, other, rest)

taken_widths : (k : ℕ) (gs : List Group) → take k (widths_of gs) ≡ widths_of (take k gs)
taken_widths zero gs = refl
taken_widths (suc k) [] = refl
taken_widths (suc k) (g ∷ gs) = ap (λ (l : List ℕ). g.n ∷ l) (taken_widths k gs)

-- the data units at the front, of the groups and of their numbers
pub units_up_to-widths : (k : ℕ) (gs : List Group) → units_up_to (widths_of gs) k ≡ data_units (take k gs)
units_up_to-widths k gs = ap (sum_by (λ (n : ℕ). n)) (taken_widths k gs) ∙ units-of (take k gs)

none_taken : (k : ℕ) → data_units (take k []) ≡ 0
none_taken zero = refl
none_taken (suc k) = refl

-- and of a run
units_of_run : (gs : List Group) (first stop : ℕ) → first ≤ stop → data_units (run_of gs first (stop - first)) ≡ data_units (take stop gs) - data_units (take first gs)
units_of_run gs first stop ordered =
    let parts = take-run gs first (stop - first) in
    let back : first + (stop - first) ≡ stop = omega (arith, ordered) in
    let same : data_units (take (first + (stop - first)) gs) ≡ data_units (take stop gs) = ap (λ (k : ℕ). data_units (take k gs)) back in
    omega (arith, parts, same)
  where
    take-run : (gs : List Group) (first count : ℕ) → data_units (take (first + count) gs) ≡ data_units (take first gs) + data_units (run_of gs first count)
    take-run gs zero count =
        let none : 0 + count ≡ count = omega arith in
        let same : data_units (take (0 + count) gs) ≡ data_units (take count gs) = ap (λ (k : ℕ). data_units (take k gs)) none in
        omega (arith, same)
    take-run [] (suc first) count =
        let all = none_taken (suc first + count) in
        let rest = none_taken count in
        omega (arith, all, rest)
    take-run (g ∷ gs) (suc first) count =
        let next : suc first + count ≡ suc (first + count) = omega arith in
        let same : data_units (take (suc first + count) (g ∷ gs)) ≡ data_units (g ∷ take (first + count) gs) = ap (λ (k : ℕ). data_units (take k (g ∷ gs))) next in
        let parts = take-run gs first count in
        let whole = sum_by-cons (λ (h : Group). h.n) g (take (first + count) gs) in
        let front = sum_by-cons (λ (h : Group). h.n) g (take first gs) in
        omega (arith, parts, whole, front, same)

-- the run that the counts over the numbers give is the one that the write replaces
pub run_found : (unit : ℕ) (l : Layout) (offset len width : ℕ) (ws : List ℕ) (run : ReplacedRun) (stop last : ℕ)
    → IsInode (inode_of unit l) → 1 ≤ len → widths_of l.groups ≡ ws → last ≡ last_unit unit offset len
    → run.first ≡ first_from ws 0 (min (offset / unit) (units_for unit l.size)) (is_filled_up unit l.size offset len width)
    → stop ≡ begun_by ws 0 last
    → run.count ≡ stop - run.first → run.start ≡ units_up_to ws run.first → run.units ≡ units_up_to ws stop - run.start
    → run.new_units ≡ max (last + 1) (run.start + run.units) - run.start
    → IsRunOfWrite unit l offset len width run
run_found unit l offset len width ws run stop last is some widths last_is first_is stop_is count_is start_is units_is new_is =
    let found = affected_are_runs unit l offset len width is some in
    let first_eq : run.first ≡ first_replaced unit l offset len width =
    first_is ∙ ap (λ (ns : List ℕ). first_from ns 0 (min (offset / unit) (units_for unit l.size)) (is_filled_up unit l.size offset len width)) (sym widths) in
    let stop_eq : stop ≡ stop_replaced unit l offset len =
    stop_is ∙ ap (λ (k : ℕ). begun_by ws 0 k) last_is ∙ ap (λ (ns : List ℕ). begun_by ns 0 (last_unit unit offset len)) (sym widths) in
    let count_eq : run.count ≡ stop_replaced unit l offset len - first_replaced unit l offset len width =
    count_is ∙ ap (λ (k : ℕ). k - run.first) stop_eq ∙ ap (λ (k : ℕ). stop_replaced unit l offset len - k) first_eq in
    let run_is : IsAffectedRun unit l offset len width run.first run.count =
    subst (λ (k : ℕ). IsAffectedRun unit l offset len width k run.count) (sym first_eq)
    (subst (λ (k : ℕ). IsAffectedRun unit l offset len width (first_replaced unit l offset len width) k) (sym count_eq) found.1) in
    let front : units_up_to ws run.first ≡ data_units (take run.first l.groups) =
    ap (λ (ns : List ℕ). units_up_to ns run.first) (sym widths) ∙ units_up_to-widths run.first l.groups in
    let all : units_up_to ws stop ≡ data_units (take stop l.groups) =
    ap (λ (ns : List ℕ). units_up_to ns stop) (sym widths) ∙ units_up_to-widths stop l.groups in
    let ordered : run.first ≤ stop = le_eq run.first stop (first_replaced unit l offset len width) (stop_replaced unit l offset len) first_eq stop_eq found.0 in
    let between = units_of_run l.groups run.first stop ordered in
    let same : data_units (run_of l.groups run.first run.count) ≡ data_units (run_of l.groups run.first (stop - run.first)) =
    ap (λ (k : ℕ). data_units (run_of l.groups run.first k)) count_is in
    let covers = run_is.covers in
    let units_are : run.units ≡ data_units (run_of l.groups run.first run.count) = omega (arith, units_is, start_is, front, all, between, same) in
    record {
      affected = run_is;
      start = start_is ∙ front;
      units = units_are;
      new_units = new_are run.new_units (last + 1) (last_unit unit offset len + 1) run.start run.units (data_units (take run.first l.groups))
          (data_units (run_of l.groups run.first run.count)) (new_units unit l offset len width) new_is (ap (λ (k : ℕ). k + 1) last_is) (start_is ∙ front) units_are covers;
    }
  where
    le_eq : (a b x y : ℕ) → a ≡ x → b ≡ y → x ≤ y → a ≤ b
    le_eq a b x y p q le = omega (arith, p, q, le)

    new_are : (found last last_is start units s u new : ℕ) → found ≡ max last (start + units) - start → last ≡ last_is → start ≡ s → units ≡ u
        → s + new ≡ max last_is (s + u) → found ≡ new
    new_are found last last_is start units s u new is a b c covers = omega (arith, is, a, b, c, covers)
