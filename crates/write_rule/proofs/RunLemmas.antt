-- A write replaces a run of groups.
use Rattle.std.proofs.Common.{◌≡◌, ℕ, zero, suc, ◌+◌, ◌-◌, ◌*◌, ◌/◌, ◌<◌, ◌≤◌, min, max, ◌⊎◌, inl, inr, List, length, map, take, drop, refl, ap, subst, ◌∙◌, arith}
use Rattle.std.proofs.lemmas.List.{drop_all}
use Rattle.std.proofs.lemmas.Nat.{mul-le}
use Rattle.domains.specs.declared.group.Group.{Group}
use Rattle.inode_codec.specs.Inode.{data_units, units_for, AreGenerations}
use Rattle.file_history.specs.Bytes.{overwrite, bytes_after}
use Rattle.file_history.specs.Layout.{Layout, replaced}
use Rattle.file_history.specs.WriteRule.{affected_groups, groups_before, generations_of, new_units, AreChunks}
use Rattle.file_history.specs.declared.entry.Change.{Change}
use Rattle.write_rule.specs.Runs.{IsAffectedRun, run_of, last_unit, ends_that, first_replaced, stop_replaced}
use Rattle.file_history.specs.Live.{is_filled_up, has_bytes_outside}
use Rattle.write_rule.specs.SplicedRun.{IsRunOf}
use Rattle.write_rule.specs.Laws.{AffectedAreRuns, WritesReplaceRuns}
use Rattle.write_rule.proofs.TestedGroups.{Picked}
use Rattle.write_rule.proofs.AffectedGroups.{is_affected, first_of, last_of, affected_run, first_byte}
use Rattle.write_rule.proofs.NeededGroups.{ends_only}
use Rattle.std.proofs.lemmas.List.Sums.{sum_by-take-drop, sum_by-take-le}
use Rattle.write_rule.proofs.GroupsBefore.{before_run, replaced_run}
use Rattle.write_rule.proofs.CoveredUnits.{chunks, units_hold, last_holds, reach, to_end}
use Rattle.write_rule.proofs.NewBytesByPlace.{overwrite_length}

-- the later of two numbers, without the first part of one of them
rejoined : (m s r n : ℕ) → n ≡ max m (s + r) - s → s + n ≡ max m (s + r)
rejoined m s r n is = omega (arith, is)

starts_at : (s k unit offset : ℕ) → s ≤ k → k * unit ≤ offset → s * unit ≤ offset
starts_at s k unit offset low fits = let most = mul-le s unit k unit low (omega arith) in omega (arith, most, fits)

below_min : (s a b : ℕ) → 0 + s ≤ min a b → s ≤ a
below_min s a b low = omega (arith, low)

from_zero : (k s : ℕ) → k ≡ 0 + s → k ≡ s
from_zero k s is = omega (arith, is)

pub some_or_all : (first count long : ℕ) → (count ≡ 0 → first ≡ long) → (1 ≤ count) ⊎ (first ≡ long)
some_or_all first zero long none = inr (none refl)
some_or_all first (suc count) long none = inl (omega arith)

none_of : (first count long : ℕ) → (1 ≤ count) ⊎ (first ≡ long) → count ≡ 0 → first ≡ long
none_of first count long (inl some) none = absurd (omega (arith, some, none))
none_of first count long (inr all) none = all

new_units_of : (unit : ℕ) (l : Layout) (offset len width : ℕ) (front run : List Group)
    → affected_groups unit l offset len width ≡ run → groups_before run l.groups ≡ front
    → new_units unit l offset len width ≡ max (last_unit unit offset len + 1) (data_units front + data_units run) - data_units front
new_units_of unit l offset len width front run run_is front_is =
    ap (λ (gs : List Group). max (last_unit unit offset len + 1) (data_units (groups_before gs l.groups) + data_units gs) - data_units (groups_before gs l.groups)) run_is
    ∙ ap (λ (gs : List Group). max (last_unit unit offset len + 1) (data_units gs + data_units run) - data_units gs) front_is

within_units : (s d k all units from : ℕ) → from ≡ 0 + s → s + d ≡ all → k ≤ d → all ≡ units → from + k ≤ units
within_units s d k all units from is whole part sum = omega (arith, is, whole, part, sum)

picked_run : (unit : ℕ) (l : Layout) (offset len width : ℕ) → 1 ≤ unit → 1 ≤ len → data_units l.groups ≡ units_for unit l.size → AreGenerations l.groups
    → (p : Picked (is_affected unit l offset len width) (has_bytes_outside unit l.size offset len) (is_filled_up unit l.size offset len width) (first_of unit l offset len width) (last_of unit l offset len width) l.groups 0)
    → IsAffectedRun unit l offset len width p.first p.count
picked_run unit l offset len width wide some sum differ p =
    let run : affected_groups unit l offset len width ≡ run_of l.groups p.first p.count = p.run in
    let before : groups_before (run_of l.groups p.first p.count) l.groups ≡ take p.first l.groups = before_run l.groups p.first p.count differ p.none in
    record {
      within = p.within;
      run = run;
      none = none_of p.first p.count (length l.groups) p.none;
      before = ap (λ (gs : List Group). groups_before gs l.groups) run ∙ before;
      needed = p.some
          ∙ ends_only unit l.size offset len wide some (run_of l.groups p.first p.count) p.from (first_of unit l offset len width) (units_for unit l.size) refl
          (within_units (data_units (take p.first l.groups)) (data_units (drop p.first l.groups)) (data_units (run_of l.groups p.first p.count)) (data_units l.groups) (units_for unit l.size) p.from
          p.from_is (sum_by-take-drop (λ (g : Group). g.n) l.groups p.first) (sum_by-take-le (λ (g : Group). g.n) (drop p.first l.groups) p.count) sum) p.inner
          ∙ ap (λ (k : ℕ). ends_that (run_of l.groups p.first p.count) k (has_bytes_outside unit l.size offset len)) (from_zero p.from (data_units (take p.first l.groups)) p.from_is);
      starts = starts_at (data_units (take p.first l.groups)) (offset / unit) unit offset
          (below_min (data_units (take p.first l.groups)) (offset / unit) (units_for unit l.size) p.before) (first_byte unit offset);
      covers = rejoined (last_unit unit offset len + 1) (data_units (take p.first l.groups)) (data_units (run_of l.groups p.first p.count)) (new_units unit l offset len width)
          (new_units_of unit l offset len width (take p.first l.groups) (run_of l.groups p.first p.count) run before);
      ends = elim p.ends [ inl all ↦ inl all | inr more ↦ inr (omega (arith, more)) ];
    }

pub affected_are_runs : AffectedAreRuns
affected_are_runs unit l offset len width is some =
    let wide = is.least_unit in
    let p = affected_run unit l offset len width (has_bytes_outside unit l.size offset len) (omega (arith, wide)) some is.sum in
    placed (first_replaced unit l offset len width) (stop_replaced unit l offset len) p.first p.count p.first_is p.stop_is
    (picked_run unit l offset len width (omega (arith, wide)) some is.sum is.generations p)
  where
    placed : (f e first count : ℕ) → first ≡ f → first + count ≡ e → IsAffectedRun unit l offset len width first count
        → (f ≤ e) × IsAffectedRun unit l offset len width f (e - f)
    placed f e first count first_is stop_is r = (
      omega (arith, first_is, stop_is),
      subst (λ (n : ℕ). IsAffectedRun unit l offset len width f n) (omega (arith, first_is, stop_is)) (subst (λ (n : ℕ). IsAffectedRun unit l offset len width n count) first_is r),
    )

-- what a switch asks, by numbers
module _ (unit : ℕ) (l : Layout) (old payload : List ℕ) (offset width first count : ℕ) (change : Change) where
  run_replaced : 1 ≤ unit → 1 ≤ length payload → AreGenerations l.groups → data_units l.groups ≡ units_for unit l.size → l.size ≡ length old
      → change.old ≡ generations_of (affected_groups unit l offset (length payload) width)
      → AreChunks (new_units unit l offset (length payload) width) width (map (λ (g : Group). g.n) change.new)
      → IsAffectedRun unit l offset (length payload) width first count
      → IsRunOf unit l old payload offset first count change
  run_replaced wide some differ sum size gone shared r =
      let s : ℕ = data_units (take first l.groups) in
      let k : ℕ = data_units (run_of l.groups first count) in
      let n : ℕ = data_units change.new in
      let b : ℕ = last_unit unit offset (length payload) in
      let covers : s + n ≡ max (b + 1) (s + k) = ap (λ (x : ℕ). s + x) (chunks change.new (new_units unit l offset (length payload) width) width shared) ∙ r.covers in
      let last : offset + length payload ≤ (b + 1) * unit = last_holds unit offset (length payload) wide some in
      record {
        within = r.within;
        run = ap (λ (o : List ℕ). replaced o change.new l.groups) (gone ∙ ap generations_of r.run)
            ∙ replaced_run l.groups change.new first count differ (some_or_all first count (length l.groups) r.none) r.within;
        before = r.starts;
        covers = elim r.ends [
          | inl all ↦ inl (
            drop_all (first + count) l.groups (omega (arith, all)),
            longest (length (overwrite old offset payload)) (offset + length payload) (length old) (s * unit + n * unit) (overwrite_length old offset payload)
                (reach (b + 1) s n unit (offset + length payload) last (omega (arith, covers)))
                (subst (λ (z : ℕ). z ≤ s * unit + n * unit) size
                (reach (units_for unit l.size) s n unit l.size (units_hold unit l.size wide) (up_to_end (units_for unit l.size) (data_units l.groups) s k n (b + 1) sum (to_end l.groups first count all) covers))),
          )
          | inr within ↦ inr (
            same_units s k n b covers within,
            reach (b + 1) s k unit (offset + length payload) last (omega (arith, within)),
          )
        ];
      }
    where
      longest : (x e o m : ℕ) → x ≡ e + (o - e) → e ≤ m → o ≤ m → x ≤ m
      longest x e o m is first second = omega (arith, is, first, second)

      up_to_end : (u d s k n m : ℕ) → d ≡ u → s + k ≡ d → s + n ≡ max m (s + k) → u ≤ s + n
      up_to_end u d s k n m sum whole covers = omega (arith, sum, whole, covers)

      same_units : (s k n b : ℕ) → s + n ≡ max (b + 1) (s + k) → b < s + k → n ≡ k
      same_units s k n b covers within = omega (arith, covers, within)

pub writes_replace_runs : WritesReplaceRuns
writes_replace_runs now log l offset size first count change payload is size_is some w r =
    let wide = is.least_unit in
    run_replaced now.shape.unit l (bytes_after log) payload offset w.width first count change (omega (arith, wide)) some is.generations is.sum size_is w.old w.chunks r
