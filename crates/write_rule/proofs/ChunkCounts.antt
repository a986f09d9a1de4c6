-- How many data units and groups a map has after a write.
use Rattle.std.proofs.Common.{◌≡◌, ℕ, suc, ◌+◌, ◌-◌, ◌*◌, ◌<◌, ◌≤◌, min, max, ◌⊎◌, inl, inr, List, [], ◌∷◌, ◌++◌, length, map, take, drop, sym, ap, ◌∙◌, arith, length-append}
use Rattle.std.proofs.lemmas.Bool.{cases_lt}
use Rattle.std.proofs.lemmas.Nat.{div-add-mod', mul-le, le-div, div_below}
use Rattle.std.proofs.lemmas.List.{take-append-drop, drop-drop, drop_all, length-take, length-drop, length-map}
use Rattle.std.proofs.lemmas.List.Sums.{sum_by-append}
use Rattle.domains.specs.declared.group.Group.{Group}
use Rattle.inode_codec.specs.Inode.{data_units, units_for, AreGenerations}
use Rattle.file_history.specs.Bytes.{overwrite, bytes_after}
use Rattle.file_history.specs.Layout.{Layout, replaced}
use Rattle.file_history.specs.WriteRule.{affected_groups, generations_of, new_units, AreChunks, chunk_count, groups_after_write}
use Rattle.file_history.specs.declared.entry.Change.{Change}
use Rattle.write_rule.specs.Runs.{IsAffectedRun, run_of, last_unit}
use Rattle.map_changes.specs.ChangedMaps.{spliced}
use Rattle.write_rule.specs.Laws.{WritesKeepUnits, WritesCountGroups}
use Rattle.write_rule.proofs.GroupsBefore.{replaced_run}
use Rattle.write_rule.proofs.CoveredUnits.{chunks, units_hold, last_holds}
use Rattle.write_rule.proofs.NewBytesByPlace.{overwrite_length}
use Rattle.write_rule.proofs.RunLemmas.{some_or_all}

more_units : (n unit : ℕ) → (n + 1) * unit ≡ n * unit + unit
more_units n unit = grind arith

next : (n : ℕ) → suc n ≡ n + 1
next n = omega arith

more_suc : (n unit : ℕ) → suc n * unit ≡ n * unit + unit
more_suc n unit = ap (λ (m : ℕ). m * unit) (next n) ∙ more_units n unit

-- m units hold z bytes, and m - 1 do not
units_of : (unit z m : ℕ) → 1 ≤ unit → z ≤ m * unit → m * unit < z + unit → units_for unit z ≡ m
units_of unit z m wide high low =
    let least = le-div m (z + (unit - 1)) unit (omega (arith, wide)) (omega (arith, low)) in
    let more = more_units m unit in
    let most = div_below (z + (unit - 1)) unit (m + 1) (omega (arith, wide)) (omega (arith, wide, high, more)) in
    omega (arith, least, most)

-- the units of a file after a write
units_after : (unit offset len old z : ℕ) → 1 ≤ unit → 1 ≤ len → z ≡ offset + len + (old - (offset + len))
    → units_for unit z ≡ max (last_unit unit offset len + 1) (units_for unit old)
units_after unit offset len old z wide some z_is =
    let b : ℕ = last_unit unit offset len in
    let u : ℕ = units_for unit old in
    let parts = div-add-mod' (offset + len - 1) unit in
    let more = more_units b unit in
    let fits = last_holds unit offset len wide some in
    let holds = units_hold unit old wide in
    let old_parts = div-add-mod' (old + (unit - 1)) unit in
    elim (cases_lt (b + 1) u) [
      | inl inner ↦
          let most = mul-le (b + 1) unit u unit (omega (arith, inner)) (omega arith) in
          units_of unit z u wide (omega (arith, z_is, fits, holds, most)) (omega (arith, z_is, old_parts, wide)) ∙ omega (arith, inner)
      | inr outer ↦
          let most = mul-le u unit (b + 1) unit outer (omega arith) in
          units_of unit z (b + 1) wide (omega (arith, z_is, fits, holds, most)) (omega (arith, z_is, parts, more, some, wide)) ∙ omega (arith, outer)
    ]

in_three : (gs : List Group) (first count : ℕ) → data_units gs ≡ data_units (take first gs) + (data_units (take count (drop first gs)) + data_units (drop (first + count) gs))
in_three gs first count =
    ap data_units (sym (take-append-drop first gs) ∙ ap (λ l. take first gs ++ l) (sym (take-append-drop count (drop first gs)) ∙ ap (λ l. take count (drop first gs) ++ l) (drop-drop count first gs)))
    ∙ sum_by-append (λ (g : Group). g.n) (take first gs) (take count (drop first gs) ++ drop (first + count) gs)
    ∙ ap (λ (n : ℕ). data_units (take first gs) + n) (sum_by-append (λ (g : Group). g.n) (take count (drop first gs)) (drop (first + count) gs))

spliced_units : (gs new : List Group) (first count : ℕ) → data_units (spliced gs first count new) ≡ data_units (take first gs) + (data_units new + data_units (drop (first + count) gs))
spliced_units gs new first count =
    sum_by-append (λ (g : Group). g.n) (take first gs) (new ++ drop (first + count) gs)
    ∙ ap (λ (n : ℕ). data_units (take first gs) + n) (sum_by-append (λ (g : Group). g.n) new (drop (first + count) gs))

-- the units by numbers
total : (s k n r u d b : ℕ) → s + n ≡ max (b + 1) (s + k) → d ≡ s + (k + r) → d ≡ u → (r ≡ 0) ⊎ (b < s + k) → s + (n + r) ≡ max (b + 1) u
total s k n r u d b covers whole sum (inl none) = omega (arith, covers, whole, sum, none)
total s k n r u d b covers whole sum (inr within) = omega (arith, covers, whole, sum, within)

chunk_bounds : (ns : List ℕ) (count width : ℕ) → 1 ≤ width → AreChunks count width ns → (count ≤ length ns * width) × (length ns * width < count + width)
chunk_bounds [] count width wide are = (omega (arith, are), omega (arith, are, wide))
chunk_bounds (n ∷ []) count width wide are =
    let same = are.0 in
    let some = are.1 in
    let most = are.2 in
    (omega (arith, same, most), omega (arith, same, some))
chunk_bounds (n ∷ m ∷ ns) count width wide are =
    let rest = chunk_bounds (m ∷ ns) (count - n) width wide are.2 in
    let high = rest.0 in
    let low = rest.1 in
    let same = are.0 in
    let within = are.1 in
    longer (length (m ∷ ns)) count n width high low same within
  where
    longer : (k count n width : ℕ) → count - n ≤ k * width → k * width < count - n + width → n ≡ width → n ≤ count
        → (count ≤ suc k * width) × (suc k * width < count + width)
    longer k count n width high low same within =
        let more = more_suc k width in
        (omega (arith, more, high, same), omega (arith, more, low, same, within))

module _ (unit : ℕ) (l : Layout) (old payload : List ℕ) (offset width first count : ℕ) (change : Change) where
  replaced_is : AreGenerations l.groups → change.old ≡ generations_of (affected_groups unit l offset (length payload) width)
      → IsAffectedRun unit l offset (length payload) width first count → replaced change.old change.new l.groups ≡ spliced l.groups first count change.new
  replaced_is differ gone r =
      ap (λ (o : List ℕ). replaced o change.new l.groups) (gone ∙ ap generations_of r.run)
      ∙ replaced_run l.groups change.new first count differ (some_or_all first count (length l.groups) r.none) r.within

  keep_units : 1 ≤ unit → 1 ≤ length payload → AreGenerations l.groups → data_units l.groups ≡ units_for unit l.size → l.size ≡ length old
      → change.old ≡ generations_of (affected_groups unit l offset (length payload) width)
      → AreChunks (new_units unit l offset (length payload) width) width (map (λ (g : Group). g.n) change.new)
      → IsAffectedRun unit l offset (length payload) width first count
      → data_units (replaced change.old change.new l.groups) ≡ units_for unit (length (overwrite old offset payload))
  keep_units wide some differ sum size gone shared r =
      let b : ℕ = last_unit unit offset (length payload) in
      let s : ℕ = data_units (take first l.groups) in
      let covers : s + data_units change.new ≡ max (b + 1) (s + data_units (run_of l.groups first count)) =
      ap (λ (x : ℕ). s + x) (chunks change.new (new_units unit l offset (length payload) width) width shared) ∙ r.covers in
      ap data_units (replaced_is differ gone r)
      ∙ spliced_units l.groups change.new first count
      ∙ total s (data_units (run_of l.groups first count)) (data_units change.new) (data_units (drop (first + count) l.groups)) (units_for unit l.size) (data_units l.groups) b
      covers (in_three l.groups first count) sum (elim r.ends [ inl all ↦ inl (ap data_units (drop_all (first + count) l.groups (omega (arith, all)))) | inr within ↦ inr within ])
      ∙ ap (λ (z : ℕ). max (b + 1) (units_for unit z)) size
      ∙ sym (units_after unit offset (length payload) (length old) (length (overwrite old offset payload)) wide some (overwrite_length old offset payload))

  count_groups : 1 ≤ width → AreGenerations l.groups
      → change.old ≡ generations_of (affected_groups unit l offset (length payload) width)
      → AreChunks (new_units unit l offset (length payload) width) width (map (λ (g : Group). g.n) change.new)
      → IsAffectedRun unit l offset (length payload) width first count
      → length (replaced change.old change.new l.groups) ≡ groups_after_write unit l offset (length payload) width
  count_groups broad differ gone shared r =
      let whole = length-append (take first l.groups) (change.new ++ drop (first + count) l.groups) in
      let back = length-append change.new (drop (first + count) l.groups) in
      let front = length-take first l.groups in
      let rest = length-drop (first + count) l.groups in
      let within = r.within in
      let affected = ap (λ (gs : List Group). length gs) r.run in
      let taken = length-take count (drop first l.groups) in
      let dropped = length-drop first l.groups in
      let same = ap (λ (gs : List Group). length gs) (replaced_is differ gone r) in
      let bounds = chunk_bounds (map (λ (g : Group). g.n) change.new) (new_units unit l offset (length payload) width) width broad shared in
      let chunked : chunk_count (new_units unit l offset (length payload) width) width ≡ length (map (λ (g : Group). g.n) change.new) =
      units_of width (new_units unit l offset (length payload) width) (length (map (λ (g : Group). g.n) change.new)) broad bounds.0 bounds.1 in
      numbers (length (replaced change.old change.new l.groups)) (length (spliced l.groups first count change.new)) (length (take first l.groups)) (length (change.new ++ drop (first + count) l.groups))
      (length change.new) (length (drop (first + count) l.groups)) (length l.groups) first count (length (affected_groups unit l offset (length payload) width)) (length (drop first l.groups))
      (chunk_count (new_units unit l offset (length payload) width) width)
      same whole back front rest within (affected ∙ taken) dropped (chunked ∙ length-map change.new (λ (g : Group). g.n))
    where
      numbers : (x y f t n r long first count affected dropped chunked : ℕ) → x ≡ y → y ≡ f + t → t ≡ n + r → f ≡ min first long → r ≡ long - (first + count) → first + count ≤ long
          → affected ≡ min count dropped → dropped ≡ long - first → chunked ≡ n → x ≡ long - affected + chunked
      numbers x y f t n r long first count affected dropped chunked a b c d e g h i j = omega (arith, a, b, c, d, e, g, h, i, j)

pub writes_keep_units : WritesKeepUnits
writes_keep_units now log l offset size first count change payload is size_is some w r =
    let wide = is.least_unit in
    keep_units now.shape.unit l (bytes_after log) payload offset w.width first count change (omega (arith, wide)) some is.generations is.sum size_is w.old w.chunks r
    ∙ ap (units_for now.shape.unit) (sym w.new_size)

pub writes_count_groups : WritesCountGroups
writes_count_groups now log l offset size first count change payload is w broad r =
    count_groups now.shape.unit l (bytes_after log) payload offset w.width first count change broad is.generations w.old w.chunks r
