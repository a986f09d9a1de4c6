-- What the new groups of a write hold of the file.
use Rattle.std.proofs.Common.{◌≡◌, ℕ, ◌+◌, ◌-◌, ◌*◌, ◌/◌, ◌<◌, ◌≤◌, ◌⊎◌, inl, inr, min, max, List, length, take, drop, sym, ap, subst, ◌∙◌, arith}
use Rattle.std.proofs.lemmas.List.{length-drop, take_all}
use Rattle.std.proofs.lemmas.List.Sums.{sum_by-take-drop}
use Rattle.std.proofs.lemmas.Nat.{div-add-mod', mod_below, mul-le}
use Rattle.domains.specs.declared.group.Group.{Group}
use Rattle.inode_codec.specs.Inode.{data_units, units_for}
use Rattle.write_rule.specs.Runs.{last_unit, run_of}
use Rattle.write_units.specs.Laws.{RunsHoldWrites}

-- the units of a file hold its bytes
units_hold : (unit size : ℕ) → 1 ≤ unit → size ≤ units_for unit size * unit
units_hold unit size wide =
    let parts = div-add-mod' (size + (unit - 1)) unit in
    let rest = mod_below (size + (unit - 1)) unit (omega (arith, wide)) in
    omega (arith, parts, rest, wide)

-- the last unit of a write has its last byte
last_holds : (unit offset len : ℕ) → 1 ≤ unit → 1 ≤ len → offset + len ≤ ((offset + len - 1) / unit + 1) * unit
last_holds unit offset len wide some =
    let parts = div-add-mod' (offset + len - 1) unit in
    let rest = mod_below (offset + len - 1) unit (omega (arith, wide)) in
    let more = one_unit ((offset + len - 1) / unit) unit in
    omega (arith, parts, rest, wide, some, more)
  where
    one_unit : (n unit : ℕ) → (n + 1) * unit ≡ n * unit + unit
    one_unit n unit = grind arith

-- a run that goes to the end has the units behind those before it
to_end : (gs : List Group) (first count : ℕ) → first + count ≡ length gs → data_units (take first gs) + data_units (take count (drop first gs)) ≡ data_units gs
to_end gs first count all =
    let long = length-drop first gs in
    ap (λ (l : List Group). data_units (take first gs) + data_units l) (take_all count (drop first gs) (omega (arith, long, all)))
    ∙ sum_by-take-drop (λ (g : Group). g.n) gs first

-- the end of the new groups, of some numbers of units: the file's end, or that of the old ones
behind_end : (unit size stop front units new last total : ℕ) → front + new ≡ max (last + 1) (front + units) → size ≤ total * unit
    → (front + units ≡ total) ⊎ (last < front + units) → min ((front + new) * unit) size ≤ max stop ((front + units) * unit)
behind_end unit size stop front units new last total covers holds (inl all) =
    let whole : size ≤ (front + units) * unit = subst (λ (n : ℕ). size ≤ n * unit) (sym all) holds in
    within ((front + new) * unit) size stop ((front + units) * unit) whole
  where
    within : (a size stop b : ℕ) → size ≤ b → min a size ≤ max stop b
    within a size stop b less = omega (arith, less)
behind_end unit size stop front units new last total covers holds (inr past) =
    let same : front + new ≡ front + units = omega (arith, covers, past) in
    within ((front + new) * unit) size stop ((front + units) * unit) (ap (λ (n : ℕ). n * unit) same)
  where
    within : (a size stop b : ℕ) → a ≡ b → min a size ≤ max stop b
    within a size stop b is = omega (arith, is)

pub runs_hold_writes : RunsHoldWrites
runs_hold_writes unit l offset len width run valid some is =
    let front = data_units (take run.first l.groups) in
    let units = data_units (run_of l.groups run.first run.count) in
    let low = valid.least_unit in
    let wide : 1 ≤ unit = omega (arith, low) in
    let covers : front + run.new_units ≡ max (last_unit unit offset len + 1) (front + units) = ap (λ (n : ℕ). front + n) is.new_units ∙ is.affected.covers in
    let reached : last_unit unit offset len + 1 ≤ front + run.new_units = omega (arith, covers) in
    let last = last_holds unit offset len wide some in
    let most = mul-le (last_unit unit offset len + 1) unit (front + run.new_units) unit reached (omega arith) in
    let fits = units_hold unit l.size wide in
    let behind = behind_end unit l.size (offset + len) front units run.new_units (last_unit unit offset len) (units_for unit l.size) covers fits (ends is.affected.ends) in record {
      begins = subst (λ (n : ℕ). n * unit ≤ offset) (sym is.start) is.affected.starts;
      ends = subst (λ (n : ℕ). offset + len ≤ (n + run.new_units) * unit) (sym is.start) (omega (arith, last, most));
      behind = subst (λ (n : ℕ). min ((n + run.new_units) * unit) l.size ≤ max (offset + len) ((n + run.units) * unit)) (sym is.start)
          (subst (λ (n : ℕ). min ((front + run.new_units) * unit) l.size ≤ max (offset + len) ((front + n) * unit)) (sym is.units) behind);
    }
  where
    ends : (run.first + run.count ≡ length l.groups) ⊎ (last_unit unit offset len < data_units (take run.first l.groups) + data_units (run_of l.groups run.first run.count))
        → (data_units (take run.first l.groups) + data_units (run_of l.groups run.first run.count) ≡ units_for unit l.size)
        ⊎ (last_unit unit offset len < data_units (take run.first l.groups) + data_units (run_of l.groups run.first run.count))
    ends (inl all) = inl (to_end l.groups run.first run.count all ∙ valid.sum)
    ends (inr past) = inr past
