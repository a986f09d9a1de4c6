-- The units of a new group, and the old bytes of a group that was pulled.
use Rattle.std.specs.Prelude.{◌≡◌, ℕ, ◌*◌, ◌≤◌, List, length, map, take}
use Rattle.std.specs.List.{AllByRecursion, flat_map}
use Rattle.galois.specs.Codeword.{IsCodeword}
use Rattle.write_rule.specs.NewBytes.{padded_slice}
use Rattle.pulled_groups.specs.declared.pull_groups.PulledGroup.{PulledGroup}
use Rattle.write_units.specs.Spans.{Span}
use Rattle.write_units.specs.declared.old_data.OldGroup.{OldGroup}

-- the units of a group of n data and m correction units: a codeword of units of this length, whose data are these bytes
pub record AreUnitsFor (unit n m : ℕ) (bytes : List ℕ) (units : List (List ℕ)) : Type 0 where
  pub codeword : IsCodeword n m units
  pub lengths : AllByRecursion (λ (u : List ℕ). length u ≡ unit) units
  pub joined : flat_map (λ (u : List ℕ). u) (take n units) ≡ bytes

-- the group's data units hold its part of the file: the bytes, and zeros past their end
abbrev pub IsOldGroup : List ℕ → OldGroup → Type 0
IsOldGroup bytes old =
    flat_map (λ (u : List ℕ). u) old.units.units
    ≡ padded_slice bytes (old.start * old.units.unit_length) (length old.units.units * old.units.unit_length)

-- the data units of the group, which are of this length, and the group has some
pub record IsOfUnits (unit : ℕ) (old : OldGroup) : Type 0 where
  pub length_is : old.units.unit_length ≡ unit
  pub some : 1 ≤ length old.units.units

-- which data units of the file the groups have
abbrev pub spans_of : List OldGroup → List Span
spans_of olds = map (λ (o : OldGroup). record { start = o.start; count = length o.units.units }) olds

-- and which the groups have that were pulled
abbrev pub pulled_spans : List PulledGroup → List Span
pulled_spans pulled = map (λ (p : PulledGroup). record { start = p.start; count = p.group.n }) pulled
