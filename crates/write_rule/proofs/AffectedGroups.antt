-- The groups that a write replaces are a run of the map.
use Rattle.std.proofs.Common.{◌≡◌, ℕ, ◌+◌, ◌-◌, ◌*◌, ◌/◌, ◌<◌, ◌≤◌, min, inl, inr, Bool, true, false, ◌&&◌, ◌||◌, leb, ltb, refl, ap, ◌∙◌, arith}
use Rattle.std.proofs.lemmas.Bool.{cases_lt, lt-ltb, le-ltb, le-leb, lt-leb, and_from, and_left, and_right}
use Rattle.std.proofs.lemmas.Nat.{div-add-mod', le-div}
use Rattle.domains.specs.declared.group.Group.{Group}
use Rattle.inode_codec.specs.Inode.{data_units, units_for}
use Rattle.file_history.specs.Layout.{Layout}
use Rattle.file_history.specs.Live.{is_touched, is_filled_up}
use Rattle.write_rule.proofs.TestedGroups.{IsTest, Picked, behind, inside}

or_left : (x y : Bool) → x ≡ true → (x || y) ≡ true
or_left x y h = ap (λ z. z || y) h

or_neither : (x y : Bool) → x ≡ false → y ≡ false → (x || y) ≡ false
or_neither x y h k = ap (λ z. z || y) h ∙ k

pub first_byte : (unit offset : ℕ) → offset / unit * unit ≤ offset
first_byte unit offset = let parts = div-add-mod' offset unit in omega (arith, parts)

first_unit : (unit offset len : ℕ) → 1 ≤ unit → 1 ≤ len → offset / unit ≤ (offset + len - 1) / unit
first_unit unit offset len wide some =
    let low = first_byte unit offset in
    le-div (offset / unit) (offset + len - 1) unit (omega (arith, wide)) (omega (arith, low, some))

module _ (unit : ℕ) (l : Layout) (offset len width : ℕ) where
  -- the test of the rule
  abbrev pub is_affected : ℕ → Group → Bool → Bool
  is_affected start g is_last = is_touched unit l.size offset len start g.n || (is_last && is_filled_up unit l.size offset len width g.n)

  abbrev pub first_of : ℕ
  first_of = min (offset / unit) (units_for unit l.size)

  abbrev pub last_of : ℕ
  last_of = (offset + len - 1) / unit

  tested : IsTest is_affected (is_filled_up unit l.size offset len width) first_of last_of
  tested = record {
    passes = λ s g last begins ends. or_left (is_touched unit l.size offset len s g.n) (last && is_filled_up unit l.size offset len width g.n)
        (and_from (leb s last_of) (ltb first_of (s + g.n)) (le-leb s last_of begins) (lt-ltb first_of (s + g.n) ends));
    skips = λ s g past. or_neither (is_touched unit l.size offset len s g.n) (false && is_filled_up unit l.size offset len width g.n)
        (and_right (leb s last_of) (ltb first_of (s + g.n)) (le-ltb first_of (s + g.n) past)) refl;
    fill = λ s g past. ap (λ (x : Bool). x || is_filled_up unit l.size offset len width g.n)
        (and_right (leb s last_of) (ltb first_of (s + g.n)) (le-ltb first_of (s + g.n) past));
  }

  stops : last_of < units_for unit l.size → (s : ℕ) (g : Group) (last : Bool) → last_of < s → is_affected s g last ≡ false
  stops within s g last past =
      or_neither (is_touched unit l.size offset len s g.n) (last && is_filled_up unit l.size offset len width g.n)
      (and_left (leb s last_of) (ltb first_of (s + g.n)) (lt-leb s last_of past))
      (and_right last (is_filled_up unit l.size offset len width g.n) (and_left (leb (units_for unit l.size) last_of) (ltb g.n width) (lt-leb (units_for unit l.size) last_of within)))

  pub affected_run : (q : ℕ → ℕ → Bool) → 1 ≤ unit → 1 ≤ len → data_units l.groups ≡ units_for unit l.size → Picked is_affected q (is_filled_up unit l.size offset len width) first_of last_of l.groups 0
  affected_run q wide some sum =
      let order = first_unit unit offset len wide some in
      elim (cases_lt last_of (units_for unit l.size)) [
        | inl within ↦ inside is_affected q (is_filled_up unit l.size offset len width) first_of last_of tested (stops within) l.groups 0 (omega arith) (omega (arith, order)) (omega (arith, within, sum))
        | inr past ↦ behind is_affected q (is_filled_up unit l.size offset len width) first_of last_of tested l.groups 0 (omega arith) (omega (arith, sum)) (omega (arith, past, sum))
      ]
