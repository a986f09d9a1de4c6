-- The bytes of a file, group by group.
use Rattle.std.proofs.Common.{◌≡◌, ℕ, ◌+◌, ◌-◌, ◌*◌, ◌<◌, ◌≤◌, inl, inr, List, [], ◌∷◌, ◌++◌, length, replicate, Option, refl, sym, ap, ◌∙◌, arith, length-append}
use Rattle.std.proofs.Math.Nat.{zero-mul}
use Rattle.std.proofs.lemmas.Bool.{cases_lt}
use Rattle.std.proofs.lemmas.Nat.{div-add-mod', mod_below}
use Rattle.std.proofs.lemmas.List.{ext_get_or, get_or_append_left, get_or-append_right, length-replicate}
use Rattle.std.proofs.lemmas.List.Sums.{sum_by-cons}
use Rattle.domains.specs.Place.{Place}
use Rattle.domains.specs.declared.group.Group.{Group}
use Rattle.inode_codec.specs.Inode.{data_units, units_for}
use Rattle.file_history.specs.Stored.{HoldsGroup, HoldsGroups}
use Rattle.write_rule.specs.NewBytes.{padded_slice}
use Rattle.write_rule.proofs.NewBytesByPlace.{at, padded_at, slice_at, slice_length}
use Rattle.map_laws.specs.MappedGroups.{StandsFrom, bytes_of_units}

-- a slice in two
slices : (bytes : List ℕ) (a m n : ℕ) → padded_slice bytes a (m + n) ≡ padded_slice bytes a m ++ padded_slice bytes (a + m) n
slices bytes a m n =
    let whole = slice_length bytes a (m + n) in
    let one = slice_length bytes a m in
    let two = slice_length bytes (a + m) n in
    let both = length-append (padded_slice bytes a m) (padded_slice bytes (a + m) n) in
    ext_get_or 0 (padded_slice bytes a (m + n)) (padded_slice bytes a m ++ padded_slice bytes (a + m) n) (omega (arith, whole, one, two, both))
    (λ j below.
    let inside : j < m + n = omega (arith, below, whole) in
    slice_at bytes a (m + n) j inside ∙ elim (cases_lt j m) [
      | inl front ↦
          sym (get_or_append_left (padded_slice bytes a m) (padded_slice bytes (a + m) n) 0 j (omega (arith, front, one)) ∙ slice_at bytes a m j front)
      | inr back ↦
          sym (get_or-append_right (padded_slice bytes a m) (padded_slice bytes (a + m) n) m j 0 one back
          ∙ slice_at bytes (a + m) n (j - m) (omega (arith, back, inside)) ∙ ap (at bytes) (there a m j back))
    ])
  where
    there : (a m j : ℕ) → m ≤ j → a + m + (j - m) ≡ a + j
    there a m j back = omega (arith, back)

-- all bytes, with zeros behind them
pub whole_slice : (bytes : List ℕ) (unit len : ℕ) → length bytes ≤ len → padded_slice bytes (0 * unit) len ≡ bytes ++ replicate (len - length bytes) 0
whole_slice bytes unit len fits =
    let zeros : List ℕ = replicate {A = ℕ} (len - length bytes) 0 in
    let one = slice_length bytes (0 * unit) len in
    let both = length-append bytes zeros in
    let rest = length-replicate {A = ℕ} (len - length bytes) 0 in
    let none = zero-mul unit in
    ext_get_or 0 (padded_slice bytes (0 * unit) len) (bytes ++ zeros) (omega (arith, one, both, rest, fits))
    (λ j below.
    slice_at bytes (0 * unit) len j (omega (arith, below, one)) ∙ ap (at bytes) (omega (arith, none)) ∙ sym (padded_at bytes (len - length bytes) j))

two_parts : (a b unit : ℕ) → (a + b) * unit ≡ a * unit + b * unit
two_parts a b unit = grind arith

-- groups each of which holds its part hold the bytes
pub all_held : (gs : List Group) (start unit : ℕ) (bytes : List ℕ) (held : Place → Option (List ℕ))
    → ((g : Group) (first : ℕ) → StandsFrom gs start g first → HoldsGroup held unit g (bytes_of_units unit bytes first g.n))
    → HoldsGroups gs (padded_slice bytes (start * unit) (data_units gs * unit)) unit held
all_held [] start unit bytes held each = no_bytes (padded_slice bytes (start * unit) (data_units [] * unit)) (slice_length bytes (start * unit) (data_units [] * unit) ∙ zero-mul unit)
  where
    no_bytes : (xs : List ℕ) → length xs ≡ 0 → xs ≡ []
    no_bytes [] none = refl
    no_bytes (x ∷ xs) none = absurd (omega (arith, none))
all_held (g ∷ gs) start unit bytes held each = (
  padded_slice bytes (start * unit) (g.n * unit),
  padded_slice bytes ((start + g.n) * unit) (data_units gs * unit),
  ap (padded_slice bytes (start * unit)) (ap (λ (n : ℕ). n * unit) (sum_by-cons (λ (h : Group). h.n) g gs) ∙ two_parts g.n (data_units gs) unit)
      ∙ slices bytes (start * unit) (g.n * unit) (data_units gs * unit)
      ∙ ap (λ (n : ℕ). padded_slice bytes (start * unit) (g.n * unit) ++ padded_slice bytes n (data_units gs * unit)) (sym (two_parts start g.n unit)),
  each g start (inl (refl, refl)),
  all_held gs (start + g.n) unit bytes held (λ h first stands. each h first (inr stands)),
)

-- a file has no byte behind its units
pub units_hold : (unit size : ℕ) → 1 ≤ unit → size ≤ units_for unit size * unit
units_hold unit size wide =
    let parts = div-add-mod' (size + (unit - 1)) unit in
    let rest = mod_below (size + (unit - 1)) unit (omega (arith, wide)) in
    omega (arith, parts, rest, wide)
