-- Of the groups that a write replaces only the first and the last have bytes outside it.
use Rattle.std.proofs.Common.{◌≡◌, ℕ, ◌+◌, ◌-◌, ◌*◌, ◌/◌, ◌<◌, ◌≤◌, min, Bool, false, ◌&&◌, ◌||◌, cond, ltb, List, [], ◌∷◌, refl, ap, ◌∙◌, arith}
use Rattle.std.proofs.lemmas.Bool.{le-ltb, and_right, cond-false}
use Rattle.std.proofs.lemmas.Nat.{div-add-mod', mod_below, mul-le}
use Rattle.std.proofs.lemmas.List.Sums.{sum_by-cons}
use Rattle.domains.specs.declared.group.Group.{Group}
use Rattle.inode_codec.specs.Inode.{data_units}
use Rattle.file_history.specs.Live.{has_bytes_outside}
use Rattle.write_rule.specs.Runs.{groups_that, last_that, ends_that, last_unit}
use Rattle.write_rule.proofs.TestedGroups.{AreInner}

or_neither : (x y : Bool) → x ≡ false → y ≡ false → (x || y) ≡ false
or_neither x y h k = ap (λ z. z || y) h ∙ k

more_units : (n unit : ℕ) → (n + 1) * unit ≡ n * unit + unit
more_units n unit = grind arith

module _ (unit size offset len : ℕ) (wide : 1 ≤ unit) (some : 1 ≤ len) where
  abbrev outside : ℕ → ℕ → Bool
  outside = has_bytes_outside unit size offset len

  -- a group that begins within the range, and ends where its last unit begins or before
  covered : (s n : ℕ) → offset ≤ s * unit → s + n ≤ last_unit unit offset len → outside s n ≡ false
  covered s n from to =
      let parts = div-add-mod' (offset + len - 1) unit in
      let most = mul-le (s + n) unit (last_unit unit offset len) unit to (omega arith) in
      and_right (ltb (s * unit) size) (ltb (s * unit) offset || (ltb (offset + len) size && ltb (offset + len) ((s + n) * unit)))
      (or_neither (ltb (s * unit) offset) (ltb (offset + len) size && ltb (offset + len) ((s + n) * unit)) (le-ltb (s * unit) offset from)
      (and_right (ltb (offset + len) size) (ltb (offset + len) ((s + n) * unit)) (le-ltb (offset + len) ((s + n) * unit) (omega (arith, parts, most)))))

  later : (s n : ℕ) → offset ≤ s * unit → offset ≤ (s + n) * unit
  later s n from = let most = mul-le s unit (s + n) unit (omega arith) (omega arith) in omega (arith, most, from)

  last_only : (gs : List Group) (s a : ℕ) → offset ≤ s * unit → AreInner gs s a (last_unit unit offset len) → groups_that gs s outside ≡ last_that gs s outside
  last_only [] s a from inner = refl
  last_only (g ∷ []) s a from inner = refl
  last_only (g ∷ h ∷ gs) s a from inner =
      cond-false (outside s g.n) (g ∷ groups_that (h ∷ gs) (s + g.n) outside) (groups_that (h ∷ gs) (s + g.n) outside) (covered s g.n from inner.1)
      ∙ last_only (h ∷ gs) (s + g.n) a (later s g.n from) inner.2

  passed : (s units a : ℕ) → a ≡ min (offset / unit) units → a < s → s ≤ units → offset ≤ s * unit
  passed s units a is past within =
      let parts = div-add-mod' offset unit in
      let rest = mod_below offset unit (omega (arith, wide)) in
      let more = more_units (offset / unit) unit in
      let most = mul-le (offset / unit + 1) unit s unit (omega (arith, is, past, within)) (omega arith) in
      omega (arith, parts, rest, more, most)

  pub ends_only : (gs : List Group) (s a units : ℕ) → a ≡ min (offset / unit) units → s + data_units gs ≤ units → AreInner gs s a (last_unit unit offset len)
      → groups_that gs s outside ≡ ends_that gs s outside
  ends_only [] s a units is within inner = refl
  ends_only (g ∷ []) s a units is within inner = refl
  ends_only (g ∷ h ∷ gs) s a units is within inner =
      let sum = sum_by-cons (λ (k : Group). k.n) g (h ∷ gs) in
      ap (λ (l : List Group). cond (outside s g.n) (g ∷ l) l)
      (last_only (h ∷ gs) (s + g.n) a (passed (s + g.n) units a is inner.0 (omega (arith, within, sum))) inner.2)
