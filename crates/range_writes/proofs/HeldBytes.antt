-- The bytes that groups hold, one after the other.
use Rattle.std.proofs.Common.{◌≡◌, ℕ, ◌+◌, ◌-◌, ◌*◌, ◌<◌, inl, inr, List, [], ◌∷◌, ◌++◌, map, Option, refl, sym, ap, subst, ◌∙◌, arith, length-append}
use Rattle.std.specs.List.{AllByRecursion}
use Rattle.std.proofs.lemmas.Bool.{cases_lt}
use Rattle.std.proofs.lemmas.List.{ext_get_or, get_or_append_left, get_or-append_right}
use Rattle.std.proofs.lemmas.List.Sums.{sum_by-cons}
use Rattle.std.proofs.Math.Nat.{zero-mul}
use Rattle.domains.specs.Shape.{Shape}
use Rattle.domains.specs.declared.group.Group.{Group}
use Rattle.flex_io.specs.declared.raw_place.RawPlace.{RawPlace}
use Rattle.inode_codec.specs.Inode.{data_units}
use Rattle.striped_groups.specs.StoredGroups.{GroupSlots, HoldRun, HoldsUnits, stored_group}
use Rattle.map_switches.specs.Switches.{IsFreshStripe, groups_of}
use Rattle.write_rule.specs.NewBytes.{padded_slice}
use Rattle.write_rule.proofs.NewBytesByPlace.{at, slice_at, slice_length}
use Rattle.placed_runs.specs.declared.terms.RunTerms.{RunTerms}
use Rattle.range_writes.specs.StandingRuns.{HoldBytes}

-- a slice is its front and the rest
parted : (bytes : List ℕ) (start a b : ℕ) → padded_slice bytes start (a + b) ≡ padded_slice bytes start a ++ padded_slice bytes (start + a) b
parted bytes start a b =
    let whole = slice_length bytes start (a + b) in
    let front = slice_length bytes start a in
    let back = slice_length bytes (start + a) b in
    let joined = length-append (padded_slice bytes start a) (padded_slice bytes (start + a) b) in
    ext_get_or 0 (padded_slice bytes start (a + b)) (padded_slice bytes start a ++ padded_slice bytes (start + a) b) (omega (arith, whole, front, back, joined))
    (λ j below. slice_at bytes start (a + b) j (omega (arith, below, whole)) ∙ sym (by_place j (omega (arith, below, whole))))
  where
    by_place : (j : ℕ) → j < a + b → at (padded_slice bytes start a ++ padded_slice bytes (start + a) b) j ≡ at bytes (start + j)
    by_place j below = elim (cases_lt j a) [
      | inl early ↦
          get_or_append_left (padded_slice bytes start a) (padded_slice bytes (start + a) b) 0 j (let front = slice_length bytes start a in omega (arith, front, early))
          ∙ slice_at bytes start a j early
      | inr late ↦
          get_or-append_right (padded_slice bytes start a) (padded_slice bytes (start + a) b) a j 0 (slice_length bytes start a) late
          ∙ slice_at bytes (start + a) b (j - a) (omega (arith, below, late))
          ∙ ap (at bytes) (let sum : start + a + (j - a) ≡ start + j = omega (arith, late) in sum)
    ]

spread : (a b c : ℕ) → (a + b) * c ≡ a * c + b * c
spread a b c = grind arith

module _ {S : Type 0} (place_of : S → RawPlace) (content : S → Option (List ℕ)) (len_of : S → ℕ) (t : RunTerms) (shape : Shape) (bytes : List ℕ) where
  -- how many data units the groups have
  pub widths_held : (chunks : List ℕ) (from : ℕ) (groups : List (GroupSlots S)) → HoldBytes place_of content len_of t shape bytes from chunks groups
      → map (λ (g : Group). g.n) (groups_of groups) ≡ chunks
  widths_held [] from [] holds = refl
  widths_held [] from (g ∷ gs) holds = absurd holds
  widths_held (n ∷ ns) from [] holds = absurd holds
  widths_held (n ∷ ns) from (g ∷ gs) holds =
      λ i. (holds.0.stands.group i).n ∷ widths_held ns (from + n * t.unit) gs holds.1 i

  -- their slots hold the bytes of as many data units
  pub run_held : (chunks : List ℕ) (from : ℕ) (groups : List (GroupSlots S)) → HoldBytes place_of content len_of t shape bytes from chunks groups
      → HoldRun (map (stored_group place_of content len_of) groups) (padded_slice bytes from (data_units (groups_of groups) * t.unit)) t.unit
  run_held [] from [] holds = ap (padded_slice bytes from) (zero-mul t.unit)
  run_held [] from (g ∷ gs) holds = absurd holds
  run_held (n ∷ ns) from [] holds = absurd holds
  run_held (n ∷ ns) from (g ∷ gs) holds =
      let n_is : g.group.n ≡ n = ap (λ (x : Group). x.n) holds.0.stands.group in
      let m_is : g.group.m ≡ t.level.m = ap (λ (x : Group). x.m) holds.0.stands.group in
      let all : data_units (groups_of (g ∷ gs)) ≡ n + data_units (groups_of gs) = sum_by-cons (λ (x : Group). x.n) g.group (groups_of gs) ∙ ap (λ (k : ℕ). k + data_units (groups_of gs)) n_is in (
        padded_slice bytes from (n * t.unit),
        padded_slice bytes (from + n * t.unit) (data_units (groups_of gs) * t.unit),
        ap (padded_slice bytes from) (ap (λ (k : ℕ). k * t.unit) all ∙ spread n (data_units (groups_of gs)) t.unit)
            ∙ parted bytes from (n * t.unit) (data_units (groups_of gs) * t.unit),
        subst (λ (k : ℕ). HoldsUnits t.unit k g.group.m (padded_slice bytes from (n * t.unit)) (map content g.slots)) (sym n_is)
            (subst (λ (k : ℕ). HoldsUnits t.unit n k (padded_slice bytes from (n * t.unit)) (map content g.slots)) (sym m_is) holds.0.holds),
        run_held ns (from + n * t.unit) gs holds.1,
      )

  -- and stand at their places
  pub stripes_fresh : (chunks : List ℕ) (from : ℕ) (groups : List (GroupSlots S)) → HoldBytes place_of content len_of t shape bytes from chunks groups
      → AllByRecursion (IsFreshStripe place_of len_of t.unit) groups
  stripes_fresh [] from [] holds = tt
  stripes_fresh [] from (g ∷ gs) holds = absurd holds
  stripes_fresh (n ∷ ns) from [] holds = absurd holds
  stripes_fresh (n ∷ ns) from (g ∷ gs) holds = (
    record { stands = sym (ap (λ (x : Group). x.places) holds.0.stands.group); sized = holds.0.sized },
    stripes_fresh ns (from + n * t.unit) gs holds.1,
  )
