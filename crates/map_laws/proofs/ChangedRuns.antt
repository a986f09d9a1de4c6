-- A map in which new groups stand in the place of a run.
use Rattle.std.proofs.Common.{false, ◌≡◌, ℕ, ◌+◌, ◌*◌, ◌<◌, ◌≤◌, ◌⊎◌, inl, inr, List, [], ◌++◌, refl, sym, subst, ◌∙◌, arith, append-nil, ap}
use Rattle.std.specs.List.{AllByRecursion}
use Rattle.std.proofs.lemmas.Bool.{false≢true}
use Rattle.std.proofs.Math.Nat.{zero-mul}
use Rattle.std.proofs.lemmas.Nat.{mul-le}
use Rattle.std.proofs.lemmas.List.{ext_get_or}
use Rattle.domains.specs.declared.group.Group.{Group}
use Rattle.inode_codec.specs.Inode.{data_units}
use Rattle.file_history.specs.Layout.{is_among}
use Rattle.file_history.specs.WriteRule.{generations_of}
use Rattle.write_rule.specs.NewBytes.{padded_slice}
use Rattle.write_rule.proofs.NewBytesByPlace.{at, slice_at, slice_length}
use Rattle.map_laws.specs.MappedGroups.{IsMapped, StandsFrom, bytes_of_units}
use Rattle.map_laws.proofs.StandingGroups.{stands-all, stands-among, stands-left, stands-right, stands-split, stands-start, stands-within}

-- bytes that are the same at each place of a range
pub same_slices : (old new : List ℕ) (start len : ℕ) → ((j : ℕ) → j < len → at new (start + j) ≡ at old (start + j)) → padded_slice new start len ≡ padded_slice old start len
same_slices old new start len same =
    let one = slice_length new start len in
    let other = slice_length old start len in
    ext_get_or 0 (padded_slice new start len) (padded_slice old start len) (omega (arith, one, other))
    (λ j below.
    let here : j < len = omega (arith, below, one) in
    slice_at new start len j here ∙ same j here ∙ sym (slice_at old start len j here))

two_parts : (a b unit : ℕ) → (a + b) * unit ≡ a * unit + b * unit
two_parts a b unit = grind arith

-- the run of the old groups with the generations `gone` made way for fresh ones, whose generations are no lower than `next`: behind
-- them nothing stands, or they have as many data units, and the bytes are as they were; before the run they are as they were too
pub record IsChanged (next unit : ℕ) (gone : List ℕ) (fresh : List Group) (old new : List Group) (old_bytes new_bytes : List ℕ) : Type 0 where
  pub front : List Group
  pub run : List Group
  pub back : List Group
  pub gone_is : gone ≡ generations_of run
  pub old_is : old ≡ front ++ (run ++ back)
  pub new_is : new ≡ front ++ (fresh ++ back)
  pub late : AllByRecursion (λ (g : Group). next ≤ g.generation) fresh
  pub before : (i : ℕ) → i < data_units front * unit → at new_bytes i ≡ at old_bytes i
  pub behind : (back ≡ [])
      ⊎ ((data_units fresh ≡ data_units run) × ((i : ℕ) → (data_units front + data_units run) * unit ≤ i → at new_bytes i ≡ at old_bytes i))

-- a group of the old map, with the bytes that it has in both
pub record Stays (unit : ℕ) (old : List Group) (old_bytes new_bytes : List ℕ) (g : Group) (first : ℕ) : Type 0 where
  pub stood : IsMapped old g first
  pub bytes : bytes_of_units unit new_bytes first g.n ≡ bytes_of_units unit old_bytes first g.n

module _ (next unit : ℕ) (gone : List ℕ) (fresh : List Group) (old new : List Group) (old_bytes new_bytes : List ℕ) (c : IsChanged next unit gone fresh old new old_bytes new_bytes) (g : Group) (first : ℕ) where
  in_front : StandsFrom c.front 0 g first → Stays unit old old_bytes new_bytes g first
  in_front stands =
      let within = stands-within c.front 0 g first stands in
      let to = within.to in
      let most = mul-le (first + g.n) unit (data_units c.front) unit (omega (arith, to)) (omega arith) in
      let parts = two_parts first g.n unit in record {
        stood = subst (λ (gs : List Group). IsMapped gs g first) (sym c.old_is) (stands-left c.front (c.run ++ c.back) 0 g first stands);
        bytes = same_slices old_bytes new_bytes (first * unit) (g.n * unit)
            (λ j below. c.before (first * unit + j) (omega (arith, below, most, parts)));
      }

  in_back : StandsFrom c.back (0 + data_units c.front + data_units fresh) g first → Stays unit old old_bytes new_bytes g first
  in_back stands = elim c.behind [
    | inl none ↦ absurd (subst (λ (gs : List Group). StandsFrom gs (0 + data_units c.front + data_units fresh) g first) none stands)
    | inr same ↦
        let units = same.0 in
        let within = stands-within c.back (0 + data_units c.front + data_units fresh) g first stands in
        let from = within.from in
        let most = mul-le (data_units c.front + data_units c.run) unit first unit (omega (arith, from, units)) (omega arith) in record {
          stood = subst (λ (gs : List Group). IsMapped gs g first) (sym c.old_is)
              (stands-right c.front (c.run ++ c.back) 0 g first (stands-right c.run c.back (0 + data_units c.front) g first
              (stands-start c.back (0 + data_units c.front + data_units fresh) (0 + data_units c.front + data_units c.run) g first (omega (arith, units)) stands)));
          bytes = same_slices old_bytes new_bytes (first * unit) (g.n * unit)
              (λ j below. same.1 (first * unit + j) (omega (arith, most)));
        }
  ]

  -- a group whose generation is no new one stays
  pub stays : IsMapped new g first → g.generation < next → Stays unit old old_bytes new_bytes g first
  stays mapped early = elim (stands-split c.front (fresh ++ c.back) 0 g first (subst (λ (gs : List Group). IsMapped gs g first) c.new_is mapped)) [
    | inl front ↦ in_front front
    | inr rest ↦ elim (stands-split fresh c.back (0 + data_units c.front) g first rest) [
      | inl here ↦
          let late : next ≤ g.generation = stands-all (λ (h : Group). next ≤ h.generation) fresh (0 + data_units c.front) g first c.late here in
          absurd (omega (arith, late, early))
      | inr back ↦ in_back back
    ]
  ]

  -- a group whose generation is none of those that went stays in the map
  pub keeps : IsMapped old g first → is_among gone g.generation ≡ false → IsMapped new g first
  keeps mapped other = elim (stands-split c.front (c.run ++ c.back) 0 g first (subst (λ (gs : List Group). IsMapped gs g first) c.old_is mapped)) [
    | inl front ↦ subst (λ (gs : List Group). IsMapped gs g first) (sym c.new_is) (stands-left c.front (fresh ++ c.back) 0 g first front)
    | inr rest ↦ elim (stands-split c.run c.back (0 + data_units c.front) g first rest) [
      | inl here ↦
          absurd (false≢true (sym other ∙ ap (λ (l : List ℕ). is_among l g.generation) c.gone_is ∙ stands-among c.run (0 + data_units c.front) g first here))
      | inr back ↦ elim c.behind [
        | inl none ↦ absurd (subst (λ (gs : List Group). StandsFrom gs (0 + data_units c.front + data_units c.run) g first) none back)
        | inr same ↦
            let units = same.0 in
            subst (λ (gs : List Group). IsMapped gs g first) (sym c.new_is)
            (stands-right c.front (fresh ++ c.back) 0 g first (stands-right fresh c.back (0 + data_units c.front) g first
            (stands-start c.back (0 + data_units c.front + data_units c.run) (0 + data_units c.front + data_units fresh) g first (omega (arith, units)) back)))
      ]
    ]
  ]

  -- a group of the new map stood in the old one, or is a fresh one
  pub came : IsMapped new g first → IsMapped old g first ⊎ ((start : ℕ) × StandsFrom fresh start g first)
  came mapped = elim (stands-split c.front (fresh ++ c.back) 0 g first (subst (λ (gs : List Group). IsMapped gs g first) c.new_is mapped)) [
    | inl front ↦ inl (in_front front).stood
    | inr rest ↦ elim (stands-split fresh c.back (0 + data_units c.front) g first rest) [
      | inl here ↦ inr (0 + data_units c.front, here)
      | inr back ↦ inl (in_back back).stood
    ]
  ]

-- a map that stays, with its bytes
pub unchanged : (next unit : ℕ) (gs : List Group) (bytes : List ℕ) → IsChanged next unit [] [] gs gs bytes bytes
unchanged next unit gs bytes = record {
  front = gs;
  run = [];
  back = [];
  gone_is = refl;
  old_is = sym (append-nil gs);
  new_is = sym (append-nil gs);
  late = tt;
  before = λ i below. refl;
  behind = inl refl;
}

-- a map that goes
pub emptied : (next unit : ℕ) (gs : List Group) (old_bytes new_bytes : List ℕ) → IsChanged next unit (generations_of gs) [] gs [] old_bytes new_bytes
emptied next unit gs old_bytes new_bytes = record {
  front = [];
  run = gs;
  back = [];
  gone_is = refl;
  old_is = sym (append-nil gs);
  new_is = refl;
  late = tt;
  before = λ i below. let none = zero-mul unit in absurd (omega (arith, none, below));
  behind = inl refl;
}
