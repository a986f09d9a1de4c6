-- What a group keeps where nodes and drives are lost.
use Rattle.std.proofs.Common.{◌≡◌, ℕ, ◌*◌, ◌≤◌, ◌==◌, ◌⊎◌, inl, inr, true, false, List, [], ◌∷◌, length, count_by, refl, ap, subst, arith}
use Rattle.std.specs.List.{list_any, AllByRecursion}
use Rattle.std.proofs.lemmas.Bool.{cases_eq, cases_Bool, ne_eqb, both_ways, false_from_ne_true}
use Rattle.domains.specs.Counts.{one_if}
use Rattle.domains.specs.Drive.{Drive, same_drive, is_in, AreApart}
use Rattle.domains.specs.Place.{Place}
use Rattle.domains.specs.Level.{Level, Bears}
use Rattle.domains.specs.AtLevel.{AtLevel, units_on, drives_of}
use Rattle.domains.specs.Losses.{is_lost, kept_units}
use Rattle.domains.specs.declared.group.Group.{Group}
use Rattle.domains.proofs.CountLemmas.{count_by-cons, count_by-or, count_by-not, count_by-none}
use Rattle.domains.proofs.DriveLemmas.{same_drive-both, is_in-none}

-- one node has at most k of the places, whether it is the node of one of them or not
on_some_node : (ss all : List Place) (node k : ℕ) → AllByRecursion (λ (s : Place). units_on s.drive.node all ≤ k) ss
    → (units_on node ss ≡ 0) ⊎ (units_on node all ≤ k)
on_some_node [] all node k spread = inl refl
on_some_node (s ∷ ss) all node k spread = elim (cases_eq s.drive.node node) [
  | inl same ↦ inr (subst (λ (n : ℕ). units_on n all ≤ k) same spread.0)
  | inr other ↦ elim (on_some_node ss all node k spread.1) [
    | inl none ↦
        let first = count_by-cons (λ (t : Place). t.drive.node == node) s ss in
        let not_this = ap one_if (ne_eqb s.drive.node node other) in
        inl (omega (arith, first, not_this, none))
    | inr within ↦ inr within
  ]
]

on_node : (places : List Place) (node k : ℕ) → AllByRecursion (λ (s : Place). units_on s.drive.node places ≤ k) places → units_on node places ≤ k
on_node places node k spread = elim (on_some_node places places node k spread) [
  | inl none ↦ omega (arith, none)
  | inr within ↦ within
]

-- n nodes have at most n times k of the places
on_nodes : (nodes : List ℕ) (places : List Place) (k : ℕ) → AllByRecursion (λ (s : Place). units_on s.drive.node places ≤ k) places
    → count_by (λ (s : Place). list_any (λ (node : ℕ). s.drive.node == node) nodes) places ≤ length nodes * k
on_nodes [] places k spread = omega (arith, count_by-none places)
on_nodes (n ∷ ns) places k spread =
    let either = count_by-or places (λ (s : Place). s.drive.node == n) (λ (s : Place). list_any (λ (node : ℕ). s.drive.node == node) ns) in
    let here = on_node places n k spread in
    let rest = on_nodes ns places k spread in
    grind (arith, either, here, rest)

-- where one place is on the drive, the places on other drives than this one are not
on_no_drive : (ss : List Place) (s : Place) (drive : Drive) → same_drive s.drive drive ≡ true
    → is_in (drives_of ss) s.drive ≡ false → count_by (λ (t : Place). same_drive t.drive drive) ss ≡ 0
on_no_drive [] s drive here apart = refl
on_no_drive (t ∷ ts) s drive here apart =
    let parts = is_in-none t.drive (drives_of ts) s.drive apart in
    let other : same_drive t.drive drive ≡ false =
    false_from_ne_true _ (λ there. both_ways _ parts.0 (same_drive-both t.drive s.drive drive there here)) in
    let first = count_by-cons (λ (u : Place). same_drive u.drive drive) t ts in
    let not_this = ap one_if other in
    let rest = on_no_drive ts s drive here parts.1 in
    omega (arith, first, not_this, rest)

-- of places on different drives at most one is on a drive
on_drive : (ss : List Place) (drive : Drive) → AreApart (drives_of ss) → count_by (λ (s : Place). same_drive s.drive drive) ss ≤ 1
on_drive [] drive apart = omega arith
on_drive (s ∷ ss) drive apart =
    let first = count_by-cons (λ (t : Place). same_drive t.drive drive) s ss in
    elim (cases_Bool (same_drive s.drive drive)) [
      | inl here ↦
          let one = ap one_if here in
          let none = on_no_drive ss s drive here apart.0 in
          omega (arith, first, one, none)
      | inr other ↦
          let zero = ap one_if other in
          let rest = on_drive ss drive apart.1 in
          omega (arith, first, zero, rest)
    ]

-- n drives have at most n of the places
on_drives : (drives : List Drive) (places : List Place) → AreApart (drives_of places)
    → count_by (λ (s : Place). list_any (λ (drive : Drive). same_drive s.drive drive) drives) places ≤ length drives
on_drives [] places apart = omega (arith, count_by-none places)
on_drives (d ∷ ds) places apart =
    let either = count_by-or places (λ (s : Place). same_drive s.drive d) (λ (s : Place). list_any (λ (drive : Drive). same_drive s.drive drive) ds) in
    let here = on_drive places d apart in
    let rest = on_drives ds places apart in
    omega (arith, either, here, rest)

-- a group at a level keeps as many units as it has data units
pub kept_units-most : (level : Level) (group : Group) (nodes : List ℕ) (drives : List Drive) → AtLevel group level
    → Bears level (length nodes) (length drives) → group.n ≤ kept_units nodes drives group.places
kept_units-most level group nodes drives at_level bears =
    let either = count_by-or group.places
    (λ (s : Place). list_any (λ (node : ℕ). s.drive.node == node) nodes)
    (λ (s : Place). list_any (λ (drive : Drive). same_drive s.drive drive) drives) in
    let with_nodes = on_nodes nodes group.places level.k at_level.spread in
    let with_drives = on_drives drives group.places at_level.apart in
    let all = count_by-not group.places (is_lost nodes drives) in
    omega (arith, either, with_nodes, with_drives, all, bears, at_level.corrected, at_level.whole)
