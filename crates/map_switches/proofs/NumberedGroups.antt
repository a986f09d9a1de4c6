-- The new groups of a change, with their generations.
use Rattle.std.proofs.Common.{◌≡◌, ℕ, ◌+◌, ◌≤◌, List, [], ◌∷◌, ◌++◌, length, map, Option, refl, sym, ap, subst, ◌∙◌, arith}
use Rattle.std.specs.List.{AllByRecursion}
use Rattle.std.proofs.lemmas.List.Sums.{sum_by-cons}
use Rattle.flex_io.specs.declared.raw_place.RawPlace.{RawPlace}
use Rattle.domains.specs.Place.{Place}
use Rattle.domains.specs.declared.group.Group.{Group}
use Rattle.inode_codec.specs.Inode.{data_units}
use Rattle.file_history.specs.Layout.{places_of}
use Rattle.striped_groups.specs.StoredGroups.{GroupSlots, HoldRun, StandsThere, StoredGroup, stored_group}
use Rattle.map_switches.specs.Switches.{IsFreshStripe, groups_of, numbered, stripes_from}
use Rattle.map_switches.proofs.HeldRuns.{mapped}

pub numbered-length : (gs : List Group) (next : ℕ) → length (numbered gs next) ≡ length gs
numbered-length [] next = refl
numbered-length (g ∷ gs) next = let rest = numbered-length gs (next + 1) in omega (arith, rest)

pub numbered-places : (gs : List Group) (next : ℕ) → places_of (numbered gs next) ≡ places_of gs
numbered-places [] next = refl
numbered-places (g ∷ gs) next = ap (λ (l : List Place). g.places ++ l) (numbered-places gs (next + 1))

pub numbered-units : (gs : List Group) (next : ℕ) → data_units (numbered gs next) ≡ data_units gs
numbered-units [] next = refl
numbered-units (g ∷ gs) next =
    sum_by-cons (λ (h : Group). h.n) (record g { generation = next }) (numbered gs (next + 1)) ∙ ap (λ (k : ℕ). g.n + k) (numbered-units gs (next + 1))
    ∙ sym (sum_by-cons (λ (h : Group). h.n) g gs)

pub stripes-length : {S : Type 0} (xs : List (GroupSlots S)) (next : ℕ) → length (stripes_from xs next) ≡ length xs
stripes-length [] next = refl
stripes-length (x ∷ xs) next = let rest = stripes-length xs (next + 1) in omega (arith, rest)

pub stripes-groups : {S : Type 0} (xs : List (GroupSlots S)) (next : ℕ) → groups_of (stripes_from xs next) ≡ numbered (groups_of xs) next
stripes-groups [] next = refl
stripes-groups (x ∷ xs) next = ap (λ (l : List Group). record x.group { generation = next } ∷ l) (stripes-groups xs (next + 1))

module _ {S : Type 0} (place_of : S → RawPlace) (content : S → Option (List ℕ)) (len_of : S → ℕ) where
  abbrev stored : List (GroupSlots S) → List StoredGroup
  stored xs = map (stored_group place_of content len_of) xs

  pub stored-groups : (xs : List (GroupSlots S)) (next : ℕ) → mapped (stored (stripes_from xs next)) ≡ numbered (groups_of xs) next
  stored-groups [] next = refl
  stored-groups (x ∷ xs) next = ap (λ (l : List Group). record x.group { generation = next } ∷ l) (stored-groups xs (next + 1))

  pub stripes_stand : (xs : List (GroupSlots S)) (next unit : ℕ) → AllByRecursion (IsFreshStripe place_of len_of unit) xs
      → AllByRecursion (λ (g : Group). length g.places ≤ 255) (numbered (groups_of xs) next) → AllByRecursion StandsThere (stored (stripes_from xs next))
  stripes_stand [] next unit fresh few = tt
  stripes_stand (x ∷ xs) next unit fresh few = (
    record { places = fresh.0.stands; few = subst (λ (ss : List Place). length ss ≤ 255) (sym fresh.0.stands) few.0 },
    stripes_stand xs (next + 1) unit fresh.1 few.1,
  )

  all_lengths : (xs : List S) (unit : ℕ) → AllByRecursion (λ (x : S). len_of x ≡ unit) xs → AllByRecursion (λ (n : ℕ). n ≡ unit) (map len_of xs)
  all_lengths [] unit all = tt
  all_lengths (x ∷ xs) unit all = (all.0, all_lengths xs unit all.1)

  pub stripes_sized : (xs : List (GroupSlots S)) (next unit : ℕ) → AllByRecursion (IsFreshStripe place_of len_of unit) xs
      → AllByRecursion (λ (g : StoredGroup). AllByRecursion (λ (n : ℕ). n ≡ unit) g.lengths) (stored (stripes_from xs next))
  stripes_sized [] next unit fresh = tt
  stripes_sized (x ∷ xs) next unit fresh = (all_lengths x.slots unit fresh.0.sized, stripes_sized xs (next + 1) unit fresh.1)

  pub stripes_hold : (xs : List (GroupSlots S)) (next unit : ℕ) (bytes : List ℕ) → HoldRun (stored xs) bytes unit → HoldRun (stored (stripes_from xs next)) bytes unit
  stripes_hold [] next unit bytes run = run
  stripes_hold (x ∷ xs) next unit bytes run = (run.0, run.1, run.2, run.3, stripes_hold xs (next + 1) unit run.1 run.4)
