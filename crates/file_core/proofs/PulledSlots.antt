-- What the slots of a file owe a pull, and what a pull leaves of the file.
use Rattle.std.proofs.Common.{◌≡◌, ℕ, ◌≤◌, ◌^◌, List, [], ◌∷◌, length, map, Option, Some, None, refl, sym, ap, subst, arith}
use Rattle.std.specs.List.{AllByRecursion}
use Rattle.std.proofs.lemmas.List.{length-map}
use Rattle.flex_io.specs.declared.raw_place.RawPlace.{RawPlace}
use Rattle.domains.specs.Place.{Place}
use Rattle.domains.specs.Shape.{Shape}
use Rattle.domains.specs.Level.{Level}
use Rattle.domains.specs.declared.group.Group.{Group}
use Rattle.held_slots.specs.Slots.{place_from}
use Rattle.file_history.specs.Layout.{Layout, group_list, layout_after}
use Rattle.file_history.specs.Stored.{IsRooted, inode_of}
use Rattle.file_history.specs.declared.entry.NotedEntry.{NotedEntry}
use Rattle.file_history.proofs.RootedLayouts.{layout_rooted}
use Rattle.striped_groups.specs.StoredGroups.{GroupSlots, StoredGroup, SpellIn, StandsThere, stored_group, list_of}
use Rattle.file_core.specs.FileInvariant.{KeepsSlots}
use Rattle.pulled_groups.specs.Pulls.{MayPull, MayPullRoot, first_len}
use Rattle.file_heads.specs.PullRefusals.{group_of}

module _ {S : Type 0} (place_of : S → RawPlace) (content : S → Option (List ℕ)) (len_of : S → ℕ) where
  abbrev stored : GroupSlots S → StoredGroup
  stored = stored_group place_of content len_of

  long : (n : ℕ) (slots : List S) → AllByRecursion (λ (k : ℕ). k ≡ n) (map len_of slots) → AllByRecursion (λ (x : S). len_of x ≡ n) slots
  long n [] all = tt
  long n (x ∷ xs) all = (all.0, long n xs all.1)

  as_first : (n : ℕ) (slots : List S) → AllByRecursion (λ (x : S). len_of x ≡ n) slots → AllByRecursion (λ (x : S). len_of x ≡ first_len len_of slots) slots
  as_first n [] all = tt
  as_first n (x ∷ xs) all = (refl, subst (λ (k : ℕ). AllByRecursion (λ (y : S). len_of y ≡ k) xs) (sym all.0) all.1)

  may : (unit : ℕ) (g : GroupSlots S) → StandsThere (stored g) → AllByRecursion (λ (x : S). len_of x ≡ unit) g.slots → MayPull len_of unit g
  may unit g stands lengths =
      let count = length-map g.slots (λ (x : S). place_from (place_of x)) in
      let same = ap (λ (ss : List Place). length ss) stands.places in
      let few = stands.few in record { few = omega (arith, same, few); whole = omega (arith, count, same); lengths = lengths }

  pub may_pull : (unit : ℕ) (gs : List (GroupSlots S)) → AllByRecursion StandsThere (map stored gs)
      → AllByRecursion (λ (g : StoredGroup). AllByRecursion (λ (k : ℕ). k ≡ unit) g.lengths) (map stored gs) → AllByRecursion (MayPull len_of unit) gs
  may_pull unit [] stands sized = tt
  may_pull unit (g ∷ gs) stands sized = (may unit g stands.0 (long unit g.slots sized.0), may_pull unit gs stands.1 sized.1)

  pub may_pull_root : (n : ℕ) (gs : List (GroupSlots S)) → AllByRecursion StandsThere (map stored gs)
      → AllByRecursion (λ (g : StoredGroup). AllByRecursion (λ (k : ℕ). k ≡ n) g.lengths) (map stored gs) → AllByRecursion (MayPullRoot len_of) gs
  may_pull_root n [] stands sized = tt
  may_pull_root n (g ∷ gs) stands sized =
      (may (first_len len_of g.slots) g stands.0 (as_first n g.slots (long n g.slots sized.0)), may_pull_root n gs stands.1 sized.1)

  pub few_places : (gs : List (GroupSlots S)) → AllByRecursion StandsThere (map stored gs) → AllByRecursion (λ (g : GroupSlots S). length g.group.places ≤ 255) gs
  few_places [] stands = tt
  few_places (g ∷ gs) stands =
      let same = ap (λ (ss : List Place). length ss) stands.0.places in
      let few = stands.0.few in (omega (arith, same, few), few_places gs stands.1)

  -- the inode's group is that of the layout
  pub root_group : (shape : Shape) (l : Layout) (bytes : List ℕ) (groups : List StoredGroup) (inode : Option (GroupSlots S))
      → KeepsSlots shape l bytes groups (map stored (list_of inode)) → l.inode ≡ group_of inode
  root_group shape l bytes groups None kept = none l.inode kept.root
    where
      none : (o : Option Group) → [] ≡ group_list o → o ≡ None
      none None is = refl
      none (Some g) is = absurd (no_cons is)
        where
          no_cons : [] ≡ g ∷ [] → ⊥
          no_cons h = cc
  root_group shape l bytes groups (Some s) kept = some l.inode kept.root
    where
      some : (o : Option Group) → s.group ∷ [] ≡ group_list o → o ≡ Some s.group
      some None is = absurd (no_cons is)
        where
          no_cons : s.group ∷ [] ≡ [] → ⊥
          no_cons h = cc
      some (Some g) is = ap (λ (x : Group). Some x) (same is)
        where
          same : s.group ∷ [] ≡ g ∷ [] → g ≡ s.group
          same h = cc

-- no file is larger than the format allows
pub small_size : (shape : Shape) (declared : Level) (log : List NotedEntry) (bytes : List ℕ) (groups inode : List StoredGroup)
    → KeepsSlots shape (layout_after declared log) bytes groups inode → (layout_after declared log).size ≤ 2 ^ 29
small_size shape declared log bytes groups inode kept = at (layout_after declared log) inode kept.root kept.spelled (layout_rooted declared log)
  where
    none_is : (o : Option Group) → [] ≡ group_list o → o ≡ None
    none_is None is = refl
    none_is (Some g) is = absurd (no_cons is)
      where
        no_cons : [] ≡ g ∷ [] → ⊥
        no_cons h = cc

    at : (l : Layout) (inode : List StoredGroup) → map (λ (g : StoredGroup). g.group) inode ≡ group_list l.inode
        → AllByRecursion (λ (g : StoredGroup). SpellIn (inode_of shape.unit l) g.contents) inode → IsRooted l → l.size ≤ 2 ^ 29
    at l [] root spelled rooted = let empty = (rooted (none_is l.inode root)).1 in omega (arith, empty)
    at l (g ∷ gs) root spelled rooted = spelled.0.valid.size
