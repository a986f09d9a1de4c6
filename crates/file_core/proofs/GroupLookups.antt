-- The groups that a file keeps are those of its layout.
use Rattle.std.proofs.Common.{◌≡◌, ℕ, zero, suc, true, ◌<◌, ◌≤◌, List, [], ◌∷◌, ◌++◌, length, map, get_or, Option, Some, None, refl, sym, ap, ◌∙◌, arith}
use Rattle.std.specs.List.{slice_get}
use Rattle.std.specs.Option.{option_map}
use Rattle.std.proofs.lemmas.Simd.{map-map}
use Rattle.std.proofs.lemmas.Option.{slice_get-map}
use Rattle.flex_io.specs.declared.raw_place.RawPlace.{RawPlace}
use Rattle.domains.specs.Shape.{Shape}
use Rattle.domains.specs.declared.group.Group.{Group}
use Rattle.file_history.specs.Layout.{Layout, all_groups, group_list}
use Rattle.striped_groups.specs.StoredGroups.{GroupSlots, StoredGroup, SpellIn, stored_group, list_of}
use Rattle.file_core.specs.FileInvariant.{KeepsSlots}
use Rattle.file_heads.specs.Heads.{is_there}
use Rattle.std.specs.List.{AllByRecursion}
use Rattle.std.proofs.lemmas.List.{length-map}
use Rattle.domains.specs.Level.{Level}
use Rattle.file_history.specs.Layout.{layout_after}
use Rattle.file_history.specs.Stored.{IsRooted, inode_of}
use Rattle.file_history.specs.declared.entry.NotedEntry.{NotedEntry}
use Rattle.file_history.proofs.RootedLayouts.{layout_rooted}

pub slice_get-front : {A : Type 0} (xs ys : List A) (i : ℕ) (x : A) → slice_get xs i ≡ Some x → slice_get (xs ++ ys) i ≡ Some x
slice_get-front [] ys i x is = absurd (none_some is)
  where
    none_some : None ≡ Some x → ⊥
    none_some h = cc
slice_get-front (y ∷ xs) ys zero x is = is
slice_get-front (y ∷ xs) ys (suc i) x is = slice_get-front xs ys i x is

pub slice_get-seam : {A : Type 0} (xs : List A) (y : A) (ys : List A) (i : ℕ) → i ≡ length xs → slice_get (xs ++ y ∷ ys) i ≡ Some y
slice_get-seam [] y ys zero is = refl
slice_get-seam [] y ys (suc i) is = absurd (omega (arith, is))
slice_get-seam (x ∷ xs) y ys zero is = absurd (omega (arith, is))
slice_get-seam (x ∷ xs) y ys (suc i) is = slice_get-seam xs y ys i (omega (arith, is))

slice_get_here : {A : Type 0} (xs : List A) (i : ℕ) (x : A) → i < length xs → ((d : A) → x ≡ get_or xs i d) → slice_get xs i ≡ Some x
slice_get_here [] i x below is = absurd (omega (arith, below))
slice_get_here (y ∷ xs) zero x below is = ap (λ z. Some z) (sym (is y))
slice_get_here (y ∷ xs) (suc i) x below is = slice_get_here xs i x (omega (arith, below)) is

-- what a `get` that finds an element tells
pub slice_get_at : {A : Type 0} (xs items : List A) (i at : ℕ) (x : A) → xs ≡ items → i ≡ at → (i < length xs) × ((d : A) → x ≡ get_or xs i d)
    → slice_get items at ≡ Some x
slice_get_at xs items i at x same index found =
    (λ j. slice_get (sym same j) (sym index j)) ∙ slice_get_here xs i x found.0 found.1

module _ {S : Type 0} (place_of : S → RawPlace) (content : S → Option (List ℕ)) (len_of : S → ℕ) where
  abbrev pub stored : List (GroupSlots S) → List StoredGroup
  stored gs = map (stored_group place_of content len_of) gs

  pub kept_groups : (gs : List (GroupSlots S)) → map (λ (g : StoredGroup). g.group) (stored gs) ≡ map (λ (g : GroupSlots S). g.group) gs
  kept_groups gs = map-map (λ (g : StoredGroup). g.group) (stored_group place_of content len_of) gs

  pub groups_of : (shape : Shape) (l : Layout) (bytes : List ℕ) (gs : List (GroupSlots S)) (inode : List StoredGroup)
      → KeepsSlots shape l bytes (stored gs) inode → map (λ (g : GroupSlots S). g.group) gs ≡ l.groups
  groups_of shape l bytes gs inode kept = sym (kept_groups gs) ∙ kept.mapped

  pub root_of : (shape : Shape) (l : Layout) (bytes : List ℕ) (groups : List StoredGroup) (inode : Option (GroupSlots S))
      → KeepsSlots shape l bytes groups (stored (list_of inode)) → map (λ (g : GroupSlots S). g.group) (list_of inode) ≡ group_list l.inode
  root_of shape l bytes groups inode kept = sym (kept_groups (list_of inode)) ∙ kept.root

  -- the group at an index
  pub mapped_at : (shape : Shape) (l : Layout) (bytes : List ℕ) (gs : List (GroupSlots S)) (inode : List StoredGroup) (at : ℕ) (s : GroupSlots S)
      → KeepsSlots shape l bytes (stored gs) inode → slice_get gs at ≡ Some s → slice_get l.groups at ≡ Some s.group
  mapped_at shape l bytes gs inode at s kept is =
      ap (λ (groups : List Group). slice_get groups at) (sym (groups_of shape l bytes gs inode kept))
      ∙ slice_get-map (λ (g : GroupSlots S). g.group) gs at ∙ ap (option_map (λ (g : GroupSlots S). g.group)) is

  -- the inode's group stands behind them
  pub root_at : (shape : Shape) (l : Layout) (bytes : List ℕ) (gs : List (GroupSlots S)) (inode : Option (GroupSlots S)) (at : ℕ) (s : GroupSlots S)
      → KeepsSlots shape l bytes (stored gs) (stored (list_of inode)) → at ≡ length l.groups → inode ≡ Some s → slice_get (all_groups l) at ≡ Some s.group
  root_at shape l bytes gs inode at s kept last is =
      ap (λ (r : List Group). slice_get (l.groups ++ r) at) (sym (root_of shape l bytes (stored gs) inode kept) ∙ ap (λ (o : Option (GroupSlots S)). map (λ (g : GroupSlots S). g.group) (list_of o)) is)
      ∙ slice_get-seam l.groups s.group [] at last

  -- a file with an inode is there
  pub root_there : (shape : Shape) (l : Layout) (bytes : List ℕ) (groups : List StoredGroup) (inode : Option (GroupSlots S)) (s : GroupSlots S)
      → KeepsSlots shape l bytes groups (stored (list_of inode)) → inode ≡ Some s → is_there l.inode ≡ true
  root_there shape l bytes groups inode s kept is =
      here l.inode (sym (root_of shape l bytes groups inode kept) ∙ ap (λ (o : Option (GroupSlots S)). map (λ (g : GroupSlots S). g.group) (list_of o)) is)
    where
      here : (o : Option Group) → group_list o ≡ s.group ∷ [] → is_there o ≡ true
      here None h = absurd (no_cons h)
        where
          no_cons : [] ≡ s.group ∷ [] → ⊥
          no_cons e = cc
      here (Some g) h = refl

-- the map has at most 256 groups
pub few_groups : (shape : Shape) (declared : Level) (log : List NotedEntry) (bytes : List ℕ) (groups inode : List StoredGroup)
    → KeepsSlots shape (layout_after declared log) bytes groups inode → length groups ≤ 256
few_groups shape declared log bytes groups inode kept =
    let long = sym (ap (λ (gs : List Group). length gs) kept.mapped) ∙ length-map groups (λ (g : StoredGroup). g.group) in
    at (layout_after declared log) inode kept.root kept.spelled (layout_rooted declared log) long
  where
    some_none : (g : Group) → Some g ≡ None → ⊥
    some_none g h = cc

    none_is : (o : Option Group) → [] ≡ group_list o → o ≡ None
    none_is None is = refl
    none_is (Some g) is = absurd (no_cons is)
      where
        no_cons : [] ≡ g ∷ [] → ⊥
        no_cons h = cc

    at : (l : Layout) (inode : List StoredGroup) → map (λ (g : StoredGroup). g.group) inode ≡ group_list l.inode
        → AllByRecursion (λ (g : StoredGroup). SpellIn (inode_of shape.unit l) g.contents) inode → IsRooted l → length l.groups ≡ length groups → length groups ≤ 256
    at l [] root spelled rooted long =
        let empty = ap (λ (gs : List Group). length gs) (rooted (none_is l.inode root)).0 in omega (arith, empty, long)
    at l (g ∷ gs) root spelled rooted long = let count = spelled.0.valid.count in omega (arith, count, long)
