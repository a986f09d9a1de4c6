-- The bytes of an inode tell all that it says.
use Rattle.std.proofs.Common.{◌≡◌, ℕ, ◌^◌, ◌<◌, Bool, true, List, [], ◌∷◌, ◌++◌, length, take, drop, map, get_or, refl, sym, ap, ap₂, ◌∙◌, arith}
use Rattle.std.specs.List.{AllByRecursion}
use Rattle.std.specs.Int.{to_be_bytes, from_be_bytes, w16, w32, w64}
use Rattle.std.proofs.lemmas.Bool.{and_parts, eqb-true}
use Rattle.std.proofs.lemmas.List.Elements.{All-contains}
use Rattle.std.proofs.lemmas.List.Sums.{AllPass-from_list_all}
use Rattle.std.proofs.lemmas.Nat.{from_be_bytes-to_be_bytes_2, from_be_bytes-to_be_bytes_4, from_be_bytes-to_be_bytes_8}
use Rattle.domains.specs.Place.{Place, IsPlace}
use Rattle.domains.specs.Level.{Level, IsLevel, named_levels, same_level, two_copies}
use Rattle.domains.specs.declared.group.Group.{Group}
use Rattle.inode_codec.specs.Inode.{IsInodeGroup, IsInode, level_code, place_bytes, places_bytes, group_bytes, groups_bytes, inode_bytes}
use Rattle.inode_codec.specs.declared.inode.Inode.{Inode}

-- a number within its width is told by its bytes
to_be_bytes_2-eq : (a b : ℕ) → a < 2 ^ 16 → b < 2 ^ 16 → to_be_bytes w16 a ≡ to_be_bytes w16 b → a ≡ b
to_be_bytes_2-eq a b ha hb h = sym (from_be_bytes-to_be_bytes_2 a ha) ∙ ap (from_be_bytes w16) h ∙ from_be_bytes-to_be_bytes_2 b hb

to_be_bytes_4-eq : (a b : ℕ) → a < 2 ^ 32 → b < 2 ^ 32 → to_be_bytes w32 a ≡ to_be_bytes w32 b → a ≡ b
to_be_bytes_4-eq a b ha hb h = sym (from_be_bytes-to_be_bytes_4 a ha) ∙ ap (from_be_bytes w32) h ∙ from_be_bytes-to_be_bytes_4 b hb

to_be_bytes_8-eq : (a b : ℕ) → a < 2 ^ 64 → b < 2 ^ 64 → to_be_bytes w64 a ≡ to_be_bytes w64 b → a ≡ b
to_be_bytes_8-eq a b ha hb h = sym (from_be_bytes-to_be_bytes_8 a ha) ∙ ap (from_be_bytes w64) h ∙ from_be_bytes-to_be_bytes_8 b hb

-- levels with the same numbers are one
pub same_level-eq : (a b : Level) → same_level a b ≡ true → a ≡ b
same_level-eq a b h =
    let both = and_parts _ _ h in
    let first = and_parts _ _ both.0 in
    ap (λ (n : ℕ). let made : Level = record { w = n; m = a.m; k = a.k } in made) (eqb-true a.w b.w first.0)
    ∙ ap (λ (n : ℕ). let made : Level = record { w = b.w; m = n; k = a.k } in made) (eqb-true a.m b.m first.1)
    ∙ ap (λ (n : ℕ). let made : Level = record { w = b.w; m = b.m; k = n } in made) (eqb-true a.k b.k both.1)

abbrev pub levels : List Level
levels = map (λ (named : Level × List ℕ). named.0) named_levels

-- the level stands in the table where its code says
abbrev is_found : Level → Bool
is_found level = same_level (get_or levels (level_code level) two_copies) level

pub level_of_code : (level : Level) → IsLevel level → get_or levels (level_code level) two_copies ≡ level
level_of_code level is =
    same_level-eq _ _ (All-contains (λ r. is_found r ≡ true) levels level (AllPass-from_list_all is_found levels refl) is)

-- a level of the table is told by its code
pub level_code-eq : (a b : Level) → IsLevel a → IsLevel b → level_code a ≡ level_code b → a ≡ b
level_code-eq a b ha hb h = sym (level_of_code a ha) ∙ ap (λ (n : ℕ). get_or levels n two_copies) h ∙ level_of_code b hb

-- a place is told by its bytes
place_bytes-eq : (s t : Place) → IsPlace s → IsPlace t → place_bytes s ≡ place_bytes t → s ≡ t
unfolding place_bytes
place_bytes-eq s t hs ht h =
    let node : s.drive.node ≡ t.drive.node = ap (λ (l : List ℕ). get_or l 0 0) h in
    let drive : s.drive.drive ≡ t.drive.drive = ap (λ (l : List ℕ). get_or l 1 0) h in
    let slot : s.slot ≡ t.slot = to_be_bytes_2-eq s.slot t.slot (omega (arith, hs.slot)) (omega (arith, ht.slot)) (ap (λ (l : List ℕ). drop 2 l) h) in
    ap (λ (n : ℕ). let made : Place = record { drive = record { node = n; drive = s.drive.drive }; slot = s.slot } in made) node
    ∙ ap (λ (n : ℕ). let made : Place = record { drive = record { node = t.drive.node; drive = n }; slot = s.slot } in made) drive
    ∙ ap (λ (n : ℕ). let made : Place = record { drive = t.drive; slot = n } in made) slot

-- as many places are told by the bytes that begin with theirs, and so are the bytes after them
places_bytes-eq : (ss ts : List Place) (back more : List ℕ) → AllByRecursion IsPlace ss → AllByRecursion IsPlace ts → length ss ≡ length ts
    → places_bytes ss ++ back ≡ places_bytes ts ++ more → (ss ≡ ts) × (back ≡ more)
unfolding place_bytes
places_bytes-eq [] [] back more hs ht same h = (refl, h)
places_bytes-eq [] (t ∷ ts) back more hs ht same h = absurd (omega (arith, same))
places_bytes-eq (s ∷ ss) [] back more hs ht same h = absurd (omega (arith, same))
places_bytes-eq (s ∷ ss) (t ∷ ts) back more hs ht same h =
    let first : s ≡ t = place_bytes-eq s t hs.0 ht.0 (ap (λ (l : List ℕ). take 4 l) h) in
    let rest = places_bytes-eq ss ts back more hs.1 ht.1 (omega (arith, same)) (ap (λ (l : List ℕ). drop 4 l) h) in
    (ap₂ (λ (x : Place) (xs : List Place). x ∷ xs) first rest.0, rest.1)

-- a group
abbrev made_group : ℕ → ℕ → ℕ → List Place → Group
made_group generation n m places = record { generation = generation; n = n; m = m; places = places }

-- a group is told by the bytes that begin with its own, and so are the bytes after it
group_bytes-eq : (g h : Group) (back more : List ℕ) → IsInodeGroup g → IsInodeGroup h → group_bytes g ++ back ≡ group_bytes h ++ more
    → (g ≡ h) × (back ≡ more)
unfolding group_bytes
group_bytes-eq g h back more hg hh e =
    let generation : g.generation ≡ h.generation =
    to_be_bytes_4-eq g.generation h.generation hg.generation hh.generation (ap (λ (l : List ℕ). take 4 l) e) in
    let n : g.n ≡ h.n = ap (λ (l : List ℕ). get_or l 4 0) e in
    let m : g.m ≡ h.m = ap (λ (l : List ℕ). get_or l 5 0) e in
    let rest = places_bytes-eq g.places h.places back more hg.places hh.places (omega (arith, hg.whole, hh.whole, n, m)) (ap (λ (l : List ℕ). drop 6 l) e) in (
      ap (λ (x : ℕ). made_group x g.n g.m g.places) generation ∙ ap (λ (x : ℕ). made_group h.generation x g.m g.places) n
          ∙ ap (λ (x : ℕ). made_group h.generation h.n x g.places) m ∙ ap (made_group h.generation h.n h.m) rest.0,
      rest.1,
    )

-- as many groups are told by their bytes
groups_bytes-eq : (gs hs : List Group) → AllByRecursion IsInodeGroup gs → AllByRecursion IsInodeGroup hs → length gs ≡ length hs
    → groups_bytes gs ≡ groups_bytes hs → gs ≡ hs
groups_bytes-eq [] [] hg hh same e = refl
groups_bytes-eq [] (h ∷ hs) hg hh same e = absurd (omega (arith, same))
groups_bytes-eq (g ∷ gs) [] hg hh same e = absurd (omega (arith, same))
groups_bytes-eq (g ∷ gs) (h ∷ hs) hg hh same e =
    let first = group_bytes-eq g h (groups_bytes gs) (groups_bytes hs) hg.0 hh.0 e in
    ap₂ (λ (x : Group) (xs : List Group). x ∷ xs) first.0 (groups_bytes-eq gs hs hg.1 hh.1 (omega (arith, same)) first.1)

-- an inode
abbrev made_inode : Level → ℕ → ℕ → List Group → Inode
made_inode level unit size groups = record { level = level; unit = unit; size = size; groups = groups }

-- two inodes that can be spelled and have the same bytes are one
pub inode_bytes-eq : (i j : Inode) → IsInode i → IsInode j → inode_bytes i ≡ inode_bytes j → i ≡ j
unfolding inode_bytes
inode_bytes-eq i j hi hj e =
    let level : i.level ≡ j.level = level_code-eq i.level j.level hi.level hj.level (ap (λ (l : List ℕ). get_or l 3 0) e) in
    let unit : i.unit ≡ j.unit =
    to_be_bytes_4-eq i.unit j.unit (omega (arith, hi.most_unit)) (omega (arith, hj.most_unit)) (ap (λ (l : List ℕ). take 4 (drop 4 l)) e) in
    let size : i.size ≡ j.size =
    to_be_bytes_8-eq i.size j.size (omega (arith, hi.size)) (omega (arith, hj.size)) (ap (λ (l : List ℕ). take 8 (drop 8 l)) e) in
    let count : length i.groups ≡ length j.groups =
    to_be_bytes_2-eq (length i.groups) (length j.groups) (omega (arith, hi.count)) (omega (arith, hj.count)) (ap (λ (l : List ℕ). take 2 (drop 16 l)) e) in
    let groups : i.groups ≡ j.groups = groups_bytes-eq i.groups j.groups hi.groups hj.groups count (ap (λ (l : List ℕ). drop 18 l) e) in
    ap (λ (x : Level). made_inode x i.unit i.size i.groups) level ∙ ap (λ (x : ℕ). made_inode j.level x i.size i.groups) unit
    ∙ ap (λ (x : ℕ). made_inode j.level j.unit x i.groups) size ∙ ap (made_inode j.level j.unit j.size) groups
