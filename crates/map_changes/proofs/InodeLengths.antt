-- How long the text of an inode is.
use Rattle.std.proofs.Common.{◌≡◌, suc, ◌*◌, ◌≤◌, List, [], ◌∷◌, length, refl, arith, length-append}
use Rattle.std.specs.List.{AllByRecursion}
use Rattle.domains.specs.Place.{Place}
use Rattle.domains.specs.declared.group.Group.{Group}
use Rattle.inode_codec.specs.Inode.{IsInodeGroup, group_bytes, groups_bytes, inode_bytes, place_bytes, places_bytes}
use Rattle.inode_codec.specs.declared.inode.Inode.{Inode}
use Rattle.map_changes.specs.Laws.{InodesFitSlots}

place_length : (s : Place) → length (place_bytes s) ≡ 4
unfolding place_bytes
place_length s = refl

places_length : (ss : List Place) → length (places_bytes ss) ≡ 4 * length ss
places_length [] = refl
places_length (s ∷ ss) =
    let here = place_length s in
    let rest = places_length ss in
    let both = length-append (place_bytes s) (places_bytes ss) in omega (arith, here, rest, both)

group_length : (g : Group) → length (group_bytes g) ≡ suc (suc (suc (suc (suc (suc (length (places_bytes g.places)))))))
unfolding group_bytes
group_length g = refl

groups_length : (gs : List Group) → AllByRecursion IsInodeGroup gs → length (groups_bytes gs) ≤ 98 * length gs
groups_length [] all = omega arith
groups_length (g ∷ gs) all =
    let here = group_length g in
    let places = places_length g.places in
    let n = all.0.units in
    let m = all.0.more in
    let whole = all.0.whole in
    let rest = groups_length gs all.1 in
    let both = length-append (group_bytes g) (groups_bytes gs) in omega (arith, here, places, n, m, whole, rest, both)

whole_length : (i : Inode) → length (inode_bytes i) ≡ suc (suc (suc (suc (suc (suc (suc (suc (suc (suc (suc (suc (suc (suc (suc (suc (suc (suc (length (groups_bytes i.groups)))))))))))))))))))
unfolding inode_bytes
whole_length i = refl

-- it has at most 25,106 bytes
pub inodes_fit_slots : InodesFitSlots
inodes_fit_slots i is =
    let whole = whole_length i in
    let groups = groups_length i.groups is.groups in
    let few = is.count in omega (arith, whole, groups, few)
