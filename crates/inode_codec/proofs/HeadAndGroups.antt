-- The bytes of an inode in two parts, and how many a group has.
use Rattle.std.proofs.Common.{◌≡◌, ℕ, ◌+◌, ◌*◌, List, [], ◌∷◌, ◌++◌, length, refl, sym, ap, ◌∙◌, append_assoc, arith}
use Rattle.std.proofs.lemmas.List.{append-nil}
use Rattle.domains.specs.Place.{Place}
use Rattle.domains.specs.declared.group.Group.{Group}
use Rattle.inode_codec.specs.Inode.{group_bytes, groups_bytes, head_bytes, inode_bytes, place_bytes, places_bytes}
use Rattle.inode_codec.specs.declared.inode.Inode.{Inode}

pub head_and_groups : (i : Inode) → inode_bytes i ≡ head_bytes i.level i.unit i.size (length i.groups) ++ groups_bytes i.groups
unfolding inode_bytes head_bytes
head_and_groups i = refl

pub groups_bytes-push : (groups : List Group) (group : Group) → groups_bytes (groups ++ group ∷ []) ≡ groups_bytes groups ++ group_bytes group
groups_bytes-push [] group = append-nil (group_bytes group)
groups_bytes-push (g ∷ gs) group =
    ap (λ (rest : List ℕ). group_bytes g ++ rest) (groups_bytes-push gs group) ∙ sym (append_assoc (group_bytes g) (groups_bytes gs) (group_bytes group))

length-places : (places : List Place) → length (places_bytes places) ≡ 4 * length places
unfolding place_bytes
length-places [] = refl
length-places (p ∷ ps) = let rest : length (places_bytes ps) ≡ 4 * length ps = length-places ps in omega arith

pub length-group : (group : Group) → length (group_bytes group) ≡ 6 + 4 * length group.places
unfolding group_bytes
length-group group = let rest : length (places_bytes group.places) ≡ 4 * length group.places = length-places group.places in omega arith
