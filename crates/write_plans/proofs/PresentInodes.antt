-- The inode of a file that is there.
use Rattle.std.proofs.Common.{◌≡◌, ℕ, true, List, [], ◌∷◌, map, Option, None, Some, sym, ◌∙◌}
use Rattle.std.specs.List.{AllByRecursion}
use Rattle.std.proofs.lemmas.Bool.{false≢true}
use Rattle.flex_io.specs.declared.raw_place.RawPlace.{RawPlace}
use Rattle.domains.specs.declared.group.Group.{Group}
use Rattle.inode_codec.specs.Inode.{IsInode}
use Rattle.file_history.specs.Layout.{Layout, group_list}
use Rattle.file_history.specs.Stored.{inode_of}
use Rattle.file_heads.specs.Heads.{is_there}
use Rattle.file_core.specs.FileView.{FileView, IsFile, layout_of}
use Rattle.striped_groups.specs.StoredGroups.{StoredGroup, SpellIn}

root_valid : (unit : ℕ) (l : Layout) (inode : List StoredGroup) → map (λ (g : StoredGroup). g.group) inode ≡ group_list l.inode → l.present ≡ is_there l.inode
    → l.present ≡ true → AllByRecursion (λ (g : StoredGroup). SpellIn (inode_of unit l) g.contents) inode → IsInode (inode_of unit l)
root_valid unit l [] root there present spelled = absurd (none l.inode root (sym there ∙ present))
  where
    none : (o : Option Group) → [] ≡ group_list o → is_there o ≡ true → ⊥
    none None is there = false≢true there
    none (Some g) is there = no_cons is
      where
        no_cons : [] ≡ g ∷ [] → ⊥
        no_cons h = cc
root_valid unit l (x ∷ xs) root there present spelled = spelled.0.valid

-- it can be spelled
pub inode_is : {S : Type 0} (place_of : S → RawPlace) (content : S → Option (List ℕ)) (len_of : S → ℕ) (x : FileView S) → IsFile place_of content len_of x
    → (layout_of x).present ≡ true → IsInode (inode_of x.shape.unit (layout_of x))
inode_is place_of content len_of x is present =
    root_valid x.shape.unit (layout_of x) _ is.slots.root is.slots.there present is.slots.spelled
