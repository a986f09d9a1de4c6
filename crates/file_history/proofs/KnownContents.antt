-- What is stored where each place tells its content.
use Rattle.std.proofs.Common.{◌≡◌, ℕ, List, [], ◌∷◌, ◌++◌, replicate, Option, Some, IfSome, subst}
use Rattle.std.specs.List.{AllByRecursion}
use Rattle.domains.specs.Place.{Place}
use Rattle.domains.specs.declared.group.Group.{Group}
use Rattle.inode_codec.specs.Inode.{inode_bytes}
use Rattle.file_history.specs.Layout.{Layout, group_list, places_of}
use Rattle.file_history.specs.Stored.{AreHeld, HoldsGroups, SpellsInode, IsStored, inode_of}
use Rattle.file_history.proofs.DeterminedByLiveUnits.{all_left, all_right}

module _ (tells : Place → Option (List ℕ)) (held : Place → List ℕ) where
  -- each of the places tells what it holds
  abbrev pub AllTold : List Place → Type 0
  AllTold places = AllByRecursion (λ (s : Place). tells s ≡ Some (held s)) places

  told_held : (ss : List Place) (us : List (List ℕ)) → AllTold ss → AreHeld ss us tells → AreHeld ss us (λ s. Some (held s))
  told_held [] [] told units = tt
  told_held [] (u ∷ us) told units = units
  told_held (s ∷ ss) [] told units = units
  told_held (s ∷ ss) (u ∷ us) told units =
      (subst (λ (o : Option (List ℕ)). IfSome o (λ content. content ≡ u)) told.0 units.0, told_held ss us told.1 units.1)

  told_text : (ss : List Place) (text : List ℕ) → AllTold ss → AllByRecursion (λ (s : Place). IfSome (tells s) (λ content. content ≡ text)) ss
      → AllByRecursion (λ (s : Place). IfSome (Some (held s)) (λ content. content ≡ text)) ss
  told_text [] text told units = tt
  told_text (s ∷ ss) text told units =
      (subst (λ (o : Option (List ℕ)). IfSome o (λ content. content ≡ text)) told.0 units.0, told_text ss text told.1 units.1)

  told_groups : (unit : ℕ) (gs : List Group) (bytes : List ℕ) → AllTold (places_of gs) → HoldsGroups gs bytes unit tells
      → HoldsGroups gs bytes unit (λ s. Some (held s))
  told_groups unit [] bytes told holds = holds
  told_groups unit (g ∷ gs) bytes told holds =
      let T : Place → Type 0 = λ s. tells s ≡ Some (held s) in
      let group = holds.3 in (
        holds.0,
        holds.1,
        holds.2,
        record {
          units = group.units;
          codeword = group.codeword;
          lengths = group.lengths;
          joined = group.joined;
          places = told_held g.places group.units (all_left T g.places (places_of gs) told) group.places;
        },
        told_groups unit gs holds.1 (all_right T g.places (places_of gs) told) holds.4,
      )

  told_inodes : (unit : ℕ) (l : Layout) (gs : List Group) → AllTold (places_of gs) → AllByRecursion (SpellsInode tells unit l) gs
      → AllByRecursion (SpellsInode (λ s. Some (held s)) unit l) gs
  told_inodes unit l [] told spells = tt
  told_inodes unit l (g ∷ gs) told spells =
      let T : Place → Type 0 = λ s. tells s ≡ Some (held s) in (
        record {
          valid = spells.0.valid;
          places = told_text g.places (inode_bytes (inode_of unit l)) (all_left T g.places (places_of gs) told) spells.0.places;
        },
        told_inodes unit l gs (all_right T g.places (places_of gs) told) spells.1,
      )

  -- where all places of a layout tell, what is stored where they tell is stored
  pub told_stored : (unit : ℕ) (l : Layout) (bytes : List ℕ) → AllTold (places_of l.groups) → AllTold (places_of (group_list l.inode))
      → IsStored tells unit l bytes → IsStored (λ s. Some (held s)) unit l bytes
  told_stored unit l bytes units inode stored = record {
    inode = told_inodes unit l (group_list l.inode) inode stored.inode;
    size = stored.size;
    zeros = stored.zeros;
    groups = told_groups unit l.groups (bytes ++ replicate stored.zeros 0) units stored.groups;
  }
