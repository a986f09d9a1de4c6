-- A file whose map was changed.
use Rattle.std.proofs.Common.{◌≡◌, ℕ, ◌+◌, ◌^◌, ◌<◌, ◌≤◌, true, List, [], ◌∷◌, ◌++◌, length, map, replicate, Option, None, Some, sym, ap, subst, ◌∙◌, arith, append-nil}
use Rattle.std.specs.List.{AllByRecursion}
use Rattle.std.proofs.lemmas.Bool.{false≢true}
use Rattle.flex_io.specs.Slots.{Holds}
use Rattle.domains.specs.Place.{Place, IsPlace, IsPlaceOf}
use Rattle.domains.specs.Shape.{IsShape}
use Rattle.domains.specs.Level.{IsLevel}
use Rattle.domains.specs.AtLevel.{AtLevel, InodeAt}
use Rattle.domains.specs.declared.group.Group.{Group}
use Rattle.inode_codec.specs.Inode.{IsInode, data_units, inode_bytes, units_for}
use Rattle.inode_codec.specs.declared.inode.Inode.{Inode}
use Rattle.file_history.specs.World.{Moment}
use Rattle.file_history.specs.Layout.{Layout, group_list, places_of, replaced, with_change}
use Rattle.file_history.specs.Stored.{inode_of}
use Rattle.file_history.specs.Step.{AreDistinct, AreNumbered}
use Rattle.file_history.specs.declared.entry.Change.{Change}
use Rattle.map_changes.specs.ChangedMaps.{first_of, inode_with, spliced}
use Rattle.map_changes.proofs.Pairs.{All-append, All-then, All-left, All-right}
use Rattle.map_changes.proofs.SplicedLists.{All-spliced, map-spliced}
use Rattle.map_changes.proofs.ChangedPlaces.{All-of-places, All-places, places_of-append}
use Rattle.map_changes.proofs.ChangedInodes.{changed_inodes_are_spelled, numbered_below, numbered_last}
use Rattle.striped_groups.specs.StoredGroups.{Content, StoredGroup, HoldRun, SpellIn, StandsThere}
use Rattle.file_core.specs.FileInvariant.{KeepsSlots}
use Rattle.file_heads.specs.Heads.{is_there}
use Rattle.file_core.proofs.CreatedFile.{are_places}
use Rattle.map_switches.proofs.HeldRuns.{mapped}

-- the inode of a file that is there can be spelled
pub root_valid : (unit : ℕ) (l : Layout) (inode : List StoredGroup) → map (λ (g : StoredGroup). g.group) inode ≡ group_list l.inode → l.present ≡ is_there l.inode
    → l.present ≡ true → AllByRecursion (λ (g : StoredGroup). SpellIn (inode_of unit l) g.contents) inode → IsInode (inode_of unit l)
root_valid unit l [] root there present spelled = absurd (none l.inode root (sym there ∙ present))
  where
    none : (o : Option Group) → [] ≡ group_list o → is_there o ≡ true → ⊥
    none None is there = false≢true there
    none (Some g) is there = no_cons is
      where
        no_cons : [] ≡ g ∷ [] → ⊥
        no_cons h = cc
root_valid unit l (x ∷ xs) root there present spelled = spelled.0.valid

-- a legal change of the map: the run that it names makes way for groups at the level and at places of the cluster, and the map then
-- has as many data units as a file of this size
pub record IsChanged (now : Moment) (l : Layout) (change : Change) (size : ℕ) : Type 0 where
  pub present : l.present ≡ true
  pub within : first_of change.old l.groups + length change.old ≤ length l.groups
  pub run : replaced change.old change.new l.groups ≡ spliced l.groups (first_of change.old l.groups) (length change.old) change.new
  pub few : length (spliced l.groups (first_of change.old l.groups) (length change.old) change.new) ≤ 256
  pub units : data_units (spliced l.groups (first_of change.old l.groups) (length change.old) change.new) ≡ units_for now.shape.unit size
  pub level : AllByRecursion (λ (g : Group). AtLevel g l.requested) change.new
  pub inode : InodeAt change.inode l.requested
  pub numbers : AreNumbered l.next change.new change.inode
  pub places : AllByRecursion (IsPlaceOf now.shape) (places_of change.new ++ change.inode.places)

-- what a change brings, by its slots: the groups, and an inode that holds this text
pub record Brings (unit : ℕ) (change : Change) (text : List ℕ) (fresh : List StoredGroup) (root : StoredGroup) : Type 0 where
  pub groups : mapped fresh ≡ change.new
  pub stands : AllByRecursion StandsThere fresh
  pub sized : AllByRecursion (λ (g : StoredGroup). AllByRecursion (λ (n : ℕ). n ≡ unit) g.lengths) fresh
  pub inode : root.group ≡ change.inode
  pub root_stands : StandsThere root
  pub root_sized : AllByRecursion (λ (n : ℕ). n ≡ length text) root.lengths
  pub root_holds : AllByRecursion (λ (x : Content). Holds x text) root.contents

module _ (now : Moment) (l : Layout) (bytes : List ℕ) (groups inode : List StoredGroup) (change : Change) (size : ℕ)
    (kept : KeepsSlots now.shape l bytes groups inode) (is : IsShape now.shape) (c : IsChanged now l change size) where
  abbrev first : ℕ
  first = first_of change.old l.groups

  abbrev count : ℕ
  count = length change.old

  -- what the new inode says
  abbrev pub inode_after : Inode
  inode_after = inode_with l.requested now.shape.unit size (spliced l.groups first count change.new)

  places_within : AllByRecursion (IsPlaceOf now.shape) (places_of (spliced l.groups first count change.new ++ change.inode ∷ []))
  places_within =
      subst (AllByRecursion (IsPlaceOf now.shape))
      (sym (places_of-append (spliced l.groups first count change.new) (change.inode ∷ [])
      ∙ ap (λ (x : List Place). places_of (spliced l.groups first count change.new) ++ x) (append-nil change.inode.places)))
      (All-append (IsPlaceOf now.shape) (places_of (spliced l.groups first count change.new)) change.inode.places
      (All-places (IsPlaceOf now.shape) (spliced l.groups first count change.new)
      (All-spliced (λ (g : Group). AllByRecursion (IsPlaceOf now.shape) g.places) l.groups first count change.new
      (All-of-places (IsPlaceOf now.shape) l.groups
      (All-left (IsPlaceOf now.shape) (places_of l.groups) (places_of (group_list l.inode))
      (subst (AllByRecursion (IsPlaceOf now.shape)) (places_of-append l.groups (group_list l.inode)) kept.within)))
      (All-of-places (IsPlaceOf now.shape) change.new (All-left (IsPlaceOf now.shape) (places_of change.new) change.inode.places c.places))))
      (All-right (IsPlaceOf now.shape) (places_of change.new) change.inode.places c.places))

  each_place : (gs : List Group) → AllByRecursion (λ (g : Group). AllByRecursion (IsPlaceOf now.shape) g.places) gs
      → AllByRecursion (λ (g : Group). AllByRecursion IsPlace g.places) gs
  each_place gs all = All-then (λ (g : Group). AllByRecursion (IsPlaceOf now.shape) g.places) (λ (g : Group). AllByRecursion IsPlace g.places) gs (λ g here. are_places now.shape g.places is here) all

  used_before : AllByRecursion (λ (g : Group). g.generation < change.inode.generation + 1) (spliced l.groups first count change.new)
  used_before =
      let last = numbered_last l.next change.new change.inode c.numbers in
      All-spliced (λ (g : Group). g.generation < change.inode.generation + 1) l.groups first count change.new
      (All-then (λ (g : Group). g.generation < l.next) (λ (g : Group). g.generation < change.inode.generation + 1) l.groups (λ g low. omega (arith, last, low)) kept.used)
      (numbered_below l.next change.new change.inode (change.inode.generation + 1) c.numbers (omega (arith, last)))

  pub inode_valid : IsLevel l.requested → l.next + length change.new < 2 ^ 32 → IsInode inode_after
  inode_valid level few =
      changed_inodes_are_spelled now.shape.unit size first count l.requested l change.new change.inode
      (root_valid now.shape.unit l inode kept.root kept.there c.present kept.spelled) level kept.used c.numbers few c.level
      (each_place change.new (All-of-places (IsPlaceOf now.shape) change.new (All-left (IsPlaceOf now.shape) (places_of change.new) change.inode.places c.places)))
      c.few c.units

  pub KeepsSlots-changed : IsLevel l.requested → l.next + length change.new < 2 ^ 32 → AreDistinct (places_of (spliced l.groups first count change.new ++ change.inode ∷ []))
      → (new : List ℕ) → size ≡ length new → (fresh : List StoredGroup) (root : StoredGroup) → Brings now.shape.unit change (inode_bytes inode_after) fresh root
      → (more : ℕ) → HoldRun (spliced groups first count fresh) (new ++ replicate more 0) now.shape.unit
      → KeepsSlots now.shape (record (with_change change l) { size = size }) new (spliced groups first count fresh) (root ∷ [])
  KeepsSlots-changed level few distinct new long fresh root news more held = record {
    mapped = map-spliced (λ (g : StoredGroup). g.group) groups first count fresh
        ∙ ap (λ (x : List Group × List Group). spliced x.0 first count x.1) (λ i. (kept.mapped i, news.groups i)) ∙ sym c.run;
    root = ap (λ (g : Group). g ∷ []) news.inode;
    there = c.present;
    stands = All-spliced StandsThere groups first count fresh kept.stands news.stands;
    root_stands = (news.root_stands, tt);
    sized = All-spliced (λ (g : StoredGroup). AllByRecursion (λ (n : ℕ). n ≡ now.shape.unit) g.lengths) groups first count fresh kept.sized news.sized;
    root_sized = (subst (λ (gs : List Group). AllByRecursion (λ (n : ℕ). n ≡ length (inode_bytes (inode_with l.requested now.shape.unit size gs))) root.lengths) (sym c.run) news.root_sized, tt);
    distinct = subst (λ (gs : List Group). AreDistinct (places_of (gs ++ change.inode ∷ []))) (sym c.run) distinct;
    within = subst (λ (gs : List Group). AllByRecursion (IsPlaceOf now.shape) (places_of (gs ++ change.inode ∷ []))) (sym c.run) places_within;
    spelled = (
      subst (λ (gs : List Group). SpellIn (inode_with l.requested now.shape.unit size gs) root.contents) (sym c.run)
          (record { valid = inode_valid level few; held = news.root_holds }),
      tt,
    );
    used = subst (AllByRecursion (λ (g : Group). g.generation < change.inode.generation + 1)) (sym c.run) used_before;
    size = long;
    zeros = more;
    run = held;
  }
