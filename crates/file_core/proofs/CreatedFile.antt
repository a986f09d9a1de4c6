-- A file that is created, and one that is deleted.
use Rattle.std.proofs.Common.{◌≡◌, ℕ, zero, suc, ◌<◌, ◌≤◌, false, List, [], ◌∷◌, ◌++◌, length, map, get_or, Option, Some, None, Result, Ok, Err, IfOk, refl, sym, ap, subst, ◌∙◌, arith, append-nil, lit≤}
use Rattle.std.specs.List.{AllByRecursion}
use Rattle.std.proofs.lemmas.Bool.{false≢true}
use Rattle.std.proofs.lemmas.List.{length-map}
use Rattle.std.proofs.Math.Nat.{div-eq_of_lt}
use Rattle.flex_io.specs.Slots.{Holds}
use Rattle.domains.specs.Place.{Place, IsPlace, IsPlaceOf}
use Rattle.domains.specs.Shape.{Shape, IsShape}
use Rattle.domains.specs.Level.{Level, IsLevel, named_levels}
use Rattle.domains.specs.AtLevel.{InodeAt}
use Rattle.domains.specs.declared.group.Group.{Group}
use Rattle.domains.proofs.ShapeLemmas.{IsPlace-of}
use Rattle.inode_codec.specs.Inode.{IsInode, inode_bytes}
use Rattle.file_history.specs.World.{Moment}
use Rattle.file_history.specs.Bytes.{bytes_after_event}
use Rattle.file_history.specs.Layout.{Layout, all_groups, group_list, layout_after_event}
use Rattle.file_history.specs.Step.{AreDistinct, IsNewPlace}
use Rattle.file_history.specs.Stored.{IsRooted}
use Rattle.file_history.specs.declared.entry.FileEvent.TheVariants.{Created, Deleted}
use Rattle.striped_groups.specs.StoredGroups.{Content, StoredGroup, SpellIn}
use Rattle.file_core.specs.FileInvariant.{KeepsSlots}
use Rattle.file_heads.specs.Heads.{is_there}
use Rattle.striped_groups.specs.StoredGroups.{Took}
use Rattle.file_core.specs.Creation.{empty_inode}

-- what holds of all elements holds of one
all_contains : {A : Type 0} (P : A → Type 0) (xs : List A) (k : ℕ) (x : A) → AllByRecursion P xs → k < length xs → get_or xs k x ≡ x → P x
all_contains P [] k x all below is = absurd (omega (arith, below))
all_contains P (y ∷ ys) zero x all below is = subst P is all.0
all_contains P (y ∷ ys) (suc k) x all below is = all_contains P ys k x all.1 (omega (arith, below)) is

-- a level has at most 7 correction units
pub few_more : (level : Level) → IsLevel level → level.m ≤ 7
few_more level is =
    all_contains (λ (l : Level). l.m ≤ 7) (map (λ (named : Level × List ℕ). named.0) named_levels) is.0 level
    (lit≤ tt, (lit≤ tt, (lit≤ tt, (lit≤ tt, (lit≤ tt, (lit≤ tt, (lit≤ tt, (lit≤ tt, (lit≤ tt, (lit≤ tt, (lit≤ tt, (lit≤ tt, (lit≤ tt, (lit≤ tt, (lit≤ tt, (lit≤ tt, tt)))))))))))))))) is.1 is.2

-- the inode of a file without bytes can be spelled, in 18 bytes
pub empty_inode-is : (level : Level) (shape : Shape) → IsLevel level → IsShape shape → IsInode (empty_inode level shape.unit)
empty_inode-is level shape is of = record {
  level = is;
  least_unit = of.least_unit;
  most_unit = of.most_unit;
  size = lit≤ tt;
  count = lit≤ tt;
  groups = tt;
  generations = tt;
  sum = let least = of.least_unit in sym (div-eq_of_lt (omega (arith, least)));
}

pub empty_inode-length : (level : Level) (unit : ℕ) → length (inode_bytes (empty_inode level unit)) ≤ 262144
unfolding inode_bytes
empty_inode-length level unit = lit≤ tt

-- an inode at a level has at most 8 units
pub few_units : (g : Group) (level : Level) → InodeAt g level → IsLevel level → length g.places ≤ 8
few_units g level at is =
    let whole = at.at_level.whole in
    let one = at.one in
    let more = at.at_level.corrected in
    let few = few_more level is in
    omega (arith, whole, one, more, few)

pub new_within : (now : Moment) (l : Layout) (places : List Place) → AllByRecursion (IsNewPlace now l) places → AllByRecursion (IsPlaceOf now.shape) places
new_within now l [] all = tt
new_within now l (s ∷ ss) all = (record { drive = all.0.drive; slot = all.0.slot }, new_within now l ss all.1)

pub are_places : (shape : Shape) (places : List Place) → IsShape shape → AllByRecursion (IsPlaceOf shape) places → AllByRecursion IsPlace places
are_places shape [] of all = tt
are_places shape (s ∷ ss) of all = (IsPlace-of shape s of all.0, are_places shape ss of all.1)

some_none : (g : Group) → is_there (Some g) ≡ false → ⊥
some_none g h = false≢true (sym h)

none_there : (o : Option Group) → is_there o ≡ false → o ≡ None
none_there None h = refl
none_there (Some g) h = absurd (some_none g h)

no_groups : (groups : List StoredGroup) → length groups ≡ 0 → groups ≡ []
no_groups [] none = refl
no_groups (g ∷ gs) none = absurd (omega (arith, none))

-- an absent file keeps no group
pub absent_empty : (shape : Shape) (l : Layout) (bytes : List ℕ) (groups inode : List StoredGroup) → KeepsSlots shape l bytes groups inode → IsRooted l
    → l.present ≡ false → groups ≡ []
absent_empty shape l bytes groups inode kept rooted absent =
    let none = (rooted (none_there l.inode (sym kept.there ∙ absent))).0 in
    no_groups groups (sym (length-map groups (λ (g : StoredGroup). g.group)) ∙ ap (λ (gs : List Group). length gs) (kept.mapped ∙ none))

-- an absent file has no group and no inode
pub absent_all : (shape : Shape) (l : Layout) (bytes : List ℕ) (groups inode : List StoredGroup) → KeepsSlots shape l bytes groups inode → IsRooted l
    → l.present ≡ false → all_groups l ≡ []
absent_all shape l bytes groups inode kept rooted absent =
    let none = none_there l.inode (sym kept.there ∙ absent) in
    let empty = (rooted none).0 in λ i. empty i ++ group_list (none i)

pub KeepsSlots-created : (shape : Shape) (declared : Level) (l : Layout) (old payload : List ℕ) (g : Group) (new : StoredGroup)
    → new.group ≡ g → new.places ≡ g.places → length g.places ≤ 255 → AreDistinct g.places → AllByRecursion (IsPlaceOf shape) g.places
    → SpellIn (empty_inode declared shape.unit) new.contents
    → AllByRecursion (λ (n : ℕ). n ≡ length (inode_bytes (empty_inode declared shape.unit))) new.lengths
    → KeepsSlots shape (layout_after_event declared (Created g) l) (bytes_after_event (Created g) payload old) [] (new ∷ [])
KeepsSlots-created shape declared l old payload g new group places few distinct within spelled lengths = record {
  mapped = refl;
  root = ap (λ (x : Group). x ∷ []) group;
  there = refl;
  stands = tt;
  root_stands = (
    record {
      places = places ∙ sym (ap (λ (x : Group). x.places) group);
      few = subst (λ (ss : List Place). length ss ≤ 255) (sym places) few;
    },
    tt,
  );
  sized = tt;
  root_sized = (lengths, tt);
  distinct = subst AreDistinct (sym (append-nil g.places)) distinct;
  within = subst (AllByRecursion (IsPlaceOf shape)) (sym (append-nil g.places)) within;
  spelled = (spelled, tt);
  used = tt;
  size = refl;
  zeros = 0;
  run = refl;
}

pub KeepsSlots-deleted : (shape : Shape) (declared : Level) (l : Layout) (old payload : List ℕ)
    → KeepsSlots shape (layout_after_event declared Deleted l) (bytes_after_event Deleted payload old) [] []
KeepsSlots-deleted shape declared l old payload = record {
  mapped = refl;
  root = refl;
  there = refl;
  stands = tt;
  root_stands = tt;
  sized = tt;
  root_sized = tt;
  distinct = tt;
  within = tt;
  spelled = tt;
  used = tt;
  size = refl;
  zeros = 0;
  run = refl;
}

module _ {S : Type 0} (content : S → Content) (len_of : S → ℕ) where
  pub all_hold : (bytes : List ℕ) (slots : List S) → AllByRecursion (Took content len_of bytes) slots
      → AllByRecursion (λ (x : Content). Holds x bytes) (map content slots)
  all_hold bytes [] all = tt
  all_hold bytes (x ∷ xs) all = (all.0.held, all_hold bytes xs all.1)

  pub all_long : (bytes : List ℕ) (slots : List S) → AllByRecursion (Took content len_of bytes) slots
      → AllByRecursion (λ (n : ℕ). n ≡ length bytes) (map len_of slots)
  all_long bytes [] all = tt
  all_long bytes (x ∷ xs) all = (all.0.len, all_long bytes xs all.1)

-- what follows from a clause on an answer
pub if_ok_then : {T E : Type 0} (P Q : T → Type 0) (result : Result T E) → ((x : T) → P x → Q x) → IfOk result P → IfOk result Q
if_ok_then P Q (Ok x) follows holds = follows x holds
if_ok_then P Q (Err e) follows holds = holds
