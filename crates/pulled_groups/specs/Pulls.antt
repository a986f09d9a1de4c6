-- What a pull does to the slots, and what it has at hand.
use Rattle.std.specs.Prelude.{◌≡◌, ℕ, ◌+◌, ◌^◌, ◌%◌, ◌≤◌, Bool, true, false, if◌then◌else◌, List, [], ◌∷◌, ◌++◌, length, Option, Some, None}
use Rattle.flex_io.specs.Slots.{Holds}
use Rattle.flex_io.specs.declared.raw_place.RawPlace.{RawPlace}
use Rattle.std.specs.List.{AllByRecursion}
use Rattle.board.specs.declared.board_view.View.{View}
use Rattle.domains.specs.Shape.{Shape}
use Rattle.rs_codes.specs.Units.{HeldUnits}
use Rattle.file_history.specs.Layout.{Unit_}
use Rattle.file_history.specs.Live.{Part}
use Rattle.file_heads.specs.Parts.{first_live, is_asked, is_last, live_at, needs}
use Rattle.pulled_groups.specs.declared.pull_groups.PulledGroup.{PulledGroup}
use Rattle.striped_groups.specs.StoredGroups.{GroupSlots}

-- the length of the first slot, 0 if there is none
abbrev pub first_len : {S : Type 0} → (S → ℕ) → List S → ℕ
first_len len_of [] = 0
first_len len_of (x ∷ xs) = len_of x

module _ {S : Type 0} (place_of : S → RawPlace) (content : S → Option (List ℕ)) (len_of reads : S → ℕ) where
  -- the slot, after one read that was Ok
  pub record WasRead (old new : S) : Type 0 where
    pub place : place_of new ≡ place_of old
    pub content_is : content new ≡ content old
    pub len : len_of new ≡ len_of old
    pub reads_are : reads new ≡ (reads old + 1) % 2 ^ 64

  -- where the flag is set the slot was read once, and its unit is at hand at this position; else nothing was done
  abbrev pub IsRead : Bool → ℕ → S → S → HeldUnits → HeldUnits → Type 0
  IsRead true position old new was now =
      WasRead old new × (unit : List ℕ) × Holds (content old) unit
      × (now ≡ record { unit_length = was.unit_length; positions = was.positions ++ position ∷ []; units = was.units ++ unit ∷ [] })
  IsRead false position old new was now = (new ≡ old) × (now ≡ was)

  -- the same of slots, one after the other, from this position on
  abbrev pub AreRead : List Bool → List S → List S → ℕ → HeldUnits → HeldUnits → Type 0
  AreRead [] [] [] position was now = now ≡ was
  AreRead [] [] (y ∷ ys) position was now = ⊥
  AreRead [] (x ∷ xs) ys position was now = ⊥
  AreRead (f ∷ fs) [] ys position was now = ⊥
  AreRead (f ∷ fs) (x ∷ xs) [] position was now = ⊥
  AreRead (f ∷ fs) (x ∷ xs) (y ∷ ys) position was now =
      (mid : HeldUnits) × IsRead f position x y was mid × AreRead fs xs ys (position + 1) mid now

  -- the group, whose units have this length, was pulled at a view, beside these dead units: its first n live units were read, and
  -- are at hand
  pub record IsPulled (shape : Shape) (view : View) (dead : List Unit_) (start len : ℕ) (old new : GroupSlots S) (p : PulledGroup) : Type 0 where
    pub group : p.group ≡ old.group
    pub start_is : p.start ≡ start
    pub slots : new.group ≡ old.group
    pub read : AreRead (first_live old.group.places old.group.n 0 (live_at shape view dead old.group.generation)) old.slots new.slots 0
        (record { unit_length = len; positions = []; units = [] }) p.have

  -- a group that is needed was pulled, and is last of those pulled; another is as it was
  abbrev pub IsPulledIf : Bool → Shape → View → List Unit_ → ℕ → GroupSlots S → GroupSlots S → List PulledGroup → List PulledGroup → Type 0
  IsPulledIf true shape view dead start old new was done =
      (p : PulledGroup) × IsPulled shape view dead start shape.unit old new p × (done ≡ was ++ p ∷ [])
  IsPulledIf false shape view dead start old new was done = (new ≡ old) × (done ≡ was)

  -- the same of the groups of a file of this size, the first of whose data units is this one
  abbrev pub ArePulled : List (GroupSlots S) → List (GroupSlots S) → ℕ → Shape → View → List Unit_ → ℕ → Part → List PulledGroup → List PulledGroup → Type 0
  ArePulled [] [] start shape view dead size part was done = done ≡ was
  ArePulled [] (y ∷ ys) start shape view dead size part was done = ⊥
  ArePulled (x ∷ xs) [] start shape view dead size part was done = ⊥
  ArePulled (x ∷ xs) (y ∷ ys) start shape view dead size part was done =
      (mid : List PulledGroup) × IsPulledIf (needs shape.unit size part start x.group (is_last xs)) shape view dead start x y was mid
      × ArePulled xs ys (start + x.group.n) shape view dead size part mid done

  -- the inode was pulled, and is the first group at hand if the part asks for its generation
  abbrev pub IsRootPulled : Option (GroupSlots S) → Option (GroupSlots S) → Shape → View → List Unit_ → Part → List PulledGroup → Type 0
  IsRootPulled None new shape view dead part begun = ⊥
  IsRootPulled (Some old) None shape view dead part begun = ⊥
  IsRootPulled (Some old) (Some new) shape view dead part begun =
      (p : PulledGroup) × IsPulled shape view dead 0 (first_len len_of old.slots) old new p
      × (begun ≡ (if is_asked part old.group then p ∷ [] else []))

  -- the inode was pulled, and each group that the part needs. At hand are, in map order, those groups, or the inode's
  pub record AreAllPulled (shape : Shape) (view : View) (dead : List Unit_) (size : ℕ) (part : Part) (old_root new_root : Option (GroupSlots S))
      (old new : List (GroupSlots S)) (groups : List PulledGroup) : Type 0 where
    pub begun : List PulledGroup
    pub root : IsRootPulled old_root new_root shape view dead part begun
    pub map : ArePulled old new 0 shape view dead size part begun groups

module _ {S : Type 0} (len_of : S → ℕ) where
  -- the slots of a group are as many as its places, few enough for their positions, and of the length of a unit
  pub record MayPull (unit : ℕ) (g : GroupSlots S) : Type 0 where
    pub few : length g.group.places ≤ 255
    pub whole : length g.slots ≡ length g.group.places
    pub lengths : AllByRecursion (λ (x : S). len_of x ≡ unit) g.slots

  -- the same of an inode, whose units have a length of their own
  abbrev pub MayPullRoot : GroupSlots S → Type 0
  MayPullRoot g = MayPull (first_len len_of g.slots) g
