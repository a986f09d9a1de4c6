-- The drives that an inode may be placed on, and the room that they have.
use Rattle.std.proofs.Common.{◌≡◌, ℕ, ◌+◌, ◌≤◌, ◌<◌, inl, inr, Bool, true, false, ◌&&◌, ◌||◌, not, List, [], ◌∷◌, Option, refl, sym, ap, subst, ◌∙◌, arith}
use Rattle.std.specs.List.{AllByRecursion}
use Rattle.std.proofs.lemmas.Bool.{cases_lt}
use Rattle.std.proofs.lemmas.List.{length-replicate}
use Rattle.domains.specs.Drive.{Drive, IsDrive, is_in}
use Rattle.domains.specs.DriveSet.{has}
use Rattle.domains.specs.Level.{Level}
use Rattle.domains.specs.Room.{room_of}
use Rattle.domains.specs.Shape.{Shape, IsShape, is_of}
use Rattle.domains.specs.declared.drive_set.DriveSet.{DriveSet}
use Rattle.domains.specs.declared.room.TooFew.{TooFew}
use Rattle.domains.proofs.DriveLemmas.{is_in-first, is_in-rest}
use Rattle.domains.proofs.ShapeLemmas.{IsDrive-of}
use Rattle.board.specs.declared.board_view.View.{View}
use Rattle.flex_io.specs.declared.raw_place.RawPlace.{RawPlace}
use Rattle.fabric.specs.declared.hand.Hand.{Hand}
use Rattle.inode_codec.specs.Inode.{inode_bytes}
use Rattle.placement_order.specs.Order.{DrawRequest}
use Rattle.placement_order.proofs.RoomFilled.{new-groups, spent-drives}
use Rattle.file_history.specs.Refusals.{HasTooFew, IsLegalRefusal, is_usable, room_at}
use Rattle.file_history.specs.declared.entry.Refused.TheVariants.{CreateNoRoom}
use Rattle.file_core.specs.Creation.{empty_inode}
use Rattle.file_core.specs.FileView.{FileView, layout_of, now_of}
use Rattle.file_core.specs.Looks.{IsLook}
use Rattle.file_core.specs.declared.looks.Look.{Look}
use Rattle.placement.specs.PlacedGroups.{FindsNoPlace, drives_in, spent_by}
use Rattle.placement.specs.declared.refusal.NoRoom.{NoRoom}
use Rattle.slot_search.specs.HandSeats.{draw_request, drives_at}
use Rattle.file_turns.specs.NewInodes.{AsksForInode}
use Rattle.file_turns.proofs.FileRoom.{room-agree, room_is, usable_is}
use Rattle.write_path.specs.Creations.{units_of_inode}

twice : (u b : Bool) → (u && b) && u ≡ u && b
twice true true = refl
twice true false = refl
twice false b = refl

-- what placement is asked for the inode
pub asks_for_inode : {S : Type 0} (x : FileView S) (view : View) (look : Look) (count : ℕ) (usable none : DriveSet) (spin : ℕ) → IsShape x.shape
    → IsLook (layout_of x) count look
    → ((d : Drive) → IsDrive d → has usable d ≡ (has view.up d && not (has look.barred d))) → ((d : Drive) → has none d ≡ false)
    → spin ≡ x.file + look.next_generation
    → (shape : Shape) → shape ≡ x.shape → AsksForInode x view (draw_request look.level shape view usable none spin)
asks_for_inode x view look count usable none spin cluster looks made empty is shape same = record {
  level = looks.level;
  shape = same;
  usable = λ d of.
      let drive = IsDrive-of x.shape d cluster of in
      ap (λ b. b && has view.up d) (made d drive) ∙ twice (has view.up d) (not (has look.barred d)) ∙ sym (made d drive)
      ∙ usable_is x view look count usable cluster looks made d of;
  used = empty;
  spin = is ∙ ap (λ n. x.file + n) looks.next;
}

-- the room of the usable drives, as `width` finds it
pub room_found : {S : Type 0} (x : FileView S) (view : View) (look : Look) (count : ℕ) (usable : DriveSet) → IsShape x.shape → IsLook (layout_of x) count look
    → ((d : Drive) → IsDrive d → has usable d ≡ (has view.up d && not (has look.barred d)))
    → (shape : Shape) → shape ≡ x.shape → room_of look.level shape (has usable) ≡ room_at (now_of x view) (layout_of x)
room_found x view look count usable cluster looks made shape same =
    (λ i. room_of (looks.level i) (same i) (has usable)) ∙ room_is x view (has usable) (usable_is x view look count usable cluster looks made)

-- they have no room for a group at the requested level
pub too_few : {S : Type 0} (x : FileView S) (view : View) (look : Look) (count : ℕ) (usable : DriveSet) → IsShape x.shape → IsLook (layout_of x) count look
    → ((d : Drive) → IsDrive d → has usable d ≡ (has view.up d && not (has look.barred d)))
    → (shape : Shape) → shape ≡ x.shape → (fault : TooFew) → fault.have ≡ room_of look.level shape (has usable) → fault.need ≡ look.level.m + 1
    → (look.level.m + 1 ≤ room_of look.level shape (has usable) → ⊥) → HasTooFew (now_of x view) (layout_of x) fault
too_few x view look count usable cluster looks made shape same fault have need none =
    let found = room_found x view look count usable cluster looks made shape same in
    let level = ap (λ (l : Level). l.m) looks.level in record {
      have = have ∙ found;
      need = need ∙ ap (λ (m : ℕ). m + 1) level;
      short = below fault.have fault.need (λ enough. none (omega (arith, enough, have, need)));
    }
  where
    below : (have need : ℕ) → (need ≤ have → ⊥) → have < need
    below have need none = elim (cases_lt have need) [
      | inl short ↦ short
      | inr enough ↦ absurd (none enough)
    ]

-- they have the room
pub has_room : {S : Type 0} (x : FileView S) (view : View) (look : Look) (count : ℕ) (usable : DriveSet) → IsShape x.shape → IsLook (layout_of x) count look
    → ((d : Drive) → IsDrive d → has usable d ≡ (has view.up d && not (has look.barred d)))
    → (shape : Shape) → shape ≡ x.shape → look.level.m + 1 ≤ room_of look.level shape (has usable)
    → (layout_of x).requested.m + 1 ≤ room_at (now_of x view) (layout_of x)
has_room x view look count usable cluster looks made shape same enough =
    let found = room_found x view look count usable cluster looks made shape same in
    let level = ap (λ (l : Level). l.m) looks.level in
    omega (arith, enough, found, level)

all_usable : (P : Drive → Type 0) (ds : List Drive) → ((d : Drive) → is_in ds d ≡ true → P d) → AllByRecursion P ds
all_usable P [] each = tt
all_usable P (d ∷ ds) each = (each d (is_in-first d ds), all_usable P ds (λ e there. each e (is_in-rest d ds e there)))

or_right : (a b : Bool) → b ≡ true → (a || b) ≡ true
or_right true b is = refl
or_right false b is = is

module _ {S : Type 0} (place_of : S → RawPlace) (content : S → Option (List ℕ)) (len_of faults : S → ℕ) where
  -- an inode that finds no place is refused for want of room
  pub no_room_is_legal : (x : FileView S) (view : View) (s : DrawRequest) (told : NoRoom) (old new : Hand S) → AsksForInode x view s
      → FindsNoPlace place_of content len_of faults s (units_of_inode x) told old new → (layout_of x).present ≡ false
      → (layout_of x).requested.m + 1 ≤ room_at (now_of x view) (layout_of x)
      → IsLegalRefusal (now_of x view) (layout_of x) (CreateNoRoom told.need told.got (drives_at told.empty))
  no_room_is_legal x view s told old new asks found absent enough =
      let l = layout_of x in
      let now = now_of x view in
      let drives = drives_at told.empty in
      let many = length-replicate (l.requested.m + 1) (inode_bytes (empty_inode x.level x.shape.unit)) in
      let tried = found.tried.empty_tried in
      let of_shape : (d : Drive) → is_in drives d ≡ true → is_of x.shape d ≡ true = λ d there. subst (λ c. is_of c d ≡ true) asks.shape (tried.of_shape d there) in
      let less = spent-drives s (is_in drives) (spent_by told.failed told.empty) (λ d there. or_right (is_in (drives_in told.failed) d) (is_in drives d) there) in
      let left = new-groups s (is_in drives) asks.used in
      let moved : room_of s.level s.shape (λ d. s.usable d && not (is_in drives d)) ≡ room_of l.requested x.shape (λ d. s.usable d && not (is_in drives d)) =
      λ i. room_of (asks.level i) (asks.shape i) (λ d. s.usable d && not (is_in drives d)) in
      let room = room-agree x.shape.nodes l.requested x.shape (λ d. s.usable d && not (is_in drives d)) (λ d. is_usable now l d && not (is_in drives d)) (omega arith)
      (λ d of. ap (λ b. b && not (is_in drives d)) (asks.usable d of)) in
      let got = found.got in
      let short = found.short in
      let need = found.need in (
        absent,
        enough,
        need ∙ many,
        record {
          short = omega (arith, need, short);
          usable = all_usable (λ d. is_usable now l d ≡ true) drives (λ d there. sym (asks.usable d (of_shape d there)) ∙ tried.usable d there);
          apart = tried.apart;
          room = omega (arith, got, less, left, moved, room);
        },
      )
