-- A write that finds no room is refused with its cause.
use Rattle.std.proofs.Common.{◌≡◌, ℕ, zero, suc, ◌+◌, ◌*◌, ◌<◌, inl, inr, Bool, true, false, ◌&&◌, ◌||◌, not, List, [], ◌∷◌, Option, length, refl, sym, ap, subst, ◌∙◌, arith}
use Rattle.std.specs.List.{AllByRecursion, Contains}
use Rattle.domains.specs.Drive.{Drive, is_in}
use Rattle.domains.specs.Level.{Level}
use Rattle.domains.specs.Room.{room_of}
use Rattle.domains.specs.Shape.{Shape, is_of}
use Rattle.domains.proofs.DriveLemmas.{is_in-first, is_in-rest}
use Rattle.board.specs.declared.board_view.View.{View}
use Rattle.fabric.specs.declared.hand.Hand.{Hand}
use Rattle.file_core.specs.FileView.{FileView, layout_of, now_of}
use Rattle.file_history.specs.Live.{IsReadable, write}
use Rattle.file_history.specs.Refusals.{HasNoRoom, IsLegalRefusal, is_usable}
use Rattle.file_history.specs.declared.entry.Refused.TheVariants.{WriteNoRoom}
use Rattle.file_turns.proofs.FileRoom.{room-agree}
use Rattle.flex_io.specs.declared.raw_place.RawPlace.{RawPlace}
use Rattle.placed_runs.specs.PlacedRuns.{MeetsNoRoom}
use Rattle.placed_runs.specs.Terms.{IsAskedFor}
use Rattle.placed_runs.specs.declared.terms.RunTerms.{RunTerms}
use Rattle.placement.specs.PlacedGroups.{drives_in, spent_by}
use Rattle.placement.specs.declared.refusal.NoRoom.{NoRoom}
use Rattle.placement_order.specs.Order.{DrawRequest}
use Rattle.placement_order.specs.OrderLaws.{MayBeTried}
use Rattle.placement_order.specs.Room.{room_left}
use Rattle.placement_order.proofs.RoomFilled.{new-groups, spent-drives}
use Rattle.slot_search.specs.HandSeats.{drives_at}
use Rattle.write_plans.specs.Plans.{IsPlan}
use Rattle.write_plans.specs.declared.plan.WritePlan.{WritePlan}
use Rattle.file_writes.specs.WriteTerms.{AreExactTerms}

all_usable : (P : Drive → Type 0) (ds : List Drive) → ((d : Drive) → is_in ds d ≡ true → P d) → AllByRecursion P ds
all_usable P [] each = tt
all_usable P (d ∷ ds) each = (each d (is_in-first d ds), all_usable P ds (λ e there. each e (is_in-rest d ds e there)))

or_right : (a b : Bool) → b ≡ true → (a || b) ≡ true
or_right true b is = refl
or_right false b is = is

-- what one of the numbers is, is one of more
later : (n m : ℕ) (ns : List ℕ) → Contains (1 ∷ ns) m → Contains (1 ∷ n ∷ ns) m
later n m ns (zero, low, is) = (0, omega arith, is)
later n m ns (suc k, low, is) = (suc (suc k), (let more : suc k < length (1 ∷ ns) = low in omega (arith, more)), is)

module _ {S : Type 0} (x : FileView S) (view : View) (t : RunTerms) (exact : AreExactTerms x view t) where
  -- drives that were found empty, and the room that the others have
  has_no_room : (s : DrawRequest) (spin : ℕ) (empty : List Drive) (spent : Drive → Bool) (need got : ℕ) → IsAskedFor t x.shape spin s → MayBeTried s empty
      → ((d : Drive) → is_in empty d ≡ true → spent d ≡ true) → got ≡ room_left s spent → got < need → HasNoRoom (now_of x view) (layout_of x) need got empty
  has_no_room s spin empty spent need got asks tried among is short =
      let l = layout_of x in
      let now = now_of x view in
      let usable : (d : Drive) → is_of x.shape d ≡ true → s.usable d ≡ is_usable now l d = λ d of. asks.usable d ∙ exact.usable d of in
      let of_shape : (d : Drive) → is_in empty d ≡ true → is_of x.shape d ≡ true = λ d there. subst (λ (c : Shape). is_of c d ≡ true) asks.shape_is (tried.of_shape d there) in
      let less = spent-drives s (is_in empty) spent among in
      let left = new-groups s (is_in empty) asks.used in
      let level : s.level ≡ l.requested = asks.level ∙ exact.level in
      let moved : room_of s.level s.shape (λ d. s.usable d && not (is_in empty d)) ≡ room_of l.requested x.shape (λ d. s.usable d && not (is_in empty d)) =
      λ i. room_of (level i) (asks.shape_is i) (λ d. s.usable d && not (is_in empty d)) in
      let room = room-agree x.shape.nodes l.requested x.shape (λ d. s.usable d && not (is_in empty d)) (λ d. is_usable now l d && not (is_in empty d)) (omega arith)
      (λ d of. ap (λ (b : Bool). b && not (is_in empty d)) (usable d of)) in
      record {
        short = short;
        usable = all_usable (λ d. is_usable now l d ≡ true) empty (λ d there. sym (usable d (of_shape d there)) ∙ tried.usable d there);
        apart = tried.apart;
        room = omega (arith, is, less, left, moved, room);
      }

  module _ (place_of : S → RawPlace) (content : S → Option (List ℕ)) (len_of faults : S → ℕ) where
    -- the group that found no room, or the inode
    pub record MissesRoom (chunks : List ℕ) (told : NoRoom) : Type 0 where
      pub n : ℕ
      pub among : Contains (1 ∷ chunks) n
      pub need : told.need ≡ n + (layout_of x).requested.m
      pub room : HasNoRoom (now_of x view) (layout_of x) told.need told.got (drives_at told.empty)

    misses-room : (spin : ℕ) (bytes : List ℕ) (from : ℕ) (chunks : List ℕ) (told : NoRoom) (old new : Hand S)
        → MeetsNoRoom place_of content len_of faults t x.shape spin bytes from chunks told old new → MissesRoom chunks told
    misses-room spin bytes from [] told old new met =
        let found = met.found in
        let need = found.need in
        let level = ap (λ (v : Level). v.m) exact.level in
        let short = found.short in
        record {
          n = 1;
          among = (0, omega arith, refl);
          need = omega (arith, need, level);
          room = has_no_room met.request spin (drives_at told.empty) (is_in (drives_at told.empty)) told.need told.got met.asks found.tried (λ d there. there) found.got (omega (arith, need, short));
        }
    misses-room spin bytes from (n ∷ ns) told old new (inl met) =
        let found = met.found in
        let need = found.need in
        let many = met.coded.codeword.count in
        let level = ap (λ (v : Level). v.m) exact.level in
        let short = found.short in
        record {
          n = n;
          among = (1, omega arith, refl);
          need = omega (arith, need, many, level);
          room = has_no_room met.request spin (drives_at told.empty) (spent_by told.failed told.empty) told.need told.got met.asks found.tried.empty_tried
              (λ d there. or_right (is_in (drives_in told.failed) d) (is_in (drives_at told.empty) d) there) found.got (omega (arith, need, short));
        }
    misses-room spin bytes from (n ∷ ns) told old new (inr met) =
        let rest = misses-room (spin + 1) bytes (from + n * t.unit) ns told met.1 new met.3 in
        record { n = rest.n; among = later n rest.n ns rest.among; need = rest.need; room = rest.room }

    -- a write that finds no room is refused so
    pub no_room_is_legal : (spin offset len : ℕ) (bytes : List ℕ) (plan : WritePlan) (told : NoRoom) (old new : Hand S) → IsPlan (now_of x view) (layout_of x) offset len plan
        → IsReadable (now_of x view) (layout_of x) (write offset len plan.width) → MeetsNoRoom place_of content len_of faults t x.shape spin bytes 0 plan.chunks told old new
        → IsLegalRefusal (now_of x view) (layout_of x) (WriteNoRoom offset len told.need told.got (drives_at told.empty))
    no_room_is_legal spin offset len bytes plan told old new is readable met =
        let misses = misses-room spin bytes 0 plan.chunks told old new met in
        (is.present, plan.width, is.may, readable, (plan.chunks, is.chunks, misses.n, misses.among, misses.need), misses.room)
