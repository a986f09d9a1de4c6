-- What follows from each answer of a creation.
use Rattle.std.proofs.Common.{◌≡◌, ℕ, ◌+◌, true, false, List, [], ◌∷◌, ◌++◌, Option, Result, Ok, Err, OnOk, OnErr, IfErr, Some, None, append-nil, refl, sym, ap, subst, ◌∙◌, arith}
use Rattle.std.specs.List.{count_by}
use Rattle.std.proofs.lemmas.Bool.{both_ways}
use Rattle.board.specs.declared.board_view.View.{View}
use Rattle.domains.specs.Shape.{is_of}
use Rattle.domains.specs.declared.by.By.{By}
use Rattle.domains.specs.declared.group.Group.{Group}
use Rattle.flex_io.specs.declared.raw_place.RawPlace.{RawPlace}
use Rattle.held_slots.specs.Slots.{count_on}
use Rattle.fabric.specs.Accounts.{Holds}
use Rattle.fabric.specs.Cells.{FabricView}
use Rattle.fabric.specs.declared.hand.Hand.{Hand}
use Rattle.file_history.specs.Layout.{all_groups, group_list}
use Rattle.file_history.proofs.RootedLayouts.{layout_rooted}
use Rattle.file_history.specs.declared.entry.FileEvent.TheVariants.{Created, Refused as RefusedOf}
use Rattle.file_history.specs.declared.entry.Refused.{Refused as Refusal}
use Rattle.file_history.specs.declared.entry.Refused.TheVariants.{CreateExists, CreateNoRoom, CreateTooFew}
use Rattle.file_core.specs.Accounts.{units_at}
use Rattle.file_core.specs.Creation.{created_on, inode_group}
use Rattle.file_heads.specs.Heads.{is_there}
use Rattle.file_core.specs.FileView.{FileView, IsFile, layout_of, log_of}
use Rattle.file_core.specs.Notes.{noted}
use Rattle.placement_order.specs.Order.{DrawRequest}
use Rattle.placement.specs.PlacedGroups.{FindsNoPlace, Places}
use Rattle.placement.specs.declared.refusal.NoRoom.{NoRoom}
use Rattle.slot_search.specs.HandSeats.{drives_at}
use Rattle.turn_cell.specs.Seats.{seat_view}
use Rattle.file_turns.specs.FileTurns.{ChangesFile}
use Rattle.file_turns.specs.NewInodes.{AsksForInode}
use Rattle.file_turns.specs.PathRoom.{with_room}
use Rattle.file_turns.specs.PathAccounts.{KeepsAccount, on_drive}
use Rattle.write_path.specs.Creations.{CreateTells, CreatesFile, NotesNoRoom, units_of_inode, FindsNoRoom, MayCreate, PlaceTells, PlacesInode, PlacesNoInode, UnlessOutOfMemory}
use Rattle.file_turns.specs.Paths.{Begins, IsRefused}
use Rattle.write_path.specs.declared.creation.CreateRefusal.{CreateRefusal}
use Rattle.write_path.specs.declared.creation.CreateRefusal.TheVariants.{Exists, TooFew as TooFewOf, NoRoom as NoRoomOf, LogFull, NoMemory}
use Rattle.file_turns.proofs.FileTurnLemmas.{NotesOne, changes_none, changes_one, notes_one}
use Rattle.file_turns.proofs.PathAccountLemmas.{account_noted, holds_looked}
use Rattle.write_path.proofs.ReleasedAccounts.{count_places}
use Rattle.write_path.proofs.RemovalLemmas.{full_account, refused_account, refused_one}

-- the answer of a refusal
abbrev pub failed : (T : Type 0) → CreateRefusal → Result T CreateRefusal
failed T e = Err e

none_there : (inode : Option Group) → is_there inode ≡ false → inode ≡ None
none_there None absent = refl
none_there (Some g) absent = absurd (both_ways true absent refl)

module _ {S : Type 0} (place_of : S → RawPlace) (content : S → Option (List ℕ)) (len_of : S → ℕ) where
  -- an absent file has no group
  pub absent_none : (x : FileView S) → IsFile place_of content len_of x → (layout_of x).present ≡ false → all_groups (layout_of x) ≡ []
  absent_none x is absent =
      let none : (layout_of x).inode ≡ None = none_there (layout_of x).inode (sym is.slots.there ∙ absent) in
      let groups : (layout_of x).groups ≡ [] = (layout_rooted x.level (log_of x) none).0 in
      λ i. groups i ++ group_list (none i)

module _ {S : Type 0} (place_of : S → RawPlace) (content : S → Option (List ℕ)) (len_of faults : S → ℕ) where
  pub created_one : (by : By) (view : View) (x y : FileView S) (looked new : Hand S) (made : PlacesInode place_of content len_of faults by view x y looked new)
      → NotesOne (noted by view (Created (inode_group place_of (layout_of x) made.slots)) []) x y
  created_one by view x y looked new made =
      notes_one (noted by view (Created (inode_group place_of (layout_of x) made.slots)) []) made.spare x.groups
      (Some (record { group = inode_group place_of (layout_of x) made.slots; slots = made.slots })) x y made.created

  -- the inode's slots are of the hand's account before, and of the file's after
  created_account : (f : FabricView) (by : By) (x y : FileView S) (old new : Hand S) → x.shape ≡ f.shape → IsFile place_of content len_of x
      → CreatesFile place_of content len_of faults f by x y old new → KeepsAccount f.shape x.seat x y old new
  created_account f by x y old new shape is creates = record {
    each = λ d many of account.
        let made = creates.inode in
        let group = inode_group place_of (layout_of x) made.slots in
        let same : made.request.shape ≡ f.shape = made.asks.shape ∙ shape in
        let none : units_at (on_drive d) (all_groups (layout_of x)) ≡ 0 = ap (units_at (on_drive d)) (absent_none place_of content len_of x is creates.may.absent) in
        let placed : units_at (on_drive d) (group ∷ []) ≡ count_on place_of d made.slots =
        ap (count_by (on_drive d)) (append-nil group.places) ∙ count_places place_of d made.slots in
        account_noted f.shape d many (noted by creates.view (Created group) []) x y old new (count_on place_of d made.slots) 0
        (created_one by creates.view x y creates.looked new made)
        (λ held holds.
        subst (λ c. Holds c d (held + count_on place_of d made.slots) new) same
        (made.placed.account d held (subst (λ c. is_of c d ≡ true) (sym same) of)
        (subst (λ c. Holds c d held creates.looked) (sym same)
        (holds_looked f _ creates.view f.shape d held old creates.looked creates.may.begins.sees
        (subst (λ n. Holds f.shape d n old) (let sum : held + 0 ≡ held = omega arith in sum) holds)))))
        (omega (arith, none, placed)) account;
  }

  -- no slot stayed with the hand, if the inode found no place
  no_room_account : (f : FabricView) (by : By) (told : NoRoom) (x y : FileView S) (old new : Hand S) → x.shape ≡ f.shape
      → FindsNoRoom place_of content len_of faults f by told x y old new → KeepsAccount f.shape x.seat x y old new
  no_room_account f by told x y old new shape finds = record {
    each = λ d many of account.
        let none = finds.none in
        let same : none.request.shape ≡ f.shape = none.asks.shape ∙ shape in
        let why = CreateNoRoom told.need told.got (drives_at told.empty) in
        account_noted f.shape d many (noted by finds.view (RefusedOf why) []) x y old new 0 0 (refused_one by finds.view why x y none.refused)
        (λ held holds.
        subst (λ c. Holds c d (held + 0) new) same
        (none.found.same d (held + 0) (subst (λ c. is_of c d ≡ true) (sym same) of)
        (subst (λ c. Holds c d (held + 0) finds.looked) (sym same)
        (holds_looked f _ finds.view f.shape d (held + 0) old finds.looked finds.may.begins.sees holds))))
        refl account;
  }

  pub create_account : (f : FabricView) (by : By) (x y : FileView S) (old new : Hand S) → x.shape ≡ f.shape → IsFile place_of content len_of x
      → {T : Type 0} (result : Result T CreateRefusal) → CreateTells place_of content len_of faults result f by x y old new
      → UnlessOutOfMemory result (KeepsAccount f.shape x.seat x y old new)
  create_account f by x y old new shape is (Ok done) tells = created_account f by x y old new shape is tells
  create_account f by x y old new shape is (Err Exists) tells = refused_account f by tells.view CreateExists _ f.shape x y old new tells.begins.sees tells.refused
  create_account f by x y old new shape is (Err (TooFewOf fault)) tells =
      refused_account f by tells.view (CreateTooFew fault) _ f.shape x y old new tells.begins.sees tells.refused
  create_account f by x y old new shape is (Err (NoRoomOf told)) tells = no_room_account f by told x y old new shape tells
  create_account f by x y old new shape is (Err LogFull) tells = full_account f.shape x y old new tells
  create_account f by x y old new shape is (Err NoMemory) tells = tt

  pub create_changes : (f : FabricView) (by : By) (x y : FileView S) (old new : Hand S) → {T : Type 0} (result : Result T CreateRefusal)
      → CreateTells place_of content len_of faults result f by x y old new → ChangesFile x.seat x y
  create_changes f by x y old new (Ok done) tells = changes_one _ x y (created_one by tells.view x y tells.looked new tells.inode)
  create_changes f by x y old new (Err Exists) tells = changes_one _ x y (refused_one by tells.view CreateExists x y tells.refused)
  create_changes f by x y old new (Err (TooFewOf fault)) tells = changes_one _ x y (refused_one by tells.view (CreateTooFew fault) x y tells.refused)
  create_changes f by x y old new (Err (NoRoomOf told)) tells =
      changes_one _ x y (refused_one by tells.view (CreateNoRoom told.need told.got (drives_at told.empty)) x y tells.none.refused)
  create_changes f by x y old new (Err LogFull) tells = changes_none x y tells.file
  create_changes f by x y old new (Err NoMemory) tells = changes_none x y tells.file

  begins_old : (f : FabricView) (x : FileView S) (spare : ℕ) (view : View) (old new : Hand S) → Begins f (with_room spare x) view old new → Begins f x view old new
  begins_old f x spare view old new is = record { room = is.room; sees = is.sees }

  may_old : (f : FabricView) (x : FileView S) (spare : ℕ) (view : View) (old looked : Hand S) → MayCreate f (with_room spare x) view old looked → MayCreate f x view old looked
  may_old f x spare view old looked is = record { begins = begins_old f x spare view old looked is.begins; absent = is.absent; enough = is.enough }

  asks_old : (x : FileView S) (spare : ℕ) (view : View) (s : DrawRequest) → AsksForInode (with_room spare x) view s → AsksForInode x view s
  asks_old x spare view s is = record { level = is.level; shape = is.shape; usable = is.usable; used = is.used; spin = is.spin }

  refused_old : (by : By) (view : View) (why : Refusal) (x y : FileView S) (spare : ℕ) → IsRefused by view why (with_room spare x) y → IsRefused by view why x y
  refused_old by view why x y spare is = record { spare = is.spare; noted = is.noted }

  -- the memory that was reserved before is no part of what the answer tells
  pub create_tells_of_old : (f : FabricView) (by : By) (x y : FileView S) (old new : Hand S) (spare : ℕ) → {T : Type 0} (result : Result T CreateRefusal)
      → CreateTells place_of content len_of faults result f by (with_room spare x) y old new → CreateTells place_of content len_of faults result f by x y old new
  create_tells_of_old f by x y old new spare (Ok done) tells = record {
    view = tells.view;
    looked = tells.looked;
    may = may_old f x spare tells.view old tells.looked tells.may;
    inode = record {
      request = tells.inode.request;
      asks = asks_old x spare tells.view tells.inode.request tells.inode.asks;
      slots = tells.inode.slots;
      placed = tells.inode.placed;
      board = tells.inode.board;
      spare = tells.inode.spare;
      created = tells.inode.created;
    };
  }
  create_tells_of_old f by x y old new spare (Err Exists) tells = record {
    view = tells.view;
    begins = begins_old f x spare tells.view old new tells.begins;
    present = tells.present;
    refused = refused_old by tells.view CreateExists x y spare tells.refused;
  }
  create_tells_of_old f by x y old new spare (Err (TooFewOf fault)) tells = record {
    view = tells.view;
    begins = begins_old f x spare tells.view old new tells.begins;
    absent = tells.absent;
    few = tells.few;
    refused = refused_old by tells.view (CreateTooFew fault) x y spare tells.refused;
  }
  create_tells_of_old f by x y old new spare (Err (NoRoomOf told)) tells = record {
    view = tells.view;
    looked = tells.looked;
    may = may_old f x spare tells.view old tells.looked tells.may;
    none = record {
      request = tells.none.request;
      asks = asks_old x spare tells.view tells.none.request tells.none.asks;
      found = tells.none.found;
      board = tells.none.board;
      refused = refused_old by tells.view (CreateNoRoom told.need told.got (drives_at told.empty)) x y spare tells.none.refused;
    };
  }
  create_tells_of_old f by x y old new spare (Err LogFull) tells = record { full = tells.full; file = tells.file; hand = tells.hand }
  create_tells_of_old f by x y old new spare (Err NoMemory) tells = record { room = tells.room; file = tells.file }

  -- what placement of the inode tells is what the whole creation tells
  pub tells_placed : (f : FabricView) (by : By) (view : View) (x y : FileView S) (old looked new : Hand S) → MayCreate f x view old looked
      → {T : Type 0} (result : Result T CreateRefusal) → PlaceTells place_of content len_of faults result by view x y looked new
      → CreateTells place_of content len_of faults result f by x y old new
  tells_placed f by view x y old looked new may (Ok done) tells = record { view = view; looked = looked; may = may; inode = tells }
  tells_placed f by view x y old looked new may (Err Exists) tells = absurd tells
  tells_placed f by view x y old looked new may (Err (TooFewOf fault)) tells = absurd tells
  tells_placed f by view x y old looked new may (Err (NoRoomOf told)) tells = record { view = view; looked = looked; may = may; none = tells }
  tells_placed f by view x y old looked new may (Err LogFull) tells = absurd tells
  tells_placed f by view x y old looked new may (Err NoMemory) tells = record { room = may.begins.room; file = tells }

  room_same : (x y : FileView S) → y ≡ x → y ≡ with_room y.spare x
  room_same x y same = same ∙ ap (λ (n : ℕ). with_room n x) (sym (ap (λ (f : FileView S). f.spare) same))

  -- the inode is placed, and its slots are the file's, or went back
  pub tells_switched : (by : By) (view : View) (x y : FileView S) (looked placed new : Hand S) (s : DrawRequest) (slots : List S) → AsksForInode x view s
      → Places place_of content len_of faults s (units_of_inode x) slots looked placed → seat_view placed.board ≡ seat_view looked.board
      → {T : Type 0} (result : Result T CreateRefusal) → OnOk result (y ≡ created_on place_of by view slots x) → OnOk result (new ≡ placed) → OnErr result (y ≡ x) → IfErr result (λ e. e ≡ NoMemory)
      → PlaceTells place_of content len_of faults result by view x y looked new
  tells_switched by view x y looked placed new s slots asks found board (Ok done) created taken kept memory = record {
    request = s;
    asks = asks;
    slots = slots;
    placed = subst (Places place_of content len_of faults s (units_of_inode x) slots looked) (sym taken) found;
    board = ap (λ (hand : Hand S). seat_view hand.board) taken ∙ board;
    spare = x.spare;
    created = created;
  }
  tells_switched by view x y looked placed new s slots asks found board {T} (Err e) created taken kept memory =
      subst (λ (e : CreateRefusal). PlaceTells place_of content len_of faults (failed T e) by view x y looked new) (sym memory) (room_same x y kept)

  -- the inode finds no place, and the refusal is noted
  pub tells_noted : (by : By) (view : View) (told : NoRoom) (x y : FileView S) (looked new : Hand S) (s : DrawRequest) → AsksForInode x view s
      → FindsNoPlace place_of content len_of faults s (units_of_inode x) told looked new → seat_view new.board ≡ seat_view looked.board → (T : Type 0) (e : CreateRefusal)
      → NotesNoRoom e by view told x y → PlaceTells place_of content len_of faults (failed T e) by view x y looked new
  tells_noted by view told x y looked new s asks found board T Exists notes = absurd notes
  tells_noted by view told x y looked new s asks found board T (TooFewOf fault) notes = absurd notes
  tells_noted by view told x y looked new s asks found board T (NoRoomOf answered) notes =
      subst (λ (n : NoRoom). PlacesNoInode place_of content len_of faults by view n x y looked new) (sym notes.0)
      (record { request = s; asks = asks; found = found; board = board; refused = notes.1 })
  tells_noted by view told x y looked new s asks found board T LogFull notes = absurd notes
  tells_noted by view told x y looked new s asks found board T NoMemory notes = room_same x y notes

-- what follows from a fact follows, unless memory ran out
pub unless_out_weaker : {T A B : Type 0} (result : Result T CreateRefusal) → (A → B) → UnlessOutOfMemory result A → UnlessOutOfMemory result B
unless_out_weaker (Ok done) follows holds = follows holds
unless_out_weaker (Err Exists) follows holds = follows holds
unless_out_weaker (Err (TooFewOf fault)) follows holds = follows holds
unless_out_weaker (Err (NoRoomOf told)) follows holds = follows holds
unless_out_weaker (Err LogFull) follows holds = follows holds
unless_out_weaker (Err NoMemory) follows holds = tt
