-- What is true after each turn of a plain file.
use Rattle.std.proofs.Common.{◌≡◌, ◌≢◌, ℕ, ◌+◌, ◌<◌, ◌≤◌, Bool, true, false, ◌&&◌, cond, List, [], ◌∷◌, ◌++◌, length, All, Option, Some, None, IsSome, is_none, eqb, refl, sym, ap, subst, ◌∙◌, arith}
use Rattle.std.proofs.lemmas.List.Elements.{All-nil}
use Rattle.std.proofs.lemmas.Bool.{and_parts, eqb-true, ne_eqb, eq-eqb, and_left, ltb-true, true≢false, false≢true}
use Rattle.flex_io.specs.declared.raw_place.RawPlace.{RawPlace}
use Rattle.domains.specs.Drive.{Drive, same_drive}
use Rattle.domains.specs.Place.{Place, same_place, is_place_of}
use Rattle.domains.specs.Shape.{Shape, IsShape}
use Rattle.domains.specs.Level.{two_copies}
use Rattle.domains.specs.Room.{room_of}
use Rattle.domains.specs.AtLevel.{AtLevel}
use Rattle.domains.specs.declared.by.By.{By}
use Rattle.domains.specs.declared.room.TooFew.{TooFew}
use Rattle.board_history.specs.Board.{up_after}
use Rattle.board_history.specs.declared.entry.BoardEntry.{BoardEntry}
use Rattle.galois.specs.Field.{IsByte}
use Rattle.plain_file.specs.LastMoment.{last_moment}
use Rattle.file_history.specs.Bytes.{bytes_after}
use Rattle.file_history.specs.Layout.{Layout, layout_after, all_groups, is_taken}
use Rattle.file_history.specs.Refusals.{is_usable, room_at, HasTooFew, IsLegalRefusal}
use Rattle.file_history.specs.Step.{IsNewPlace, Creates}
use Rattle.domains.specs.Counts.{one_if}
use Rattle.held_slots.specs.Slots.{place_from, count_at}
use Rattle.plain_file.specs.Slots.{Tell}
use Rattle.plain_file.specs.Plain.{StockView, RefusesPlain, plain_payload}
use Rattle.plain_file.specs.Mirrors.{slots_of, mirror_of, IsMirror}
use Rattle.plain_file.specs.Draws.{Draws, SameFree, SameBeside}
use Rattle.plain_file.specs.FileParts.{is_present, layout_of, inode_text, HoldsFile, KeepsFile, Played, Moves}
use Rattle.file_history.specs.declared.entry.FileEvent.TheVariants.{Created, Refused}
use Rattle.file_history.specs.declared.entry.Refused.{Refused as Why}
use Rattle.file_history.specs.declared.entry.NotedEntry.{NotedEntry}
use Rattle.plain_file.specs.declared.op.PlainOp.{PlainOp}
use Rattle.plain_file.specs.declared.op.PlainOp.TheVariants as plain
use Rattle.plain_file.specs.declared.pair.Pair.{Pair}
use Rattle.plain_file.specs.declared.file_slots.FileSlots.{FileSlots}
use Rattle.plain_file.specs.declared.file_slots.FileSlots.TheVariants.{Absent, Empty, Written}
use Rattle.file_history.proofs.HistoryGrowth.{layout_from-push, bytes_from-push}
use Rattle.plain_file.proofs.MirrorRoom.{room_of_same}
use Rattle.plain_file.proofs.ReleasedSlots.{same_sorted, drawn_sorted}

pub and-true : (b : Bool) → b && true ≡ b
and-true true = refl
and-true false = refl

-- a file that is not present holds nothing
pub absent_of : {S : Type 0} (standing : FileSlots S) → is_present standing ≡ false → standing ≡ Absent
absent_of Absent h = refl
absent_of (Empty inode) h = absurd (true≢false h)
absent_of (Written size units inode) h = absurd (true≢false h)

none_if_told : (o : Option (List ℕ)) → IsSome o → one_if (is_none o) ≡ 0
none_if_told (Some bytes) h = refl
none_if_told None h = absurd (false≢true h)

told_if_none : (o : Option (List ℕ)) → one_if (is_none o) ≡ 0 → IsSome o
told_if_none (Some bytes) h = refl
told_if_none None h = absurd (omega (arith, h))

-- one drive has at most one of two slots on two nodes
pub apart_once : (d a b : Drive) → a.node ≢ b.node → one_if (same_drive d a) + one_if (same_drive d b) ≤ 1
apart_once d a b apart =
    elim (same_drive d a) as (λ x. same_drive d a ≡ x → one_if x + one_if (same_drive d b) ≤ 1) [
      | true ↦ λ on.
          let here : d.node ≡ a.node = eqb-true d.node a.node ((and_parts _ _ on).0) in
          let off : same_drive d b ≡ false = and_left _ _ (ne_eqb d.node b.node (λ h. apart (sym here ∙ h))) in
          let none : one_if (same_drive d b) ≡ 0 = ap one_if off in
          omega (arith, none)
      | false ↦ λ off. elim (same_drive d b) as (λ y. one_if false + one_if y ≤ 1) [ true ↦ omega arith | false ↦ omega arith ]
    ] refl

module _ {S : Type 0} (place_of : S → RawPlace) (content : S → Option (List ℕ)) where
  pub layout_present : (standing : FileSlots S) → (layout_of place_of standing).present ≡ is_present standing
  layout_present Absent = refl
  layout_present (Empty inode) = refl
  layout_present (Written size units inode) = refl

  -- how many of the two slots stand at a place for which the test passes
  pub count_pair : (p : Place → Bool) (pair : Pair S) → count_at place_of p (slots_of pair)
      ≡ one_if (p (place_from (place_of pair.first))) + one_if (p (place_from (place_of pair.second)))
  count_pair p pair = omega arith

  pub tell_pair : (pair : Pair S) → IsSome (content pair.first) → IsSome (content pair.second) → Tell content (slots_of pair)
  tell_pair pair one two =
      let first = none_if_told (content pair.first) one in
      let second = none_if_told (content pair.second) two in
      omega (arith, first, second)

  -- the room for a mirror is that of the drives that are up
  pub room_at_layout : (shape : Shape) (board : List BoardEntry) (standing : FileSlots S) → IsShape shape
      → room_at (last_moment shape board) (layout_of place_of standing) ≡ room_of two_copies shape (up_after shape board (length board))
  room_at_layout shape board Absent is = room_of_same two_copies shape _ _ is (λ d of_d. and-true (up_after shape board (length board) d))
  room_at_layout shape board (Empty inode) is = room_of_same two_copies shape _ _ is (λ d of_d. and-true (up_after shape board (length board) d))
  room_at_layout shape board (Written size units inode) is = room_of_same two_copies shape _ _ is (λ d of_d. and-true (up_after shape board (length board) d))

  -- a refusal leaves the file as it stands
  pub refused_inside : (shape : Shape) (log : List NotedEntry) (standing : FileSlots S) (t : NotedEntry) (why : Why) → t.entry.event ≡ Refused why
      → KeepsFile place_of content shape log standing → KeepsFile place_of content shape (log ++ t ∷ []) standing
  refused_inside shape log standing t why is inside =
      let same_layout : layout_after two_copies (log ++ t ∷ []) ≡ layout_after two_copies log =
      layout_from-push log t two_copies _ ∙ ap (λ e. Rattle.file_history.specs.Layout.layout_after_event two_copies e (layout_after two_copies log)) is in
      let same_bytes : bytes_after (log ++ t ∷ []) ≡ bytes_after log =
      bytes_from-push log t [] ∙ ap (λ e. Rattle.file_history.specs.Bytes.bytes_after_event e t.payload (bytes_after log)) is in
      record {
        layout = same_layout ∙ inside.layout;
        holds = subst (HoldsFile place_of content shape standing) (sym same_bytes) inside.holds;
        bytes = subst (All IsByte) (sym same_bytes) inside.bytes;
      }

  -- a refusal was played
  pub refused_played : (by : By) (o : PlainOp) (shape : Shape) (log later : List NotedEntry) (standing : FileSlots S) (stock : StockView S) (why : Why)
      → later ≡ log ++ record { entry = record { by = by; epoch = length stock.board; event = Refused why }; payload = plain_payload o } ∷ []
      → RefusesPlain o why → IsLegalRefusal (last_moment shape stock.board) (layout_of place_of standing) why
      → KeepsFile place_of content shape log standing
      → Played place_of content by o shape log later standing standing stock stock
  refused_played by o shape log later standing stock why grown answers cause inside =
      let t : NotedEntry = record { entry = record { by = by; epoch = length stock.board; event = Refused why }; payload = plain_payload o } in
      record {
        plays = record {
          event = Refused why;
          answers = answers;
          told = t;
          is_told = refl;
          log = grown;
          legal = subst (λ (l : Layout). IsLegalRefusal (last_moment shape stock.board) l why) (sym inside.layout) cause;
          shown = λ known. tt;
        };
        inside = subst (λ (l : List NotedEntry). KeepsFile place_of content shape l standing) (sym grown) (refused_inside shape log standing t why refl inside);
        tell = λ told. record { units = told.units; inode = told.inode; free = told.free; retired = told.retired };
        ordered = λ kept. record { free = kept.free; inode = kept.inode };
      }

  -- too few drives are up for a file that is not present, or is to be written
  pub too_few : (shape : Shape) (board : List BoardEntry) (standing : FileSlots S) (fault : TooFew) → IsShape shape
      → fault.have ≡ room_of two_copies shape (up_after shape board (length board)) → fault.need ≡ 2 → fault.have < 2
      → HasTooFew (last_moment shape board) (layout_of place_of standing) fault
  too_few shape board standing fault is have need short = record {
    have = have ∙ sym (room_at_layout shape board standing is);
    need = need ∙ two standing;
    short = omega (arith, need, short);
  }
    where
      two : (st : FileSlots S) → 2 ≡ (layout_of place_of st).requested.m + 1
      two Absent = refl
      two (Empty inode) = refl
      two (Written size units inode) = refl

  -- what stays where nothing moves
  pub nothing_moves : (o : PlainOp) (shape : Shape) (log later : List NotedEntry) (standing : FileSlots S) (stock rest : StockView S)
      → SameFree place_of stock rest → rest.shape ≡ stock.shape → rest.board ≡ stock.board → rest.retired ≡ stock.retired
      → Moves place_of content o shape log later standing standing stock rest
  nothing_moves o shape log later standing stock rest same same_shape same_board same_retired = record {
    conserved = λ p.
        let free = same p in
        let retired : count_at place_of p rest.retired ≡ count_at place_of p stock.retired = ap (count_at place_of p) same_retired in
        omega (arith, free, retired);
    spared = λ d.
        let free = same (λ s. same_drive d s.drive) in
        omega (arith, free);
    shape_same = same_shape;
    board = same_board;
    sorted = same_sorted place_of stock rest same same_retired;
  }

  -- a mirror is at the level of two copies
  pub mirror_level : (shape : Shape) (generation : ℕ) (pair : Pair S) → IsMirror place_of shape pair
      → AtLevel (mirror_of place_of generation pair) two_copies
  mirror_level shape generation pair mirror =
      let a : Place = place_from (place_of pair.first) in
      let b : Place = place_from (place_of pair.second) in
      let other : eqb b.drive.node a.drive.node ≡ false = ne_eqb _ _ (λ h. mirror.apart (sym h)) in
      let other_too : eqb a.drive.node b.drive.node ≡ false = ne_eqb _ _ mirror.apart in
      let same : eqb a.drive.node a.drive.node ≡ true = eq-eqb _ _ refl in
      let same_too : eqb b.drive.node b.drive.node ≡ true = eq-eqb _ _ refl in
      let one : one_if (eqb b.drive.node a.drive.node) ≡ 0 = ap one_if other in
      let two : one_if (eqb a.drive.node b.drive.node) ≡ 0 = ap one_if other_too in
      let three : one_if (eqb a.drive.node a.drive.node) ≡ 1 = ap one_if same in
      let four : one_if (eqb b.drive.node b.drive.node) ≡ 1 = ap one_if same_too in
      record {
        some = omega arith;
        narrow = omega arith;
        corrected = refl;
        whole = refl;
        apart = (ap (λ (b : Bool). cond b true false) (and_left _ _ other), (refl, tt));
        spread = (omega (arith, one, three), (omega (arith, two, four), tt));
      }

  -- a slot of the cluster on a drive that is up, where no unit of the file stands, is a new place
  pub new_place : (shape : Shape) (board : List BoardEntry) (standing : FileSlots S) (s : Place) → is_place_of shape s ≡ true
      → up_after shape board (length board) s.drive ≡ true → is_taken (all_groups (layout_of place_of standing)) s ≡ false
      → IsNewPlace (last_moment shape board) (layout_of place_of standing) s
  new_place shape board standing s is up free =
      let parts = and_parts _ _ is in
      record {
        drive = parts.0;
        slot = ltb-true _ _ parts.1;
        usable = usable_up standing;
        free = free;
      }
    where
      usable_up : (st : FileSlots S) → is_usable (last_moment shape board) (layout_of place_of st) s.drive ≡ true
      usable_up Absent = and-true _ ∙ up
      usable_up (Empty inode) = and-true _ ∙ up
      usable_up (Written size units inode) = and-true _ ∙ up

  -- two slots on two nodes are two places
  pub apart_places : (shape : Shape) (pair : Pair S) → IsMirror place_of shape pair
      → same_place (place_from (place_of pair.first)) (place_from (place_of pair.second)) ≡ false
  apart_places shape pair mirror = and_left _ _ (and_left _ _ (ne_eqb _ _ mirror.apart))

  -- the file was created
  pub created : (by : By) (shape : Shape) (log later : List NotedEntry) (stock rest : StockView S) (inode : Pair S)
      → stock.shape ≡ shape
      → later ≡ log ++ record { entry = record { by = by; epoch = length stock.board; event = Created (mirror_of place_of 0 inode) }; payload = [] } ∷ []
      → KeepsFile place_of content shape log Absent
      → Draws place_of content stock rest (inode_text place_of content shape (Empty inode)) inode → SameBeside stock rest
      → Played place_of content by plain.Create shape log later Absent (Empty inode) stock rest
  created by shape log later stock rest inode same_shape grown inside draws beside =
      let t : NotedEntry = record { entry = record { by = by; epoch = length stock.board; event = Created (mirror_of place_of 0 inode) }; payload = [] } in
      let mirror : IsMirror place_of shape inode = subst (λ (c : Shape). IsMirror place_of c inode) same_shape draws.mirror in
      let up_first = subst (λ (c : Shape). up_after c stock.board (length stock.board) (place_from (place_of inode.first)).drive ≡ true) same_shape draws.first_up in
      let up_second = subst (λ (c : Shape). up_after c stock.board (length stock.board) (place_from (place_of inode.second)).drive ≡ true) same_shape draws.second_up in
      let step : Creates (last_moment shape stock.board) (layout_of place_of Absent) (mirror_of place_of 0 inode) = record {
        absent = refl;
        level = record { one = refl; at_level = mirror_level shape 0 inode mirror };
        number = refl;
        places = record {
          each = (
            new_place shape stock.board Absent _ mirror.first up_first refl,
            (new_place shape stock.board Absent _ mirror.second up_second refl, tt),
          );
          distinct = ((apart_places shape inode mirror, tt), (tt, tt));
        };
      } in
      record {
        plays = record {
          event = Created (mirror_of place_of 0 inode);
          answers = refl;
          told = t;
          is_told = refl;
          log = grown;
          legal = subst (λ (l : Layout). Creates (last_moment shape stock.board) l (mirror_of place_of 0 inode)) (sym inside.layout) step;
          shown = λ known. tt;
        };
        inside = subst (λ (l : List NotedEntry). KeepsFile place_of content shape l (Empty inode)) (sym grown) (record {
          layout = layout_from-push log t two_copies _
              ∙ ap (λ (l : Layout). Rattle.file_history.specs.Layout.layout_after_event two_copies (Created (mirror_of place_of 0 inode)) l) inside.layout;
          holds = (bytes_from-push log t [], mirror, draws.copies);
          bytes = subst (All IsByte) (sym (bytes_from-push log t [])) (All-nil IsByte);
        });
        tell = λ told.
            let drawn = draws.tell told.free in
            record {
              units = refl;
              inode = tell_pair inode drawn.1 drawn.2;
              free = drawn.0;
              retired = subst (Tell content) (sym beside.retired) told.retired;
            };
        ordered = λ kept. record {
          free = draws.ordered kept.free;
          inode = λ none. (draws.first_lower kept.free, (draws.second_lower kept.free, tt));
        };
      }

  -- the slots of the new inode came from the stock
  pub create_moves : (shape : Shape) (log later : List NotedEntry) (stock rest : StockView S) (bytes : List ℕ) (inode : Pair S)
      → Draws place_of content stock rest bytes inode → SameBeside stock rest
      → Moves place_of content plain.Create shape log later Absent (Empty inode) stock rest
  create_moves shape log later stock rest bytes inode draws beside = record {
    conserved = λ p.
        let moved = draws.moved p in
        let two = count_pair p inode in
        let retired : count_at place_of p rest.retired ≡ count_at place_of p stock.retired = ap (count_at place_of p) beside.retired in
        omega (arith, moved, two, retired);
    spared = λ d.
        let moved = draws.moved (λ s. same_drive d s.drive) in
        let once = apart_once d (place_from (place_of inode.first)).drive (place_from (place_of inode.second)).drive draws.mirror.apart in
        omega (arith, moved, once);
    shape_same = beside.shape;
    board = beside.board;
    sorted = drawn_sorted place_of content stock rest bytes inode draws beside.retired;
  }
