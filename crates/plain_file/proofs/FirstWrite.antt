-- What is true after the write of a plain file.
use Rattle.std.proofs.Common.{◌≡◌, ℕ, ◌+◌, ◌-◌, ◌/◌, ◌≤◌, min, max, Bool, true, false, cond, leb, List, [], ◌∷◌, ◌++◌, length, replicate, count_by, All, Option, Some, None, is_none, refl, sym, ap, subst, ◌∙◌, arith, append-nil, lit≤}
use Rattle.std.proofs.Math.Nat.{div-eq_of_lt}
use Rattle.std.proofs.Math.Seq.{drop-nil}
use Rattle.std.proofs.lemmas.Bool.{cond-true, le-leb, or_from, true≢false, false≢true}
use Rattle.flex_io.specs.declared.raw_place.RawPlace.{RawPlace}
use Rattle.domains.specs.Drive.{Drive, same_drive}
use Rattle.domains.specs.Place.{Place, same_place}
use Rattle.domains.specs.Shape.{Shape, IsShape}
use Rattle.domains.specs.Level.{two_copies}
use Rattle.domains.specs.Room.{room_of}
use Rattle.domains.specs.declared.by.By.{By}
use Rattle.board_history.specs.Board.{up_after}
use Rattle.board_history.specs.declared.entry.BoardEntry.{BoardEntry}
use Rattle.galois.specs.Field.{IsByte}
use Rattle.inode_codec.specs.Inode.{inode_bytes}
use Rattle.plain_file.specs.LastMoment.{last_moment}
use Rattle.file_history.specs.Bytes.{bytes_after, overwrite}
use Rattle.file_history.specs.Layout.{Layout, layout_after, layout_from, layout_after_event, empty_layout, all_groups, group_list, is_taken}
use Rattle.file_history.specs.Refusals.{is_usable, MayWrite, IsLegalRefusal}
use Rattle.file_history.specs.Live.{short_in}
use Rattle.file_history.specs.declared.entry.Refused.TheVariants as refused
use Rattle.domains.specs.declared.group.Lost.{Lost}
use Rattle.file_history.specs.WriteRule.{chunk_count}
use Rattle.file_history.specs.Step.{Writes}
use Rattle.domains.specs.Counts.{one_if}
use Rattle.held_slots.specs.Slots.{place_from, count_at}
use Rattle.plain_file.specs.Slots.{Tell}
use Rattle.plain_file.specs.Plain.{StockView, OneEach, HasRoom, IsUnwritten, is_placing, SortsSlots}
use Rattle.plain_file.specs.FreeOrder.{is_under, StandInOrder, HasLowerNumber}
use Rattle.plain_file.specs.Mirrors.{slots_of, mirror_of, IsMirror, AreCopies}
use Rattle.plain_file.specs.Draws.{Draws, SameFree, SameBeside, Draws2, Releases}
use Rattle.plain_file.specs.FileParts.{is_present, file_view, layout_of, HoldsFile, KeepsFile, Played, Moves, MayRelease}
use Rattle.file_history.specs.declared.entry.Change.{Change}
use Rattle.file_history.specs.declared.entry.FileEvent.{FileEvent}
use Rattle.file_history.specs.declared.entry.FileEvent.TheVariants as event
use Rattle.file_history.specs.declared.entry.NotedEntry.{NotedEntry}
use Rattle.plain_file.specs.declared.op.PlainOp.TheVariants as plain
use Rattle.plain_file.specs.declared.pair.Pair.{Pair}
use Rattle.plain_file.specs.declared.file_slots.FileSlots.{FileSlots}
use Rattle.plain_file.specs.declared.file_slots.FileSlots.TheVariants.{Absent, Empty, Written}
use Rattle.file_history.proofs.HistoryGrowth.{layout_from-push, bytes_from-push}
use Rattle.domains.proofs.DriveLemmas.{same_place-self}
use Rattle.plain_file.proofs.MirrorRoom.{room_of_same}
use Rattle.plain_file.proofs.ReleasedSlots.{same_sorted, drawn_sorted, sorted_then}
use Rattle.plain_file.proofs.FileTurns.{and-true, apart_once, count_pair, tell_pair, mirror_level, new_place}

-- an event that puts no group into the map leaves an empty map
no_groups_after : (e : FileEvent) (l : Layout) → is_placing e ≡ false → l.groups ≡ [] → (layout_after_event two_copies e l).groups ≡ []
no_groups_after (event.Created inode) l off none = refl
no_groups_after event.Deleted l off none = refl
no_groups_after (event.Written offset len size change) l off none = absurd (true≢false off)
no_groups_after (event.Shown offset len bytes) l off none = none
no_groups_after (event.LevelSet level) l off none = none
no_groups_after (event.Placed job change) l off none = absurd (true≢false off)
no_groups_after (event.Dead generation position) l off none = none
no_groups_after (event.Barred job drives) l off none = none
no_groups_after (event.Cleared job drives) l off none = none
no_groups_after (event.Marked job count) l off none = none
no_groups_after (event.Refused why) l off none = none

no_groups_from : (log : List NotedEntry) (l : Layout) → IsUnwritten log → l.groups ≡ [] → (layout_from log two_copies l).groups ≡ []
no_groups_from [] l off none = none
no_groups_from (t ∷ ts) l off none = no_groups_from ts (layout_after_event two_copies t.entry.event l) off.1 (no_groups_after t.entry.event l off.0 none)

-- a log without an accepted write says an empty map
pub no_groups : (log : List NotedEntry) → IsUnwritten log → (layout_after two_copies log).groups ≡ []
no_groups log off = no_groups_from log (empty_layout two_copies) off refl

zero_false : (b : Bool) → one_if b ≡ 0 → b ≡ false
zero_false false h = refl
zero_false true h = absurd (omega (arith, h))

overwrite-empty : (bytes : List ℕ) → overwrite [] 0 bytes ≡ bytes
overwrite-empty bytes = ap (λ (l : List ℕ). bytes ++ l) (drop-nil (0 + length bytes)) ∙ append-nil bytes

-- a write of at most a unit reaches no second unit
one_unit : (len unit : ℕ) → 1 ≤ len → len ≤ unit → (0 + len - 1) / unit ≡ 0
one_unit len unit some fits = div-eq_of_lt (omega arith)

width_one : (room : ℕ) → 2 ≤ room → cond (leb 2 room) (Some (min 1 (room - 1))) None ≡ Some 1
width_one room enough =
    let one : min 1 (room - 1) ≡ 1 = omega arith in
    cond-true (leb 2 room) (Some (min 1 (room - 1))) None (le-leb 2 room enough) ∙ ap Some one

module _ {S : Type 0} (place_of : S → RawPlace) (content : S → Option (List ℕ)) where
  -- a standing that is present and whose map is empty has an inode alone
  pub has_inode_alone : (shape : Shape) (log : List NotedEntry) (standing : FileSlots S) → KeepsFile place_of content shape log standing
      → is_present standing ≡ true → IsUnwritten log → (inode : Pair S) × (standing ≡ Empty inode)
  has_inode_alone shape log Absent inside present off = absurd (false≢true present)
  has_inode_alone shape log (Empty inode) inside present off = (inode, refl)
  has_inode_alone shape log (Written size units inode) inside present off =
      absurd (not_empty (sym (ap (λ (l : Layout). l.groups) inside.layout) ∙ no_groups log off))
    where
      not_empty : (mirror_of place_of 1 units ∷ []) ≡ [] → ⊥
      not_empty h = cc

  -- the first draw leaves room for the second
  pub room_left : (stock between : StockView S) (bytes : List ℕ) (pair : Pair S) → Draws place_of content stock between bytes pair
      → SameBeside stock between → HasRoom place_of 2 stock → HasRoom place_of 1 between
  room_left stock between bytes pair draws beside room d of_d up =
      let up_before : up_after stock.shape stock.board (length stock.board) d ≡ true =
      sym (ap (λ (c : Shape). up_after c stock.board (length stock.board) d) beside.shape)
      ∙ sym (ap (λ (b : List BoardEntry). up_after between.shape b (length b) d) beside.board) ∙ up in
      let enough = room d of_d up_before in
      let moved = draws.moved (λ s. same_drive d s.drive) in
      let once = apart_once d (place_from (place_of pair.first)).drive (place_from (place_of pair.second)).drive draws.mirror.apart in
      omega (arith, enough, moved, once)

  -- slots that were drawn and given back stand as before
  pub given_back : (stock between later back : StockView S) (bytes : List ℕ) (pair : Pair S) → Draws place_of content stock between bytes pair
      → SameFree place_of between later
      → ((p : S → Bool) → count_by p back.free ≡ count_by p later.free + (one_if (p pair.first) + one_if (p pair.second)))
      → SameFree place_of stock back
  given_back stock between later back bytes pair draws same returned p =
      let moved = draws.moved p in
      let kept = same p in
      let put = returned (λ x. p (place_from (place_of x))) in
      omega (arith, moved, kept, put)

  -- how many of the slots in question stand at the place of this one
  abbrev hits : Place → S → ℕ
  hits s x = one_if (same_place s (place_from (place_of x)))

  -- all slots that a write moves are at places of their own
  abbrev pub all_hits : Place → Pair S → Pair S → Pair S → ℕ
  all_hits s old units inode =
      (hits s old.first + hits s old.second) + ((hits s units.first + hits s units.second) + (hits s inode.first + hits s inode.second))

  pub one_hit : (shape : Shape) (log : List NotedEntry) (stock ready mid : StockView S) (bytes : List ℕ) (old units inode : Pair S)
      → OneEach place_of (file_view shape log (Empty old)) stock → ready.free ≡ stock.free
      → Draws2 place_of content ready mid bytes units inode → (s : Place) → all_hits s old units inode ≤ 1
  one_hit shape log stock ready mid bytes old units inode one same drawn s =
      let total = one s in
      let two = count_pair place_of content (same_place s) old in
      let first = drawn.units_drawn.moved (same_place s) in
      let second = drawn.inode_drawn.moved (same_place s) in
      let before : count_at place_of (same_place s) ready.free ≡ count_at place_of (same_place s) stock.free = ap (count_at place_of (same_place s)) same in
      omega (arith, total, two, first, second, before)

  self : (x : S) → hits (place_from (place_of x)) x ≡ 1
  self x = ap one_if (same_place-self (place_from (place_of x)))

  -- the groups that a write places, and the inode
  abbrev pub change_of : Pair S → Pair S → Change
  change_of units inode = record { old = []; new = mirror_of place_of 1 units ∷ []; inode = mirror_of place_of 2 inode }

  -- a write of at most a unit makes one group
  pub may_write : (shape : Shape) (board : List BoardEntry) (bytes : List ℕ) (old : Pair S) → IsShape shape → 1 ≤ length bytes
      → length bytes ≤ shape.unit → 2 ≤ room_of two_copies shape (up_after shape board (length board))
      → MayWrite (last_moment shape board) (layout_of place_of (Empty old)) 0 (length bytes) 1
  may_write shape board bytes old is some fits usable =
      let q : (0 + length bytes - 1) / shape.unit ≡ 0 = one_unit (length bytes) shape.unit some fits in
      let units_are_one : max ((0 + length bytes - 1) / shape.unit + 1) (0 + 0) - 0 ≡ 1 = omega (arith, q) in
      let same_room : room_of two_copies shape (is_usable (last_moment shape board) (layout_of place_of (Empty old)))
      ≡ room_of two_copies shape (up_after shape board (length board)) =
      room_of_same two_copies shape _ _ is (λ e of_e. and-true (up_after shape board (length board) e)) in
      record {
        wide = ap (λ (r : ℕ). cond (leb 2 r) (Some (min 1 (r - 1))) None) same_room ∙ width_one _ usable;
        groups = subst (λ (n : ℕ). 0 - 0 + chunk_count n 1 ≤ 256) (sym units_are_one) (lit≤ tt);
      }

  -- the write is legal after the create
  pub write_step : (shape : Shape) (board : List BoardEntry) (log : List NotedEntry) (bytes : List ℕ) (old units inode : Pair S)
      → IsShape shape → 1 ≤ length bytes → length bytes ≤ shape.unit → bytes_after log ≡ []
      → 2 ≤ room_of two_copies shape (up_after shape board (length board))
      → IsMirror place_of shape units → IsMirror place_of shape inode
      → up_after shape board (length board) (place_from (place_of units.first)).drive ≡ true
      → up_after shape board (length board) (place_from (place_of units.second)).drive ≡ true
      → up_after shape board (length board) (place_from (place_of inode.first)).drive ≡ true
      → up_after shape board (length board) (place_from (place_of inode.second)).drive ≡ true
      → ((s : Place) → all_hits s old units inode ≤ 1)
      → Writes (last_moment shape board) log (layout_of place_of (Empty old)) 0 (length bytes) (change_of units inode) bytes
  write_step shape board log bytes old units inode is some fits empty usable um im u1 u2 i1 i2 hits_of =
      let a = place_from (place_of units.first) in
      let b = place_from (place_of units.second) in
      let c = place_from (place_of inode.first) in
      let d = place_from (place_of inode.second) in
      let at_a = hits_of a in
      let at_b = hits_of b in
      let at_c = hits_of c in
      let at_d = hits_of d in
      let sa = self units.first in
      let sb = self units.second in
      let sc = self inode.first in
      let sd = self inode.second in
      let no : (s : Place) → hits s old.first ≡ 0 → hits s old.second ≡ 0 → is_taken (all_groups (layout_of place_of (Empty old))) s ≡ false =
      λ s one two. or_from _ _ (zero_false _ one) (or_from _ _ (zero_false _ two) refl) in
      let q : (0 + length bytes - 1) / shape.unit ≡ 0 = one_unit (length bytes) shape.unit some fits in
      let units_are_one : max ((0 + length bytes - 1) / shape.unit + 1) (0 + 0) - 0 ≡ 1 = omega (arith, q) in
      record {
        present = refl;
        width = 1;
        may = may_write shape board bytes old is some fits usable;
        old = refl;
        chunks = (sym units_are_one, omega arith, omega arith);
        level = (mirror_level place_of content shape 1 units um, tt);
        inode = record { one = refl; at_level = mirror_level place_of content shape 2 inode im };
        numbers = (refl, refl);
        places = record {
          each = (
            new_place place_of content shape board (Empty old) a um.first u1 (no a (omega arith) (omega arith)),
            (
              new_place place_of content shape board (Empty old) b um.second u2 (no b (omega arith) (omega arith)),
              (
                new_place place_of content shape board (Empty old) c im.first i1 (no c (omega arith) (omega arith)),
                (new_place place_of content shape board (Empty old) d im.second i2 (no d (omega arith) (omega arith)), tt),
              ),
            ),
          );
          distinct = (
            (zero_false _ (omega arith), (zero_false _ (omega arith), (zero_false _ (omega arith), tt))),
            (
              (zero_false _ (omega arith), (zero_false _ (omega arith), tt)),
              ((zero_false _ (omega arith), tt), (tt, tt)),
            ),
          );
        };
        groups = omega arith;
        new_size = ap length (sym (ap (λ (o : List ℕ). overwrite o 0 bytes) empty ∙ overwrite-empty bytes));
      }

  -- a slot that has a lower number than the free ones has one than those that two draws leave
  still_lower : (stock ready mid : StockView S) (bytes : List ℕ) (units inode : Pair S) (x : S) → ready.free ≡ stock.free
      → Draws2 place_of content ready mid bytes units inode → HasLowerNumber place_of stock.free x → HasLowerNumber place_of mid.free x
  still_lower stock ready mid bytes units inode x same drawn lower =
      let p : Place → Bool = λ s. is_under s (place_from (place_of x)) in
      let first = drawn.units_drawn.moved p in
      let second = drawn.inode_drawn.moved p in
      let before : count_at place_of p ready.free ≡ count_at place_of p stock.free = ap (count_at place_of p) same in
      omega (arith, first, second, before, lower)

  some_units : (units : Pair S) → slots_of units ≡ [] → ⊥
  some_units units h = cc

  -- the bytes were written
  pub write_played : (by : By) (shape : Shape) (log later : List NotedEntry) (bytes : List ℕ) (stock ready mid rest : StockView S) (old units inode : Pair S)
      → stock.shape ≡ shape → ready.shape ≡ stock.shape → ready.board ≡ stock.board → ready.free ≡ stock.free → ready.retired ≡ stock.retired
      → IsShape shape → 1 ≤ length bytes → length bytes ≤ shape.unit → All IsByte bytes
      → 2 ≤ room_of two_copies shape (up_after shape stock.board (length stock.board))
      → later ≡ log ++ record {
        entry = record { by = by; epoch = length stock.board; event = event.Written 0 (length bytes) (length bytes) (change_of units inode) };
        payload = bytes;
      } ∷ []
      → KeepsFile place_of content shape log (Empty old) → OneEach place_of (file_view shape log (Empty old)) stock
      → Draws2 place_of content ready mid bytes units inode → SameBeside ready mid → Releases place_of mid rest old
      → Played place_of content by (plain.Write bytes) shape log later (Empty old) (Written (length bytes) units inode) stock rest
  write_played by shape log later bytes stock ready mid rest old units inode same_shape ready_shape ready_board ready_free ready_retired
      is some fits all usable grown inside one drawn beside released =
      let u = drawn.units_drawn in
      let v = drawn.inode_drawn in
      let shape_ready : ready.shape ≡ shape = ready_shape ∙ same_shape in
      let shape_between : drawn.between.shape ≡ shape = drawn.beside.shape ∙ shape_ready in
      let board_between : drawn.between.board ≡ stock.board = drawn.beside.board ∙ ready_board in
      let um : IsMirror place_of shape units = subst (λ (k : Shape). IsMirror place_of k units) shape_ready u.mirror in
      let im : IsMirror place_of shape inode = subst (λ (k : Shape). IsMirror place_of k inode) shape_between v.mirror in
      let up_unit : (e : Drive) → up_after ready.shape ready.board (length ready.board) e ≡ true → up_after shape stock.board (length stock.board) e ≡ true =
      λ e h. sym (ap (λ (k : Shape). up_after k stock.board (length stock.board) e) shape_ready)
      ∙ sym (ap (λ (k : List BoardEntry). up_after ready.shape k (length k) e) ready_board) ∙ h in
      let up_inode : (e : Drive) → up_after drawn.between.shape drawn.between.board (length drawn.between.board) e ≡ true → up_after shape stock.board (length stock.board) e ≡ true =
      λ e h. sym (ap (λ (k : Shape). up_after k stock.board (length stock.board) e) shape_between)
      ∙ sym (ap (λ (k : List BoardEntry). up_after drawn.between.shape k (length k) e) board_between) ∙ h in
      let t : NotedEntry = record {
        entry = record { by = by; epoch = length stock.board; event = event.Written 0 (length bytes) (length bytes) (change_of units inode) };
        payload = bytes;
      } in
      let empty : bytes_after log ≡ [] = inside.holds.0 in
      let same_bytes : bytes_after (log ++ t ∷ []) ≡ bytes =
      bytes_from-push log t [] ∙ ap (λ (o : List ℕ). overwrite o 0 bytes) empty ∙ overwrite-empty bytes in
      let step = write_step shape stock.board log bytes old units inode is some fits empty usable um im
      (up_unit (place_from (place_of units.first)).drive u.first_up) (up_unit (place_from (place_of units.second)).drive u.second_up)
      (up_inode (place_from (place_of inode.first)).drive v.first_up) (up_inode (place_from (place_of inode.second)).drive v.second_up)
      (one_hit shape log stock ready mid bytes old units inode one ready_free drawn) in
      record {
        plays = record {
          event = event.Written 0 (length bytes) (length bytes) (change_of units inode);
          answers = (refl, bytes, refl, refl);
          told = t;
          is_told = refl;
          log = grown;
          legal = (
            refl,
            some,
            subst (λ (l : Layout). Writes (last_moment shape stock.board) log l 0 (length bytes) (change_of units inode) bytes) (sym inside.layout) step,
          );
          shown = λ known. tt;
        };
        inside = subst (λ (l : List NotedEntry). KeepsFile place_of content shape l (Written (length bytes) units inode)) (sym grown) (record {
          layout = layout_from-push log t two_copies _
              ∙ ap (λ (l : Layout). layout_after_event two_copies (event.Written 0 (length bytes) (length bytes) (change_of units inode)) l) inside.layout;
          holds = subst (HoldsFile place_of content shape (Written (length bytes) units inode)) (sym same_bytes) (
            refl,
            some,
            fits,
            um,
            im,
            subst (λ (k : Shape). AreCopies content units (bytes ++ replicate (k.unit - length bytes) 0)) shape_ready u.copies,
            subst (λ (k : Shape). AreCopies content inode (inode_bytes (record { level = two_copies; unit = k.unit; size = length bytes; groups = mirror_of place_of 1 units ∷ [] }))) shape_ready v.copies,
          );
          bytes = subst (All IsByte) (sym same_bytes) all;
        });
        tell = λ told.
            let told_units = u.tell (subst (Tell content) (sym ready_free) told.free) in
            let told_inode = v.tell told_units.0 in
            let moved = released.moved (λ x. is_none (content x)) in
            let retired : count_by (λ x. is_none (content x)) mid.retired ≡ 0 =
            ap (count_by (λ x. is_none (content x))) (beside.retired ∙ ready_retired) ∙ told.retired in
            let none_free : count_by (λ x. is_none (content x)) mid.free ≡ 0 = told_inode.0 in
            let old_told : (0 + one_if (is_none (content old.first))) + one_if (is_none (content old.second)) ≡ 0 = told.inode in
            record {
              units = tell_pair place_of content units told_units.1 told_units.2;
              inode = tell_pair place_of content inode told_inode.1 told_inode.2;
              free = omega (arith, moved, retired, none_free, old_told);
              retired = omega (arith, moved, retired, none_free, old_told);
            };
        ordered = λ kept.
            let whole = subst (λ (l : List S). StandInOrder place_of l) (sym ready_free) kept.free in
            let both = kept.inode refl in
            let first = still_lower stock ready mid bytes units inode old.first ready_free drawn both.0 in
            let second = still_lower stock ready mid bytes units inode old.second ready_free drawn both.1.0 in
            record {
              free = released.ordered (v.ordered (u.ordered whole)) first second;
              inode = λ none. absurd (some_units units none);
            };
      }

  -- the slots of the group and the new inode came from the stock, and the old inode's went back
  pub write_moves : (shape : Shape) (log later : List NotedEntry) (bytes : List ℕ) (stock ready mid rest : StockView S) (old units inode : Pair S)
      → ready.shape ≡ stock.shape → ready.board ≡ stock.board → ready.free ≡ stock.free → ready.retired ≡ stock.retired
      → Draws2 place_of content ready mid bytes units inode → SameBeside ready mid → Releases place_of mid rest old
      → Moves place_of content (plain.Write bytes) shape log later (Empty old) (Written (length bytes) units inode) stock rest
  write_moves shape log later bytes stock ready mid rest old units inode ready_shape ready_board ready_free ready_retired drawn beside released = record {
    conserved = λ p.
        let first = drawn.units_drawn.moved p in
        let second = drawn.inode_drawn.moved p in
        let back = released.moved (λ x. p (place_from (place_of x))) in
        let retired : count_at place_of p mid.retired ≡ count_at place_of p stock.retired = ap (count_at place_of p) (beside.retired ∙ ready_retired) in
        let free : count_at place_of p ready.free ≡ count_at place_of p stock.free = ap (count_at place_of p) ready_free in
        let a = count_pair place_of content p old in
        let b = count_pair place_of content p units in
        let c = count_pair place_of content p inode in
        omega (arith, first, second, back, retired, free, a, b, c);
    spared = λ d.
        let first = drawn.units_drawn.moved (λ s. same_drive d s.drive) in
        let second = drawn.inode_drawn.moved (λ s. same_drive d s.drive) in
        let more = released.more (λ x. same_drive d (place_from (place_of x)).drive) in
        let free : count_at place_of (λ s. same_drive d s.drive) ready.free ≡ count_at place_of (λ s. same_drive d s.drive) stock.free =
        ap (count_at place_of (λ s. same_drive d s.drive)) ready_free in
        let once = apart_once d (place_from (place_of units.first)).drive (place_from (place_of units.second)).drive drawn.units_drawn.mirror.apart in
        let again = apart_once d (place_from (place_of inode.first)).drive (place_from (place_of inode.second)).drive drawn.inode_drawn.mirror.apart in
        omega (arith, first, second, more, free, once, again);
    shape_same = released.shape ∙ beside.shape ∙ ready_shape;
    board = released.board ∙ beside.board ∙ ready_board;
    sorted =
        let begin : SortsSlots place_of stock ready = same_sorted place_of stock ready (λ p. ap (count_at place_of p) ready_free) ready_retired in
        let first = drawn_sorted place_of content ready drawn.between _ units drawn.units_drawn drawn.beside.retired in
        let second = drawn_sorted place_of content drawn.between mid _ inode drawn.inode_drawn (beside.retired ∙ sym drawn.beside.retired) in
        let up_to_mid = sorted_then place_of ready drawn.between mid drawn.beside.shape drawn.beside.board first second in
        sorted_then place_of stock ready rest ready_shape ready_board begin
        (sorted_then place_of ready mid rest beside.shape beside.board up_to_mid released.sorted);
  }

  -- the slots of the old inode may go back
  pub may_release : (shape : Shape) (log : List NotedEntry) (bytes : List ℕ) (ready mid : StockView S) (old units inode : Pair S)
      → mid.shape ≡ shape → 2 ≤ ready.spare → mid.spare ≡ ready.spare → Draws2 place_of content ready mid bytes units inode
      → KeepsFile place_of content shape log (Empty old) → MayRelease place_of mid (Empty old)
  may_release shape log bytes ready mid old units inode same spare kept drawn inside = record {
    room = omega (arith, drawn.units_drawn.room, drawn.inode_drawn.room);
    spare = omega (arith, spare, kept);
    mirror = subst (λ (k : Shape). IsMirror place_of k old) (sym same) inside.holds.1;
  }

  -- a write finds too few live units of the inode
  pub lost_write : (shape : Shape) (board : List BoardEntry) (log : List NotedEntry) (bytes : List ℕ) (standing : FileSlots S) (lost : Lost)
      → IsShape shape → 1 ≤ length bytes → length bytes ≤ shape.unit
      → 2 ≤ room_of two_copies shape (up_after shape board (length board))
      → KeepsFile place_of content shape log standing → is_present standing ≡ true → IsUnwritten log
      → short_in (group_list (layout_of place_of standing).inode) (last_moment shape board) (layout_of place_of standing) ≡ Some lost
      → IsLegalRefusal (last_moment shape board) (layout_of place_of standing) (refused.WriteLost 0 (length bytes) lost)
  lost_write shape board log bytes standing lost is some fits usable inside present off short =
      let alone = has_inode_alone shape log standing inside present off in
      let at_empty : IsLegalRefusal (last_moment shape board) (layout_of place_of (Empty alone.0)) (refused.WriteLost 0 (length bytes) lost) = (
        refl,
        1,
        may_write shape board bytes alone.0 is some fits usable,
        subst (λ (st : FileSlots S). short_in (group_list (layout_of place_of st).inode) (last_moment shape board) (layout_of place_of st) ≡ Some lost) alone.1 short,
      ) in
      subst (λ (st : FileSlots S). IsLegalRefusal (last_moment shape board) (layout_of place_of st) (refused.WriteLost 0 (length bytes) lost)) (sym alone.1) at_empty
