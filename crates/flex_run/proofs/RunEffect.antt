-- What operations leave of a file and its stock, one after the other.
use Rattle.std.proofs.Common.{◌≡◌, ℕ, ◌+◌, ◌≤◌, List, [], ◌∷◌, ◌++◌, length, Option, refl, sym, ap, subst, ◌∙◌, arith}
use Rattle.std.specs.List.{AllByRecursion}
use Rattle.std.proofs.lemmas.Bool.{and_parts}
use Rattle.flex_io.specs.declared.raw_place.RawPlace.{RawPlace}
use Rattle.domains.specs.Drive.{Drive}
use Rattle.domains.specs.Place.{Place, same_place}
use Rattle.domains.specs.Shape.{Shape}
use Rattle.domains.specs.Level.{two_copies}
use Rattle.domains.specs.declared.by.By.{By}
use Rattle.board_history.specs.Board.{up_after}
use Rattle.board_history.specs.declared.entry.BoardEntry.{BoardEntry}
use Rattle.file_history.specs.World.{World, world_of, moment_at}
use Rattle.file_history.specs.Layout.{Layout, empty_layout, layout_after, all_groups, places_of}
use Rattle.file_history.specs.Step.{IsEvent}
use Rattle.held_slots.specs.Slots.{place_from, count_at}
use Rattle.plain_file.specs.Plain.{StockView, FileView, AllTell, KeepsStored, OneEach, plain_payload}
use Rattle.file_history.specs.declared.entry.FileEvent.{FileEvent}
use Rattle.file_history.specs.declared.entry.NotedEntry.{NotedEntry}
use Rattle.plain_file.specs.declared.op.PlainOp.{PlainOp}
use Rattle.plain_file.proofs.DriveLoss.{up_after-fail}
use Rattle.scenario.specs.declared.op.Op.{Op}
use Rattle.scenario.specs.declared.op.Op.TheVariants as op
use Rattle.flex_run.specs.Operations.{DoesPlain, DoesFail, Does, fail_entry}
use Rattle.flex_run.specs.RetiredPlaces.{retired_places}
use Rattle.flex_run.specs.RunProgress.{AreRetired, Leaves}
use Rattle.flex_run.proofs.StockPlaces.{count_by-map}
use Rattle.flex_run.proofs.RunStart.{new_file, new_stock}
use Rattle.file_history.proofs.HistoryGrowth.{layout_from-push}
use Rattle.flex_run.proofs.RetiredSlots.{retired_from-append, times, times-all, times-push, retires, no_more}

-- the board has reached the epoch of each entry
abbrev pub AreReached : List BoardEntry → List NotedEntry → Type 0
AreReached board log = AllByRecursion (λ (t : NotedEntry). t.entry.epoch ≤ length board) log

module _ {S : Type 0} (place_of : S → RawPlace) (content : S → Option (List ℕ)) where
  -- a new file is stored in no slot
  KeepsStored-new : (shape : Shape) → KeepsStored place_of content (new_file shape)
  KeepsStored-new shape = record {
    units = refl;
    inode = refl;
    stored = record { inode = tt; size = refl; zeros = 0; groups = refl };
  }

  -- before the first operation
  Leaves-new : (shape : Shape) (slots : List S) (room spare : ℕ)
      → Leaves place_of content shape (new_file shape) (new_stock shape slots room spare) (new_file shape) (new_stock shape slots room spare)
  Leaves-new shape slots room spare = record {
    file_shape = refl;
    stock_shape = refl;
    keeps = KeepsStored-new shape;
    lost = λ s up. refl;
    retired = λ s. refl;
    conserved = λ p. refl;
    ordered = λ kept. kept;
  }

  pub Leaves-start : (shape : Shape) (slots : List S) (f : FileView S) (stock : StockView S) → f ≡ new_file shape → stock ≡ new_stock shape slots stock.room stock.spare
      → Leaves place_of content shape f stock f stock
  Leaves-start shape slots f stock is_file is_stock =
      subst (λ (k : StockView S). Leaves place_of content shape f k f k) (sym is_stock)
      (subst (λ (k : FileView S). Leaves place_of content shape k (new_stock shape slots stock.room stock.spare) k (new_stock shape slots stock.room stock.spare)) (sym is_file)
      (Leaves-new shape slots stock.room stock.spare))

  -- the slots of a file stand at the places of its layout
  held : (f : FileView S) (s : Place) → KeepsStored place_of content f
      → count_at place_of (same_place s) f.units + count_at place_of (same_place s) f.inode ≡ times s (places_of (all_groups (layout_after two_copies f.log)))
  held f s keeps =
      let units = count_by-map (same_place s) (λ x. place_from (place_of x)) f.units ∙ ap (λ (l : List Place). times s l) keeps.units in
      let inode = count_by-map (same_place s) (λ x. place_from (place_of x)) f.inode ∙ ap (λ (l : List Place). times s l) keeps.inode in
      let all = times-all s (layout_after two_copies f.log) in
      omega (arith, units, inode, all)

  -- a plain operation retires the places that its entry does
  AreRetired-plain : (o : PlainOp) (by : By) (g : FileView S) (now : StockView S) (h : FileView S) (next : StockView S)
      → g.shape ≡ now.shape → KeepsStored place_of content g → OneEach place_of g now
      → DoesPlain place_of content by o (AllTell content g now) g now h next → AreRetired place_of g now → AreRetired place_of h next
  AreRetired-plain o by g now h next shape keeps one_each does before s =
      let event : FileEvent = does.plays.event in
      let t : NotedEntry = record { entry = record { by = by; epoch = length now.board; event = event }; payload = plain_payload o } in
      let l : Layout = layout_after two_copies g.log in
      let world : World = world_of now.shape now.board two_copies in
      let grown : h.log ≡ g.log ++ t ∷ [] = does.plays.log ∙ ap (λ (u : NotedEntry). g.log ++ u ∷ []) does.plays.is_told in
      let legal : IsEvent (moment_at world (length now.board)) g.log l (plain_payload o) event =
      subst (λ (c : Shape). IsEvent (moment_at (world_of c now.board two_copies) (length now.board)) g.log l (plain_payload o) event) shape does.plays.legal in
      let was = held g s keeps in
      let is = held h s does.keeps ∙ ap (λ (log : List NotedEntry). times s (places_of (all_groups (layout_after two_copies log)))) grown
      ∙ ap (λ (m : Layout). times s (places_of (all_groups m))) (layout_from-push g.log t two_copies (empty_layout two_copies)) in
      let same = does.conserved (same_place s) in
      let once = one_each s in
      let step = retires s world l t (count_at place_of (same_place s) now.retired) (count_at place_of (same_place s) next.retired) (does.sorted.up s)
      (λ off.
      let free = does.sorted.lost s off in
      (omega (arith, was, is, same, free), no_more s (moment_at world (length now.board)) l off two_copies g.log (plain_payload o) o event does.plays.answers legal))
      (omega (arith, was, once)) in
      let more = times-push s world g.log t in
      let start = before s in
      let made : count_at place_of (same_place s) next.retired ≡ times s (retired_places world (g.log ++ t ∷ [])) = omega (arith, step, more, start) in
      made ∙ ap (λ (log : List NotedEntry). times s (retired_places world log)) (sym grown)
      ∙ ap (λ (b : List BoardEntry). times s (retired_places (world_of now.shape b two_copies) h.log)) (sym does.board)
      ∙ ap (λ (c : Shape). times s (retired_places (world_of c next.board two_copies) h.log)) (sym does.stock_shape)

  Leaves-plain : (shape : Shape) (o : PlainOp) (by : By) (f : FileView S) (stock : StockView S) (g : FileView S) (now : StockView S) (h : FileView S) (next : StockView S)
      → OneEach place_of g now → Leaves place_of content shape f stock g now
      → DoesPlain place_of content by o (AllTell content g now) g now h next → Leaves place_of content shape f stock h next
  Leaves-plain shape o by f stock g now h next one_each left does = record {
    file_shape = does.shape ∙ left.file_shape;
    stock_shape = does.stock_shape ∙ left.stock_shape;
    keeps = does.keeps;
    lost = λ s up.
        let same_up : up_after next.shape next.board (length next.board) s.drive ≡ up_after now.shape now.board (length now.board) s.drive =
        ap (λ (c : Shape). up_after c next.board (length next.board) s.drive) does.stock_shape
        ∙ ap (λ (b : List BoardEntry). up_after now.shape b (length b) s.drive) does.board in
        let before = sym same_up ∙ up in
        does.sorted.up s before ∙ left.lost s before;
    retired = AreRetired-plain o by g now h next (left.file_shape ∙ sym left.stock_shape) left.keeps one_each does left.retired;
    conserved = λ p. does.conserved p ∙ left.conserved p;
    ordered = λ start. does.ordered (left.ordered start);
  }

  Leaves-fail : (shape : Shape) (drive : Drive) (by : By) (f : FileView S) (stock : StockView S) (g : FileView S) (now : StockView S) (h : FileView S) (next : StockView S)
      → AreReached now.board g.log → Leaves place_of content shape f stock g now → DoesFail by drive g now h next → Leaves place_of content shape f stock h next
  Leaves-fail shape drive by f stock g now h next reached left does =
      let entry = fail_entry now.shape now.board by drive in
      let after : StockView S = record now { board = now.board ++ entry ∷ [] } in
      let made : Leaves place_of content shape f stock g after = record {
        file_shape = left.file_shape;
        stock_shape = left.stock_shape;
        keeps = left.keeps;
        lost = λ s up.
            let both = sym (up_after-fail now.shape now.board by entry.effect drive s.drive) ∙ up in
            left.lost s ((and_parts _ _ both).1);
        retired = λ s.
            left.retired s
            ∙ ap (λ (places : List Place). times s places)
            (retired_from-append g.log now.shape two_copies now.board (entry ∷ []) (empty_layout two_copies) reached);
        conserved = left.conserved;
        ordered = λ start. let kept = left.ordered start in record { free = kept.free; inode = kept.inode };
      } in
      subst (λ (k : StockView S). Leaves place_of content shape f stock h k) (sym does.stock_is)
      (subst (λ (k : FileView S). Leaves place_of content shape f stock k after) (sym does.file_is) made)

  -- after one more operation
  pub Leaves-more : (o : Op) (shape : Shape) (by : By) (f : FileView S) (stock : StockView S) (g : FileView S) (now : StockView S) (h : FileView S) (next : StockView S)
      → AreReached now.board g.log → OneEach place_of g now → Leaves place_of content shape f stock g now
      → Does o place_of content by (AllTell content g now) g now h next → Leaves place_of content shape f stock h next
  Leaves-more (op.Create file) shape by f stock g now h next reached one_each left does = Leaves-plain shape _ by f stock g now h next one_each left does
  Leaves-more (op.WriteText file offset text) shape by f stock g now h next reached one_each left does =
      Leaves-plain shape _ by f stock g now h next one_each left does
  Leaves-more (op.Read file offset len) shape by f stock g now h next reached one_each left does =
      Leaves-plain shape _ by f stock g now h next one_each left does
  Leaves-more (op.Fail drive) shape by f stock g now h next reached one_each left does = Leaves-fail shape drive by f stock g now h next reached left does
