-- What one operation leaves of what the operations after it may need.
use Rattle.std.proofs.Common.{◌≡◌, ◌≤◌, ℕ, false, Option, List, [], ◌∷◌, ◌++◌, length, ap, sym, ◌∙◌, subst, arith, length-append}
use Rattle.flex_io.specs.declared.raw_place.RawPlace.{RawPlace}
use Rattle.domains.specs.Drive.{Drive}
use Rattle.domains.specs.Place.{same_place}
use Rattle.domains.specs.Shape.{Shape}
use Rattle.domains.specs.declared.by.By.{By}
use Rattle.board_history.specs.declared.entry.BoardEntry.{BoardEntry}
use Rattle.plain_file.specs.Plain.{StockView, FileView, Plays, IsUnwritten, is_placing, slots_for}
use Rattle.file_history.specs.declared.entry.NotedEntry.{NotedEntry}
use Rattle.plain_file.specs.declared.op.PlainOp.{PlainOp}
use Rattle.scenario.specs.declared.op.Op.{Op}
use Rattle.scenario.specs.declared.op.Op.TheVariants as op
use Rattle.first_form.specs.FirstForm.{write_count}
use Rattle.flex_run.specs.Operations.{DoesPlain, DoesFail, fail_entry, slots_taken}
use Rattle.flex_run.specs.RunProgress.{MayGoOn}
use Rattle.flex_run.proofs.ListGrowth.{All-push}
use Rattle.flex_run.proofs.PlainEvents.{is_no_write, is_placing-plain}

-- a log that is unwritten stays so under an operation that is no write
IsUnwritten-plain : {S : Type 0} (by : By) (o : PlainOp) (board : List BoardEntry) (tell : Type 0) (f g : FileView S) → is_no_write o → Plays by o board tell f g
    → IsUnwritten f.log → IsUnwritten g.log
IsUnwritten-plain by o board tell f g idle plays h =
    subst (λ (l : List NotedEntry). IsUnwritten l) (sym plays.log)
    (All-push (λ (t : NotedEntry). is_placing t.entry.event ≡ false) f.log plays.told h
    (ap (λ (t : NotedEntry). is_placing t.entry.event) plays.is_told ∙ is_placing-plain plays.event o idle plays.answers))

module _ {S : Type 0} (place_of : S → RawPlace) (content : S → Option (List ℕ)) (shape : Shape) where
  -- a plain operation leaves what the operations after it need
  pub MayGoOn-plain : (x : Op) (left : List Op) (o : PlainOp) (by : By) (tell : Type 0) (f : FileView S) (stock : StockView S) (g : FileView S) (next : StockView S)
      → MayGoOn place_of shape (x ∷ left) f stock → DoesPlain place_of content by o tell f stock g next
      → slots_for o ≡ slots_taken x → write_count left ≤ write_count (x ∷ left) → (1 ≤ write_count left → is_no_write o)
      → MayGoOn place_of shape left g next
  MayGoOn-plain x left o by tell f stock g next h d taken fewer idle = record {
    file_shape = d.shape ∙ h.file_shape;
    stock_shape = d.stock_shape ∙ h.stock_shape;
    each = h.each.1;
    few = let few = h.few in let same = ap length d.board in omega (arith, few, same);
    one_each = λ s. let one = h.one_each s in let same = d.conserved (same_place s) in omega (arith, one, same);
    room = λ drive is of. let room = h.room drive is of in let spared = d.spared drive in omega (arith, room, spared, taken);
    one_write = let one = h.one_write in omega (arith, one, fewer);
    unwritten = λ some. IsUnwritten-plain by o stock.board tell f g (idle some) d.plays (h.unwritten (omega (arith, some, fewer)));
  }

  -- so does the loss of a drive
  pub MayGoOn-fail : (drive : Drive) (left : List Op) (by : By) (f : FileView S) (stock : StockView S) (g : FileView S) (next : StockView S)
      → MayGoOn place_of shape (op.Fail drive ∷ left) f stock → DoesFail by drive f stock g next → MayGoOn place_of shape left g next
  MayGoOn-fail drive left by f stock g next h d =
      let after : StockView S = record stock { board = stock.board ++ fail_entry stock.shape stock.board by drive ∷ [] } in
      let made : MayGoOn place_of shape left f after = record {
        file_shape = h.file_shape;
        stock_shape = h.stock_shape;
        each = h.each.1;
        few = let few = h.few in let more = length-append stock.board (fail_entry stock.shape stock.board by drive ∷ []) in omega (arith, few, more);
        one_each = h.one_each;
        room = λ d is of. let room = h.room d is of in omega (arith, room);
        one_write = h.one_write;
        unwritten = h.unwritten;
      } in
      subst (λ (k : StockView S). MayGoOn place_of shape left g k) (sym d.stock_is)
      (subst (λ (k : FileView S). MayGoOn place_of shape left k after) (sym d.file_is) made)
