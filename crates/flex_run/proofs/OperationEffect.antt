-- What one operation of the script does to the logs, and to what the later ones may need.
use Rattle.std.proofs.Common.{◌≡◌, ℕ, ◌+◌, ◌<◌, ◌≤◌, ◌==◌, Bool, true, false, ◌&&◌, List, [], ◌∷◌, ◌++◌, length, take, drop, get_or, Option, Some, refl, ap, sym, ◌∙◌, subst, arith, add-one}
use Rattle.std.proofs.Math.Seq.{drop-cons}
use Rattle.std.proofs.lemmas.List.{take_more, length-take-le}
use Rattle.std.proofs.lemmas.Option.{slice_get-get_or}
use Rattle.flex_io.specs.declared.raw_place.RawPlace.{RawPlace}
use Rattle.domains.specs.Drive.{Drive}
use Rattle.domains.specs.Shape.{Shape, is_of}
use Rattle.domains.specs.Level.{two_copies}
use Rattle.domains.specs.declared.by.By.{By}
use Rattle.board_history.specs.Board.{is_up, state_after}
use Rattle.board_history.specs.declared.entry.BoardEntry.{BoardEntry}
use Rattle.file_history.specs.World.{world_of, moment_at}
use Rattle.file_history.specs.Layout.{layout_after}
use Rattle.file_history.specs.Step.{IsEvent}
use Rattle.plain_file.specs.Plain.{StockView, FileView, HasRoom, plain_payload}
use Rattle.file_history.specs.declared.entry.NotedEntry.{NotedEntry}
use Rattle.plain_file.specs.declared.op.PlainOp.{PlainOp}
use Rattle.plain_file.specs.declared.op.PlainOp.TheVariants as plain
use Rattle.scenario.specs.Ops.{payload_of}
use Rattle.scenario.specs.declared.op.Op.{Op}
use Rattle.scenario.specs.declared.op.Op.TheVariants as op
use Rattle.scenario.specs.declared.scenario.Scenario.{Scenario}
use Rattle.report.specs.Script.{op_at, is_for_board, is_for_file}
use Rattle.flex_run.specs.Operations.{by_call, fail_entry, slots_taken, MayDo, DoesPlain, DoesFail, Does}
use Rattle.flex_run.specs.RunProgress.{HasLogs, MayGoOn}
use Rattle.flex_run.proofs.ScriptCalls.{op_at-one}
use Rattle.flex_run.proofs.PlainEvents.{IsPlain, AnswersOp-plain, is_operation_entry-plain, is_no_room-plain}
use Rattle.flex_run.proofs.OperationLogs.{next_entry, IsFileOp, IsBoardOp, HasLogs-file, HasLogs-board}
use Rattle.flex_run.proofs.RestOfScript.{MayGoOn-plain, MayGoOn-fail}

payload_of-plain : (x : Op) (o : PlainOp) → IsPlain x o → payload_of x ≡ plain_payload o
payload_of-plain (op.Create file) o h = sym (ap plain_payload h.1)
payload_of-plain (op.WriteText file offset text) o h = sym (ap plain_payload h.2)
payload_of-plain (op.Read file offset len) o h = sym (ap plain_payload h.1)
payload_of-plain (op.Fail drive) o h = absurd h

is_for_file-plain : (x : Op) (o : PlainOp) → IsPlain x o → is_for_file 0 x ≡ true
is_for_file-plain (op.Create file) o h = ap (λ n. n == 0) h.0
is_for_file-plain (op.WriteText file offset text) o h = ap (λ n. n == 0) h.0
is_for_file-plain (op.Read file offset len) o h = ap (λ n. n == 0) h.0
is_for_file-plain (op.Fail drive) o h = absurd h

is_for_board-plain : (x : Op) (o : PlainOp) → IsPlain x o → is_for_board x ≡ false
is_for_board-plain (op.Create file) o h = refl
is_for_board-plain (op.WriteText file offset text) o h = refl
is_for_board-plain (op.Read file offset len) o h = refl
is_for_board-plain (op.Fail drive) o h = absurd h

module _ {S : Type 0} (place_of : S → RawPlace) (content : S → Option (List ℕ)) (at_start now : Type 0) (s : Scenario) (done : List Op) (left : List Op) where
  -- the logs after an operation, and what the operations after it need
  pub record GoesOn (o : Op) (g : FileView S) (next : StockView S) : Type 0 where
    pub logs : HasLogs at_start s (done ++ o ∷ []) next.board g.log
    pub may : MayGoOn place_of s.shape left g next

  logs_plain : (x : Op) (o : PlainOp) (f : FileView S) (stock : StockView S) (g : FileView S) (next : StockView S)
      → op_at s (by_call (length done + 1)) ≡ Some x → (at_start → now) → f.shape ≡ s.shape
      → HasLogs at_start s done stock.board f.log → IsPlain x o
      → DoesPlain place_of content (by_call (length done + 1)) o now f stock g next
      → HasLogs at_start s (done ++ x ∷ []) next.board g.log
  logs_plain x o f stock g next known tell shape h is d =
      let plays = d.plays in
      let move : IsFileOp s done x plays.event (plain_payload o) = record {
        known = known;
        answers = AnswersOp-plain plays.event x o is plays.answers;
        payload_is = payload_of-plain x o is;
        ends = is_operation_entry-plain plays.event o plays.answers;
        of_file = is_for_file-plain x o is;
        of_board = is_for_board-plain x o is;
        room = is_no_room-plain plays.event o plays.answers;
      } in
      let legal =
      subst (λ (c : Shape). IsEvent (moment_at (world_of c stock.board two_copies) (length stock.board)) f.log (layout_after two_copies f.log) (plain_payload o) plays.event)
      shape plays.legal in
      let made = HasLogs-file at_start s done stock.board f.log x plays.event (plain_payload o) h move legal (λ known. plays.shown (tell known)) in
      let grown : g.log ≡ f.log ++ next_entry (length done) stock.board plays.event (plain_payload o) ∷ [] =
      plays.log ∙ ap (λ (t : NotedEntry). f.log ++ t ∷ []) plays.is_told in
      subst (λ (b : List BoardEntry). HasLogs at_start s (done ++ x ∷ []) b g.log) (sym d.board)
      (subst (λ (l : List NotedEntry). HasLogs at_start s (done ++ x ∷ []) stock.board l) (sym grown) made)

  logs_fail : (drive : Drive) (f : FileView S) (stock : StockView S) (g : FileView S) (next : StockView S)
      → op_at s (by_call (length done + 1)) ≡ Some (op.Fail drive) → stock.shape ≡ s.shape → is_of s.shape drive ≡ true
      → HasLogs at_start s done stock.board f.log
      → DoesFail (by_call (length done + 1)) drive f stock g next
      → HasLogs at_start s (done ++ op.Fail drive ∷ []) next.board g.log
  logs_fail drive f stock g next known shape of h d =
      let by : By = by_call (length done + 1) in
      let e : BoardEntry = fail_entry s.shape stock.board by drive in
      let move : IsBoardOp s done stock.board (op.Fail drive) e = record {
        by = refl;
        step = record { within = of; effect = refl };
        fits = record { operation = op.Fail drive; known = known; answers = refl };
        of_file = refl;
        of_board = refl;
      } in
      let made = HasLogs-board at_start s done stock.board f.log (op.Fail drive) e h move in
      let grown : next.board ≡ stock.board ++ e ∷ [] =
      ap (λ (k : StockView S). k.board) d.stock_is ∙ ap (λ (c : Shape). stock.board ++ fail_entry c stock.board by drive ∷ []) shape in
      let same : g.log ≡ f.log = ap (λ (k : FileView S). k.log) d.file_is in
      subst (λ (b : List BoardEntry). HasLogs at_start s (done ++ op.Fail drive ∷ []) b g.log) (sym grown)
      (subst (λ (l : List NotedEntry). HasLogs at_start s (done ++ op.Fail drive ∷ []) (stock.board ++ e ∷ []) l) (sym same) made)

  pub goes_on : (o : Op) (f : FileView S) (stock : StockView S) (g : FileView S) (next : StockView S)
      → op_at s (by_call (length done + 1)) ≡ Some o → (at_start → now)
      → HasLogs at_start s done stock.board f.log → MayGoOn place_of s.shape (o ∷ left) f stock
      → Does o place_of content (by_call (length done + 1)) now f stock g next
      → GoesOn o g next
  goes_on (op.Create file) f stock g next known tell h m d = record {
    logs = logs_plain (op.Create file) plain.Create f stock g next known tell m.file_shape h (m.each.0, refl) d;
    may = MayGoOn-plain place_of content s.shape (op.Create file) left plain.Create (by_call (length done + 1)) now f stock g next m d refl (omega arith) (λ some. tt);
  }
  goes_on (op.WriteText file offset text) f stock g next known tell h m d = record {
    logs = logs_plain (op.WriteText file offset text) (plain.Write text) f stock g next known tell m.file_shape h (m.each.0.0, m.each.0.1, refl) d;
    may = MayGoOn-plain place_of content s.shape (op.WriteText file offset text) left (plain.Write text) (by_call (length done + 1)) now f stock g next m d refl
        (omega arith) (λ some. let one = m.one_write in absurd (omega (arith, one, some)));
  }
  goes_on (op.Read file offset len) f stock g next known tell h m d = record {
    logs = logs_plain (op.Read file offset len) (plain.Read offset len) f stock g next known tell m.file_shape h (m.each.0.0, refl) d;
    may = MayGoOn-plain place_of content s.shape (op.Read file offset len) left (plain.Read offset len) (by_call (length done + 1)) now f stock g next m d refl
        (omega arith) (λ some. tt);
  }
  goes_on (op.Fail drive) f stock g next known tell h m d = record {
    logs = logs_fail drive f stock g next known m.stock_shape m.each.0.1 h d;
    may = MayGoOn-fail place_of content s.shape drive left (by_call (length done + 1)) f stock g next m d;
  }

first_true : (a b : Bool) → (a && b) ≡ true → a ≡ true
first_true true b h = refl
first_true false b h = absurd (cc)

module _ {S : Type 0} (place_of : S → RawPlace) (shape : Shape) (left : List Op) (f : FileView S) (stock : StockView S) where
  -- the next operation may be done
  pub MayDo-next : (o : Op) → MayGoOn place_of shape (o ∷ left) f stock → MayDo o f stock
  MayDo-next (op.Create file) m = tt
  MayDo-next (op.WriteText file offset text) m = (
    m.each.0.2.some,
    subst (λ (c : Shape). length text ≤ c.unit) (sym m.file_shape) m.each.0.3,
    m.unwritten (omega arith),
  )
  MayDo-next (op.Read file offset len) m = tt
  MayDo-next (op.Fail drive) m = subst (λ (c : Shape). is_of c drive ≡ true) (sym m.stock_shape) m.each.0.1

  -- and each drive has the slots that it may take
  pub HasRoom-next : (o : Op) → MayGoOn place_of shape (o ∷ left) f stock → HasRoom place_of (slots_taken o) stock
  HasRoom-next o m = λ d is up.
      let of = first_true (is_of stock.shape d) (is_up (state_after (take (length stock.board) stock.board) d)) up in
      let room = m.room d is (subst (λ (c : Shape). is_of c d ≡ true) m.stock_shape of) in
      omega (arith, room)

-- the operations left begin with the one at this place
pub next_left : (script : List Op) (at : ℕ) (o : Op) → at < length script → o ≡ get_or script at o → drop at script ≡ o ∷ drop (at + 1) script
next_left script at o within here =
    drop-cons script at o within ∙ ap (λ (x : Op). x ∷ drop (ℕ.suc at) script) (sym here) ∙ ap (λ (n : ℕ). o ∷ drop n script) (sym (add-one at))

-- one turn over the script: the operation of this place was done
pub turn : {S : Type 0} (place_of : S → RawPlace) (content : S → Option (List ℕ)) (at_start now : Type 0) (s : Scenario) (script : List Op) (at call : ℕ) (o : Op)
    (f : FileView S) (stock : StockView S) (g : FileView S) (next : StockView S)
    → s.actors ≡ script ∷ [] → at < length script → o ≡ get_or script at o → call ≡ at
    → HasLogs at_start s (take at script) stock.board f.log → MayGoOn place_of s.shape (drop at script) f stock → (at_start → now)
    → Does o place_of content (by_call (call + 1)) now f stock g next
    → HasLogs at_start s (take (at + 1) script) next.board g.log × MayGoOn place_of s.shape (drop (at + 1) script) g next
turn place_of content at_start now s script at call o f stock g next one within here same logs may tell does =
    let many : length (take at script) ≡ at = length-take-le at script (omega arith) in
    let found = slice_get-get_or script at o within ∙ ap (λ (x : Op). Some x) (sym here) in
    let known = subst (λ (n : ℕ). op_at s (by_call (n + 1)) ≡ Some o) (sym many) (op_at-one s script o at one found) in
    let front = take_more script at o within ∙ ap (λ (x : Op). take at script ++ x ∷ []) (sym here) in
    let back = next_left script at o within here in
    let did = subst (λ (n : ℕ). Does o place_of content (by_call (n + 1)) now f stock g next) (same ∙ sym many) does in
    let gone = goes_on place_of content at_start now s (take at script) (drop (at + 1) script) o f stock g next known tell logs
    (subst (λ (l : List Op). MayGoOn place_of s.shape l f stock) back may) did in
    (subst (λ (l : List Op). HasLogs at_start s l next.board g.log) (sym front) gone.logs, gone.may)
