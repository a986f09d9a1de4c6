-- The logs after one more operation.
use Rattle.std.proofs.Common.{◌≡◌, ℕ, ◌+◌, ◌<◌, ◌≤◌, ◌==◌, ◌⊎◌, inl, inr, nat_lt, Bool, true, false, cond, ◌&&◌, ◌||◌, if◌then◌else◌, List, [], ◌∷◌, ◌++◌, length, count_by, Option, Some, slice_get, refl, ap, sym, ◌∙◌, subst, arith, length-append}
use Rattle.std.specs.List.{AllByRecursion}
use Rattle.std.specs.Option.{option_map_or}
use Rattle.std.proofs.lemmas.List.{append-nil}
use Rattle.std.proofs.lemmas.List.Sums.{count_by-le-length}
use Rattle.std.proofs.lemmas.Grind.{common_steps}
use Rattle.domains.specs.Level.{two_copies}
use Rattle.domains.specs.declared.by.By.{By}
use Rattle.board_history.specs.Board.{IsBoardStep}
use Rattle.board_history.specs.declared.entry.BoardEntry.{BoardEntry}
use Rattle.file_history.specs.World.{world_of, moment_at}
use Rattle.file_history.specs.Layout.{layout_after}
use Rattle.file_history.specs.Refusals.{is_no_room}
use Rattle.file_history.specs.Step.{IsEvent, ShowsBytes}
use Rattle.file_history.specs.declared.entry.FileEvent.{FileEvent}
use Rattle.file_history.specs.declared.entry.NotedEntry.{NotedEntry}
use Rattle.scenario.specs.Ops.{payload_of}
use Rattle.scenario.specs.declared.op.Op.{Op}
use Rattle.scenario.specs.declared.scenario.Scenario.{Scenario}
use Rattle.report.specs.Script.{op_at, noted_in, FitsScript, FitsOrder, AnswersOp, is_operation_entry, file_calls, board_calls, is_for_board, is_for_file, numbers_where, is_earlier}
use Rattle.flex_run.specs.Operations.{by_call}
use Rattle.flex_run.specs.RunProgress.{entries_of, IsDone, IsSerial, IsPast, HasLogs}
use Rattle.flex_run.proofs.ListGrowth.{All-push, All-weaken, All-both, map-push, count_by-push}
use Rattle.flex_run.proofs.ScriptCalls.{numbers_where-push, board_calls-push, file_calls-push}
use Rattle.file_history.proofs.HistoryGrowth.{IsLegalFrom-append, IsLegalFrom-push}
use Rattle.flex_run.proofs.OrderLogs.{AreLegalOrders-push}

pub IsDone-more : (n : ℕ) (by : By) → IsDone n by → IsDone (n + 1) by
IsDone-more n by h = record { actor = h.actor; call = omega (arith, h.call) }

-- an operation that was done is earlier than the next
pub is_earlier-next : (n : ℕ) (by : By) → IsDone n by → is_earlier by (by_call (n + 1)) ≡ true
is_earlier-next n by h = let lt : nat_lt by.call (n + 1) ≡ true = grind (arith, h.call) in ap (λ b. b || ((by.call == n + 1) && nat_lt by.actor 1)) lt

-- the next operation is not earlier than one that was done
pub next-is_earlier : (n : ℕ) (by : By) → IsDone n by → is_earlier (by_call (n + 1)) by ≡ false
next-is_earlier n by h =
    let lt : nat_lt (n + 1) by.call ≡ false = grind (arith, h.call) in
    let eq : (n + 1 == by.call) ≡ false = grind (arith, h.call) in
    rw (lt, eq) refl

pub count_by-all : {X : Type 0} (p : X → Bool) (xs : List X) → AllByRecursion (λ x. p x ≡ true) xs → count_by p xs ≡ length xs
count_by-all p [] all = refl
count_by-all p (x ∷ xs) all = let rest = count_by-all p xs all.1 in let here = all.0 in grind (arith, common_steps, rest, here)

-- the next entry's epoch is the number of all the board's entries
pub IsSerial-next : (n : ℕ) (board : List BoardEntry) → AllByRecursion (λ (b : BoardEntry). IsDone n b.by) board
    → length board ≡ count_by (λ (b : BoardEntry). is_earlier b.by (by_call (n + 1))) board
IsSerial-next n board done =
    sym (count_by-all (λ (b : BoardEntry). is_earlier b.by (by_call (n + 1))) board
    (All-weaken (λ (b : BoardEntry). IsDone n b.by) (λ (b : BoardEntry). is_earlier b.by (by_call (n + 1)) ≡ true) (λ b h. is_earlier-next n b.by h) board done))

pub IsReached-all : (board : List BoardEntry) (log : List NotedEntry) → AllByRecursion (IsSerial board) log
    → AllByRecursion (λ (t : NotedEntry). t.entry.epoch ≤ length board) log
IsReached-all board log serial =
    All-weaken (IsSerial board) (λ (t : NotedEntry). t.entry.epoch ≤ length board)
    (λ t e. omega (arith, e, count_by-le-length (λ (b : BoardEntry). is_earlier b.by t.entry.by) board)) log serial

pub slice_get-within : {X : Type 0} (xs : List X) (at : ℕ) (x : X) → slice_get xs at ≡ Some x → at < length xs
slice_get-within [] ℕ.zero x h = absurd (cc)
slice_get-within [] (ℕ.suc at) x h = absurd (cc)
slice_get-within (y ∷ ys) ℕ.zero x h = omega arith
slice_get-within (y ∷ ys) (ℕ.suc at) x h = let rest = slice_get-within ys at x h in omega arith

-- an element of a list that grew is an old one or the new one
pub slice_get-push : {X : Type 0} (xs : List X) (y : X) (at : ℕ) (x : X) → slice_get (xs ++ y ∷ []) at ≡ Some x → (slice_get xs at ≡ Some x) ⊎ (x ≡ y)
slice_get-push [] y ℕ.zero x h = inr (cc)
slice_get-push [] y (ℕ.suc at) x h = absurd (cc)
slice_get-push (z ∷ zs) y ℕ.zero x h = inl h
slice_get-push (z ∷ zs) y (ℕ.suc at) x h = slice_get-push zs y at x h

-- the entry of the next operation
abbrev pub next_entry : ℕ → List BoardEntry → FileEvent → List ℕ → NotedEntry
next_entry n board event payload = record {
  entry = record { by = by_call (n + 1); epoch = length board; event = event };
  payload = payload;
}

-- an operation on the file makes the next entry of its log
pub record IsFileOp (s : Scenario) (done : List Op) (o : Op) (event : FileEvent) (payload : List ℕ) : Type 0 where
  pub known : op_at s (by_call (length done + 1)) ≡ Some o
  pub answers : AnswersOp 0 o event
  pub payload_is : payload_of o ≡ payload
  pub ends : is_operation_entry event ≡ true
  pub of_file : is_for_file 0 o ≡ true
  pub of_board : is_for_board o ≡ false
  pub room : is_no_room event ≡ false

numbers_more : (done : List Op) (o : Op) (p : Op → Bool) → p o ≡ true → numbers_where (done ++ o ∷ []) 1 p ≡ numbers_where done 1 p ++ (length done + 1) ∷ []
numbers_more done o p passes =
    let e : 1 + length done ≡ length done + 1 = omega arith in
    numbers_where-push done o 1 p ∙ ap (λ b. numbers_where done 1 p ++ (if b then (1 + length done) ∷ [] else [])) passes
    ∙ ap (λ n. numbers_where done 1 p ++ n ∷ []) e

numbers_same : (done : List Op) (o : Op) (p : Op → Bool) → p o ≡ false → numbers_where (done ++ o ∷ []) 1 p ≡ numbers_where done 1 p
numbers_same done o p fails =
    numbers_where-push done o 1 p ∙ ap (λ b. numbers_where done 1 p ++ (if b then (1 + length done) ∷ [] else [])) fails
    ∙ append-nil (numbers_where done 1 p)

length_more : {X : Type 0} (xs : List X) (x : X) → length (xs ++ x ∷ []) ≡ length xs + 1
length_more xs x = length-append xs (x ∷ [])

file_calls_more : (log : List NotedEntry) (t : NotedEntry) (actor : ℕ) → t.entry.by.actor ≡ 1 → is_operation_entry t.entry.event ≡ true
    → file_calls 1 (entries_of (log ++ t ∷ [])) ≡ file_calls 1 (entries_of log) ++ t.entry.by.call ∷ []
file_calls_more log t actor one ends =
    ap (file_calls 1) (map-push (λ (u : NotedEntry). u.entry) log t) ∙ file_calls-push (entries_of log) t.entry 1
    ∙ ap (λ b. file_calls 1 (entries_of log) ++ (if b then t.entry.by.call ∷ [] else []))
    (ap (λ n. (n == 1) && is_operation_entry t.entry.event) one ∙ ends)

pub HasLogs-file : (known : Type 0) (s : Scenario) (done : List Op) (board : List BoardEntry) (log : List NotedEntry) (o : Op) (event : FileEvent) (payload : List ℕ)
    → HasLogs known s done board log → IsFileOp s done o event payload
    → IsEvent (moment_at (world_of s.shape board two_copies) (length board)) log (layout_after two_copies log) payload event
    → (known → ShowsBytes log event)
    → HasLogs known s (done ++ o ∷ []) board (log ++ next_entry (length done) board event payload ∷ [])
HasLogs-file known s done board log o event payload h op legal shown =
    let n : ℕ = length done in
    let t : NotedEntry = next_entry n board event payload in
    let reached = IsReached-all board log h.serial in
    let many = length_more done o in
    record {
      orders = h.orders;
      legal = IsLegalFrom-push log known (world_of s.shape board two_copies) [] t h.legal
          (record { reached = omega arith; later = reached; event = legal; shown = shown });
      roomy = All-push (λ (u : NotedEntry). is_no_room u.entry.event ≡ false) log t h.roomy op.room;
      fits = All-push (λ (u : NotedEntry). FitsScript s 0 u.entry) log t h.fits (record { operation = o; known = op.known; answers = op.answers });
      noted = All-push (λ (u : NotedEntry). noted_in s u.entry ≡ u) log t h.noted
          (ap (λ (found : Option Op). let made : NotedEntry = record { entry = t.entry; payload = option_map_or payload_of found [] } in made) op.known
          ∙ ap (λ (bytes : List ℕ). let made : NotedEntry = record { entry = t.entry; payload = bytes } in made) op.payload_is);
      board_calls = h.board_calls ∙ sym (numbers_same done o is_for_board op.of_board);
      file_calls = file_calls_more log t 1 refl op.ends ∙ ap (λ (l : List ℕ). l ++ (n + 1) ∷ []) h.file_calls ∙ sym (numbers_more done o (is_for_file 0) op.of_file);
      serial = All-push (IsSerial board) log t h.serial (IsSerial-next n board h.board_by);
      past = All-push (IsPast board) log t h.past (λ at b here earlier. let within = slice_get-within board at b here in omega arith);
      board_by = subst (λ (m : ℕ). AllByRecursion (λ (b : BoardEntry). IsDone m b.by) board) (sym many)
          (All-weaken (λ (b : BoardEntry). IsDone n b.by) (λ (b : BoardEntry). IsDone (n + 1) b.by) (λ b d. IsDone-more n b.by d) board h.board_by);
      file_by = subst (λ (m : ℕ). AllByRecursion (λ (u : NotedEntry). IsDone m u.entry.by) (log ++ t ∷ [])) (sym many)
          (All-push (λ (u : NotedEntry). IsDone (n + 1) u.entry.by) log t
          (All-weaken (λ (u : NotedEntry). IsDone n u.entry.by) (λ (u : NotedEntry). IsDone (n + 1) u.entry.by) (λ u d. IsDone-more n u.entry.by d) log h.file_by)
          (record { actor = refl; call = omega arith }));
    }

-- an operation on the board makes the next entry of its log
pub record IsBoardOp (s : Scenario) (done : List Op) (board : List BoardEntry) (o : Op) (e : BoardEntry) : Type 0 where
  pub by : e.by ≡ by_call (length done + 1)
  pub step : IsBoardStep s.shape board e
  pub fits : FitsOrder s e
  pub of_file : is_for_file 0 o ≡ false
  pub of_board : is_for_board o ≡ true

board_calls_more : (board : List BoardEntry) (e : BoardEntry) (n : ℕ) → e.by ≡ by_call (n + 1)
    → board_calls 1 (board ++ e ∷ []) ≡ board_calls 1 board ++ (n + 1) ∷ []
board_calls_more board e n by =
    board_calls-push board e 1 ∙ ap (λ (b : By). board_calls 1 board ++ (if b.actor == 1 then b.call ∷ [] else [])) by

IsSerial-board : (board : List BoardEntry) (e : BoardEntry) (n : ℕ) → e.by ≡ by_call (n + 1) → (t : NotedEntry) → IsSerial board t → IsDone n t.entry.by
    → IsSerial (board ++ e ∷ []) t
IsSerial-board board e n by t serial done =
    let late : is_earlier e.by t.entry.by ≡ false = ap (λ (b : By). is_earlier b t.entry.by) by ∙ next-is_earlier n t.entry.by done in
    let more = count_by-push (λ (b : BoardEntry). is_earlier b.by t.entry.by) board e in
    let none = ap (λ (b : Bool). let n : ℕ = cond b 1 0 in n) late in
    omega (arith, serial, more, none)

IsPast-board : (board : List BoardEntry) (e : BoardEntry) (n : ℕ) → e.by ≡ by_call (n + 1) → (t : NotedEntry) → IsPast board t → IsDone n t.entry.by
    → IsPast (board ++ e ∷ []) t
IsPast-board board e n by t past done at o here earlier =
    elim (slice_get-push board e at o here) [
      | inl old ↦ past at o old earlier
      | inr new ↦
          let call : o.by.call ≡ n + 1 = ap (λ (b : BoardEntry). b.by.call) new ∙ ap (λ (b : By). b.call) by in
          let last = done.call in
          absurd (omega (arith, call, last, earlier))
    ]

pub HasLogs-board : (known : Type 0) (s : Scenario) (done : List Op) (board : List BoardEntry) (log : List NotedEntry) (o : Op) (e : BoardEntry)
    → HasLogs known s done board log → IsBoardOp s done board o e → HasLogs known s (done ++ o ∷ []) (board ++ e ∷ []) log
HasLogs-board known s done board log o e h op =
    let n : ℕ = length done in
    let many = length_more done o in
    record {
      orders = AreLegalOrders-push board [] s e h.orders op.step op.fits;
      legal = IsLegalFrom-append log known s.shape two_copies board (e ∷ []) [] (IsReached-all board log h.serial) h.legal;
      roomy = h.roomy;
      fits = h.fits;
      noted = h.noted;
      board_calls = board_calls_more board e n op.by ∙ ap (λ (l : List ℕ). l ++ (n + 1) ∷ []) h.board_calls ∙ sym (numbers_more done o is_for_board op.of_board);
      file_calls = h.file_calls ∙ sym (numbers_same done o (is_for_file 0) op.of_file);
      serial = All-both (IsSerial board) (λ (t : NotedEntry). IsDone n t.entry.by) (IsSerial (board ++ e ∷ [])) (IsSerial-board board e n op.by) log h.serial h.file_by;
      past = All-both (IsPast board) (λ (t : NotedEntry). IsDone n t.entry.by) (IsPast (board ++ e ∷ [])) (IsPast-board board e n op.by) log h.past h.file_by;
      board_by = subst (λ (m : ℕ). AllByRecursion (λ (b : BoardEntry). IsDone m b.by) (board ++ e ∷ [])) (sym many)
          (All-push (λ (b : BoardEntry). IsDone (n + 1) b.by) board e
          (All-weaken (λ (b : BoardEntry). IsDone n b.by) (λ (b : BoardEntry). IsDone (n + 1) b.by) (λ b d. IsDone-more n b.by d) board h.board_by)
          (subst (λ (b : By). IsDone (n + 1) b) (sym op.by) (record { actor = refl; call = omega arith })));
      file_by = subst (λ (m : ℕ). AllByRecursion (λ (u : NotedEntry). IsDone m u.entry.by) log) (sym many)
          (All-weaken (λ (u : NotedEntry). IsDone n u.entry.by) (λ (u : NotedEntry). IsDone (n + 1) u.entry.by) (λ u d. IsDone-more n u.entry.by d) log h.file_by);
    }
