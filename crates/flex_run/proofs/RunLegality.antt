-- A whole run's logs are legal.
use Rattle.std.proofs.Common.{◌≡◌, ℕ, ◌+◌, ◌<◌, ◌≤◌, ◌==◌, nat_lt, Bool, true, false, cond, ◌&&◌, ◌||◌, List, [], ◌∷◌, count_by, Some, slice_get, refl, ap, sym, ◌∙◌, subst, arith}
use Rattle.std.specs.List.{AllByRecursion}
use Rattle.std.proofs.lemmas.Bool.Decides.{nat_tests}
use Rattle.std.proofs.lemmas.List.Sums.{sum_by-cons}
use Rattle.domains.specs.Level.{two_copies}
use Rattle.domains.specs.declared.by.By.{By}
use Rattle.board_history.specs.declared.entry.BoardEntry.{BoardEntry}
use Rattle.file_history.specs.World.{world_of}
use Rattle.file_history.specs.Refusals.{is_no_room}
use Rattle.file_history.specs.Step.{IsLegalLogWhere}
use Rattle.file_history.proofs.HistoryGrowth.{IsLegalFrom-where}
use Rattle.file_history.specs.declared.entry.FileEntry.{FileEntry}
use Rattle.file_history.specs.declared.entry.NotedEntry.{NotedEntry}
use Rattle.scenario.specs.declared.op.Op.{Op}
use Rattle.scenario.specs.declared.scenario.FileDecl.{FileDecl}
use Rattle.scenario.specs.declared.scenario.Scenario.{Scenario}
use Rattle.first_form.specs.FirstForm.{IsFirstForm}
use Rattle.report.specs.Script.{noted_entries, noted_in, FitsScript, board_calls, file_calls, numbers_where, is_for_board, is_for_file, is_earlier, FollowsScript, HasSerialEpochs, EpochsGoOn, IsFileEntry}
use Rattle.report.specs.Legal.{AreLegalFiles, IsLegalRunWhere}
use Rattle.report.specs.declared.logs.Logs.{Logs}
use Rattle.flex_run.specs.RunProgress.{entries_of, HasLogs}
use Rattle.flex_run.specs.RunReport.{HasRoomThroughout}
use Rattle.flex_run.proofs.ListGrowth.{All-map}

-- the logs of a scenario with one file
abbrev pub logs_of : Scenario → List BoardEntry → List NotedEntry → Logs
logs_of s board log = record { scenario = s; board = board; files = entries_of log ∷ [] }

pub noted_entries-entries : (log : List NotedEntry) (s : Scenario) → AllByRecursion (λ (t : NotedEntry). noted_in s t.entry ≡ t) log → noted_entries s (entries_of log) ≡ log
noted_entries-entries [] s all = refl
noted_entries-entries (t ∷ ts) s all =
    ap (λ (u : NotedEntry). u ∷ noted_entries s (entries_of ts)) all.0 ∙ ap (λ (l : List NotedEntry). t ∷ l) (noted_entries-entries ts s all.1)

-- the only element of a list
only : {X : Type 0} (x y : X) (at : ℕ) → slice_get (x ∷ []) at ≡ Some y → (at ≡ 0) × (x ≡ y)
only x y ℕ.zero h = (refl, cc)
only x y (ℕ.suc at) h = absurd (cc)

-- what holds of each element holds of the one at this place
All-at : {X : Type 0} (P : X → Type 0) (xs : List X) (at : ℕ) (x : X) → AllByRecursion P xs → slice_get xs at ≡ Some x → P x
All-at P [] at x all h = absurd (cc)
All-at P (y ∷ ys) ℕ.zero x all h = let same : y ≡ x = cc in subst P same all.0
All-at P (y ∷ ys) (ℕ.suc at) x all h = All-at P ys at x all.1 h

follows_board : (script its : List Op) (board : List BoardEntry) (actor : ℕ) → actor ≡ 0 → script ≡ its
    → board_calls 1 board ≡ numbers_where script 1 is_for_board → board_calls (actor + 1) board ≡ numbers_where its 1 is_for_board
follows_board script its board actor first same h =
    ap (λ (n : ℕ). board_calls (n + 1) board) first ∙ h ∙ ap (λ (l : List Op). numbers_where l 1 is_for_board) same

follows_file : (script its : List Op) (log entries : List FileEntry) (actor file : ℕ) → actor ≡ 0 → file ≡ 0 → script ≡ its → log ≡ entries
    → file_calls 1 log ≡ numbers_where script 1 (is_for_file 0) → file_calls (actor + 1) entries ≡ numbers_where its 1 (is_for_file file)
follows_file script its log entries actor file first front same its_log h =
    ap (λ (n : ℕ). file_calls (n + 1) entries) first ∙ ap (λ (l : List FileEntry). file_calls 1 l) (sym its_log) ∙ h
    ∙ ap (λ (l : List Op). numbers_where l 1 (is_for_file 0)) same
    ∙ ap (λ (n : ℕ). numbers_where its 1 (is_for_file n)) (sym front)

follows : (s : Scenario) (script : List Op) (board : List BoardEntry) (log : List NotedEntry) → s.actors ≡ script ∷ []
    → board_calls 1 board ≡ numbers_where script 1 is_for_board
    → file_calls 1 (entries_of log) ≡ numbers_where script 1 (is_for_file 0)
    → FollowsScript (logs_of s board log)
follows s script board log one on_board on_file = record {
  board = λ actor its here.
      let found = only script its actor (ap (λ (l : List (List Op)). slice_get l actor) (sym one) ∙ here) in
      follows_board script its board actor found.0 found.1 on_board;
  files = λ actor file its entries here there.
      let found = only script its actor (ap (λ (l : List (List Op)). slice_get l actor) (sym one) ∙ here) in
      let its_log = only (entries_of log) entries file there in
      follows_file script its (entries_of log) entries actor file found.0 its_log.0 found.1 its_log.1 on_file;
}

-- of one actor's operations, what is earlier than one is earlier than a later one
later_too : (x a b : By) → a.actor ≡ b.actor → a.call < b.call → is_earlier x a ≡ true → is_earlier x b ≡ true
later_too x a b same later earlier =
    let less : x.call ≤ a.call = at_most x a earlier in
    let yes : nat_lt x.call b.call ≡ true = grind (arith, nat_tests, less, later) in
    ap (λ v. v || ((x.call == b.call) && nat_lt x.actor b.actor)) yes
  where
    at_most : (x a : By) → is_earlier x a ≡ true → x.call ≤ a.call
    at_most x a h = grind (arith, nat_tests, h)

at_most_more : (p q : Bool) → (p ≡ true → q ≡ true) → (let n : ℕ = cond p 1 0 in n) ≤ (let n : ℕ = cond q 1 0 in n)
at_most_more true true h = omega arith
at_most_more false true h = omega arith
at_most_more false false h = omega arith
at_most_more true false h = absurd (let wrong = h refl in cc)

counts_more : (xs : List BoardEntry) (p q : BoardEntry → Bool) → ((x : BoardEntry) → p x ≡ true → q x ≡ true) → count_by p xs ≤ count_by q xs
counts_more [] p q h = omega arith
counts_more (x ∷ xs) p q h =
    let rest = counts_more xs p q h in
    let here = at_most_more (p x) (q x) (h x) in
    let first = sum_by-cons (λ (y : BoardEntry). cond (p y) 1 0) x xs in
    let second = sum_by-cons (λ (y : BoardEntry). cond (q y) 1 0) x xs in
    omega (arith, rest, here, first, second)

abbrev IsSerialEntry : List BoardEntry → FileEntry → Type 0
IsSerialEntry board e = e.epoch ≡ count_by (λ (b : BoardEntry). is_earlier b.by e.by) board

abbrev IsPastEntry : List BoardEntry → FileEntry → Type 0
IsPastEntry board e = (at : ℕ) (o : BoardEntry) → slice_get board at ≡ Some o → o.by.call < e.by.call → at + 1 ≤ e.epoch

-- what holds of each entry of the only file holds of each entry of a file
of_entry : (P : FileEntry → Type 0) (s : Scenario) (board : List BoardEntry) (log : List NotedEntry) (e : FileEntry) → AllByRecursion P (entries_of log)
    → IsFileEntry (logs_of s board log) e → P e
of_entry P s board log e all is =
    let its_log = only (entries_of log) is.2 is.0 is.3 in
    All-at P (entries_of log) is.1 e all (ap (λ (l : List FileEntry). slice_get l is.1) its_log.1 ∙ is.4)

go_on : (s : Scenario) (board : List BoardEntry) (log : List NotedEntry) → AllByRecursion (IsSerialEntry board) (entries_of log)
    → AllByRecursion (IsPastEntry board) (entries_of log) → EpochsGoOn (logs_of s board log)
go_on s board log serial past = record {
  files = λ a b is_a is_b same later.
      let first = of_entry (IsSerialEntry board) s board log a serial is_a in
      let second = of_entry (IsSerialEntry board) s board log b serial is_b in
      let more = counts_more board (λ (o : BoardEntry). is_earlier o.by a.by) (λ (o : BoardEntry). is_earlier o.by b.by) (λ o h. later_too o.by a.by b.by same later h) in
      omega (arith, first, second, more);
  board = λ at o e here is same later. of_entry (IsPastEntry board) s board log e past is at o here later;
}

-- the epochs are serial
pub HasSerialEpochs-run : (known : Type 0) (s : Scenario) (script : List Op) (board : List BoardEntry) (log : List NotedEntry) → HasLogs known s script board log
    → HasSerialEpochs (logs_of s board log)
HasSerialEpochs-run known s script board log h =
    (All-map (IsSerialEntry board) (λ (t : NotedEntry). t.entry) log h.serial, tt)

-- no drive lacked a slot
pub HasRoom-run : (known : Type 0) (s : Scenario) (script : List Op) (board : List BoardEntry) (log : List NotedEntry) → HasLogs known s script board log
    → HasRoomThroughout (logs_of s board log)
HasRoom-run known s script board log h =
    (All-map (λ (e : FileEntry). is_no_room e.event ≡ false) (λ (t : NotedEntry). t.entry) log h.roomy, tt)

-- the logs of a whole script are those of a legal run
pub IsLegalRun-run : (known other : Type 0) (s : Scenario) (script : List Op) (board : List BoardEntry) (log : List NotedEntry) → IsFirstForm s → s.actors ≡ script ∷ []
    → (other → known) → HasLogs known s script board log → IsLegalRunWhere other (logs_of s board log)
IsLegalRun-run known other s script board log form one from h = record {
  board = h.orders;
  files =
      let same_log = noted_entries-entries log s h.noted in
      let legal = subst (λ (l : List NotedEntry). IsLegalLogWhere other (world_of s.shape board two_copies) l) (sym same_log)
      (IsLegalFrom-where log known other (world_of s.shape board two_copies) [] from h.legal) in
      let fits = All-map (FitsScript s 0) (λ (t : NotedEntry). t.entry) log h.fits in
      subst (λ (fs : List FileDecl). AreLegalFiles fs (entries_of log ∷ []) other 0 (logs_of s board log)) (sym form.files) (legal, fits, tt);
  script = follows s script board log one h.board_calls h.file_calls;
  epochs = go_on s board log (All-map (IsSerialEntry board) (λ (t : NotedEntry). t.entry) log h.serial) (All-map (IsPastEntry board) (λ (t : NotedEntry). t.entry) log h.past);
}
