-- Where operations have their entries in the serial order, each actor keeps to its script.
use Rattle.std.proofs.Common.{◌≡◌, ℕ, zero, suc, ◌+◌, ◌<◌, Bool, true, false, ◌&&◌, eqb, List, [], ◌∷◌, length, map, Option, Some, slice_get, refl, sym, ap, subst, ◌∙◌, arith}
use Rattle.std.specs.List.{count_by}
use Rattle.std.specs.Option.{option_map, option_map_or}
use Rattle.std.proofs.lemmas.Bool.{eq-eqb}
use Rattle.std.proofs.lemmas.Option.{slice_get-map, slice_get_within}
use Rattle.board_history.specs.declared.entry.BoardEntry.{BoardEntry}
use Rattle.domains.specs.Counts.{one_if}
use Rattle.domains.specs.declared.by.By.{By}
use Rattle.domains.proofs.CountLemmas.{count_by-cons}
use Rattle.file_history.specs.declared.entry.FileEntry.{FileEntry}
use Rattle.legal_runs.specs.Actors.{BoardGoesBack, EpochFalls, EpochMissesOrder, FileGoesBack, HasOneEntry, KeepsToScript, LacksItsEntry, any_event, board_entries, file_entries, is_by, is_operation_entry, entry, board_order, file_order, worker_order, epoch, place}
use Rattle.serial_order.specs.SerialOrder.{is_earlier, operations_of, serial_order}
use Rattle.serial_order.proofs.OrderLemmas.{calls_of-order, order-ascends}
use Rattle.whole_scenario.specs.declared.op.Op.{Op}
use Rattle.whole_scenario.specs.declared.op.Op.TheVariants as op
use Rattle.whole_scenario.specs.declared.whole.Scenario.{Scenario}
use Rattle.serial_runs.specs.SerialLogs.{AreSerialLogs, HasLog, HaveLogs, SerialLogsKeepToScripts, at_board, at_file, is_for_board, is_for_file, orders_before, those}
use Rattle.serial_runs.proofs.OrderedOperations.{ascending-at, call-earlier, count-calls, count-map, count-numbers, count-those, count-weaker, earlier-call, earlier-count, earlier-trans, those-ascend}
use Rattle.serial_runs.proofs.ScriptOperations.{is_by-eq, op_at-is, operations-script}

-- an element of a list, by what stands at its place in another
abbrev ByAt : {A : Type 0} → (A → By) → List A → List By → Type 0
ByAt by xs bs = map by xs ≡ bs

pub at-map : {A : Type 0} (by : A → By) (xs : List A) (bs : List By) (i : ℕ) (x : A) → map by xs ≡ bs → slice_get xs i ≡ Some x → slice_get bs i ≡ Some (by x)
at-map by xs bs i x same there = ap (λ (l : List By). slice_get l i) (sym same) ∙ slice_get-map by xs i ∙ ap (option_map by) there

and_true : (b : Bool) → (b && true) ≡ b
and_true true = refl
and_true false = refl

-- where all entries of a file's log are those of operations, all of an operation's count
all_count : (actor call : ℕ) (log : List FileEntry) → ((index : ℕ) (e : FileEntry) → slice_get log index ≡ Some e → is_operation_entry e.event ≡ true)
    → file_entries log actor call ≡ count_by (λ (e : FileEntry). is_by actor call e.by) log
all_count actor call [] each = refl
all_count actor call (e ∷ es) each =
    count_by-cons (λ (x : FileEntry). is_by actor call x.by && is_operation_entry x.event) e es
    ∙ (λ i. one_if (is_by actor call e.by && each 0 e refl i) + all_count actor call es (λ index x there. each (suc index) x there) i)
    ∙ ap (λ (b : Bool). one_if b + count_by (λ (x : FileEntry). is_by actor call x.by) es) (and_true (is_by actor call e.by))
    ∙ sym (count_by-cons (λ (x : FileEntry). is_by actor call x.by) e es)

-- the element at a place within a list
element_within : {A : Type 0} (xs : List A) (i : ℕ) → i < length xs → (x : A) × (slice_get xs i ≡ Some x)
element_within [] i within = absurd (omega (arith, within))
element_within (x ∷ xs) zero within = (x, refl)
element_within (x ∷ xs) (suc i) within = element_within xs i (omega (arith, within))

module _ (s : Scenario) (board : List BoardEntry) (files : List (List FileEntry)) (have : HaveLogs s (length files))
    (are : AreSerialLogs s (serial_order (map length s.actors)) board files) where
  abbrev order : List By
  order = serial_order (map length s.actors)

  abbrev by_board : BoardEntry → By
  by_board b = b.by

  abbrev by_file : FileEntry → By
  by_file e = e.by

  -- each operation stands in the order once
  once : (client index : ℕ) (script : List Op) (operation : Op) → slice_get s.actors client ≡ Some script → slice_get script index ≡ Some operation
      → count_by (is_by (client + 1) (index + 1)) order ≡ 1
  once client index script operation is_script there =
      let many = operations-script s.actors client script is_script in
      let low = slice_get_within script index operation there in
      count-calls (client + 1) (index + 1) order ∙ ap (count_by (λ c. eqb c (index + 1))) (calls_of-order (map length s.actors) (client + 1))
      ∙ count-numbers (operations_of (map length s.actors) (client + 1)) (index + 1) (omega arith) (omega (arith, many, low))

  -- its entry is the one of it where it belongs
  at_place : (p : By → Bool) (actor call : ℕ) → p (record { actor = actor; call = call }) ≡ true → (b : By) → is_by actor call b ≡ true → p b ≡ true
  at_place p actor call passes b is = ap p (is_by-eq actor call b is) ∙ passes

  one_order : (client index : ℕ) (script : List Op) (operation : Op) → slice_get s.actors client ≡ Some script → slice_get script index ≡ Some operation
      → is_for_board operation ≡ true → board_entries board (client + 1) (index + 1) ≡ 1
  one_order client index script operation is_script there belongs =
      let known = op_at-is s client index script operation is_script there in
      let here : at_board s (record { actor = client + 1; call = index + 1 }) ≡ true = ap (λ (o : Option Op). option_map_or is_for_board o false) known ∙ belongs in
      sym (count-map by_board (is_by (client + 1) (index + 1)) board) ∙ ap (count_by (is_by (client + 1) (index + 1))) are.orders
      ∙ count-those (at_board s) (is_by (client + 1) (index + 1)) order (at_place (at_board s) (client + 1) (index + 1) here)
      ∙ once client index script operation is_script there

  one_entry : (client index file : ℕ) (script : List Op) (operation : Op) (log : List FileEntry) → slice_get s.actors client ≡ Some script → slice_get script index ≡ Some operation
      → is_for_file file operation ≡ true → slice_get files file ≡ Some log → file_entries log (client + 1) (index + 1) ≡ 1
  one_entry client index file script operation log is_script there belongs is_log =
      let known = op_at-is s client index script operation is_script there in
      let here : at_file s file (record { actor = client + 1; call = index + 1 }) ≡ true = ap (λ (o : Option Op). option_map_or (is_for_file file) o false) known ∙ belongs in
      all_count (client + 1) (index + 1) log (λ i e at. (are.each file i log e is_log at).counts)
      ∙ sym (count-map by_file (is_by (client + 1) (index + 1)) log) ∙ ap (count_by (is_by (client + 1) (index + 1))) (are.entries file log is_log)
      ∙ count-those (at_file s file) (is_by (client + 1) (index + 1)) order (at_place (at_file s file) (client + 1) (index + 1) here)
      ∙ once client index script operation is_script there

  has_one : (client index : ℕ) (script : List Op) (operation : Op) → slice_get s.actors client ≡ Some script → slice_get script index ≡ Some operation
      → HasLog (length files) operation → HasOneEntry board files (client + 1) (index + 1) operation
  has_one client index script (op.OnFile file action) is_script there has =
      let log = element_within files file has in
      (log.0, log.1, one_entry client index file script (op.OnFile file action) log.0 is_script there (eq-eqb file file refl) log.1)
  has_one client index script (op.OnDrive order drive) is_script there has = one_order client index script (op.OnDrive order drive) is_script there refl
  has_one client index script (op.FailNode node) is_script there has = one_order client index script (op.FailNode node) is_script there refl
  has_one client index script (op.Start kind job priority) is_script there has = absurd has
  has_one client index script (op.OnJob o job) is_script there has = absurd has
  has_one client index script (op.Work steps) is_script there has = absurd has
  has_one client index script op.Drain is_script there has = absurd has
  has_one client index script op.RestartEngine is_script there has = absurd has

  -- no operation lacks its entry
  none_lacks : (client call : ℕ) → LacksItsEntry s board files client call → ⊥
  none_lacks client call lacks =
      let known = op_at-is s client lacks.index lacks.script lacks.operation lacks.is_script lacks.there in
      let has = has_one client lacks.index lacks.script lacks.operation lacks.is_script lacks.there (have (record { actor = client + 1; call = lacks.index + 1 }) lacks.operation known) in
      lacks.broken (subst (λ (n : ℕ). HasOneEntry board files (client + 1) n lacks.operation) (sym lacks.numbered) has)

  -- entries of one log stand in the order of their operations
  in_order : {A : Type 0} (by : A → By) (log : List A) (p : By → Bool) → map by log ≡ those p order
      → (first second : ℕ) (a b : A) → first < second → slice_get log first ≡ Some a → slice_get log second ≡ Some b → is_earlier (by a) (by b) ≡ true
  in_order by log p same first second a b before at_first at_second =
      ascending-at (those p order) first second (by a) (by b) (those-ascend p order (order-ascends (map length s.actors))) before
      (at-map by log (those p order) first a same at_first) (at-map by log (those p order) second b same at_second)

  never_back : (a b : By) (actor call : ℕ) → is_earlier a b ≡ true → a ≡ record { actor = actor; call = call } → b.actor ≡ actor → b.call < call → ⊥
  never_back a b actor call earlier is same lower =
      let higher = earlier-call a b earlier (ap (λ (x : By). x.actor) is ∙ sym same) in
      let number : a.call ≡ call = ap (λ (x : By). x.call) is in
      omega (arith, higher, number, lower)

  none_board : (actor call : ℕ) → BoardGoesBack board actor call → ⊥
  none_board actor call back =
      never_back back.early.by back.late.by actor call
      (in_order by_board board (at_board s) are.orders back.first back.second back.early back.late back.before back.is_early back.is_late) back.by_early back.by_late back.lower

  none_file : (counts : _) (actor call : ℕ) → FileGoesBack counts files actor call → ⊥
  none_file counts actor call back =
      never_back back.early.by back.late.by actor call
      (in_order by_file back.log (at_file s back.file) (are.entries back.file back.log back.is_log) back.first back.second back.early back.late back.before back.is_early back.is_late)
      back.by_early back.by_late back.lower

  -- nobody behind the clients has an entry
  none_worker : (actor call : ℕ) → length s.actors < actor → FileGoesBack any_event files actor call → ⊥
  none_worker actor call past back = none_file any_event actor call back

  serial : (e : FileEntry) → (file : ℕ) (log : List FileEntry) (index : ℕ) → slice_get files file ≡ Some log → slice_get log index ≡ Some e → e.epoch ≡ orders_before e.by board
  serial e file log index is_log there = (are.each file index log e is_log there).epoch

  none_falls : (actor call : ℕ) → EpochFalls files actor call → ⊥
  none_falls actor call falls =
      let early = serial falls.early falls.is_early.file falls.is_early.log falls.is_early.index falls.is_early.is_log falls.is_early.there in
      let late = serial falls.late falls.is_late.file falls.is_late.log falls.is_late.index falls.is_late.is_log falls.is_late.there in
      let number : falls.late.by.call ≡ call = ap (λ (x : By). x.call) falls.by_late in
      let lower = falls.lower in
      let earlier = call-earlier falls.early.by falls.late.by (omega (arith, number, lower)) in
      let fewer = count-weaker (λ (b : BoardEntry). is_earlier b.by falls.early.by) (λ (b : BoardEntry). is_earlier b.by falls.late.by) board
      (λ b first. earlier-trans b.by falls.early.by falls.late.by first earlier) in
      let fall = falls.falls in
      omega (arith, early, late, fewer, fall)

  none_misses : (actor call : ℕ) → EpochMissesOrder board files actor call → ⊥
  none_misses actor call misses =
      let late = serial misses.late misses.is_late.file misses.is_late.log misses.is_late.index misses.is_late.is_log misses.is_late.there in
      let number : misses.late.by.call ≡ call = ap (λ (x : By). x.call) misses.by_late in
      let lower = misses.lower in
      let earlier = call-earlier misses.order.by misses.late.by (omega (arith, number, lower)) in
      let up = those-ascend (at_board s) order (order-ascends (map length s.actors)) in
      let counted = earlier-count (those (at_board s) order) misses.index misses.order.by misses.late.by up
      (at-map by_board board (those (at_board s) order) misses.index misses.order are.orders misses.is_order) earlier in
      let same : count_by (λ (x : By). is_earlier x misses.late.by) (those (at_board s) order) ≡ orders_before misses.late.by board =
      ap (count_by (λ (x : By). is_earlier x misses.late.by)) (sym are.orders) ∙ count-map by_board (λ (x : By). is_earlier x misses.late.by) board in
      let falls = misses.falls in
      omega (arith, late, counted, same, falls)

  keeps : (actor : ℕ) → KeepsToScript s board files actor
  keeps actor call (entry client c lacks) = none_lacks client c lacks
  keeps actor call (board_order a c within back) = none_board a c back
  keeps actor call (file_order a c within back) = none_file is_operation_entry a c back
  keeps actor call (worker_order a c past back) = none_worker a c past back
  keeps actor call (epoch a c falls) = none_falls a c falls
  keeps actor call (place a c misses) = none_misses a c misses

pub serial_logs_keep : SerialLogsKeepToScripts
serial_logs_keep s board files have are = λ actor some within. keeps s board files have are actor
