-- Logs in the serial order, with one operation more.
use Rattle.std.proofs.Common.{◌≡◌, ◌≢◌, ℕ, zero, suc, ◌+◌, ◌<◌, ◌⊎◌, Bool, true, false, cond, List, [], ◌∷◌, ◌++◌, length, map, Option, Some, slice_get, inl, inr, refl, sym, ap, subst, ◌∙◌, arith}
use Rattle.std.specs.Prelude.{slice_set, unwrap_or}
use Rattle.std.specs.List.{AllByRecursion, count_by}
use Rattle.std.proofs.lemmas.Bool.{cases_eq}
use Rattle.std.proofs.lemmas.Bool.Decides.{nat_tests}
use Rattle.std.proofs.lemmas.List.{append-nil, map-append}
use Rattle.std.proofs.lemmas.Option.{slice_get_within}
use Rattle.board_history.specs.declared.entry.BoardEntry.{BoardEntry}
use Rattle.domains.specs.Counts.{one_if}
use Rattle.domains.specs.declared.by.By.{By}
use Rattle.domains.proofs.CountLemmas.{count_by-cons, count_by-push}
use Rattle.file_history.specs.declared.entry.FileEntry.{FileEntry}
use Rattle.legal_runs.specs.Actors.{is_operation_entry}
use Rattle.serial_order.specs.SerialOrder.{is_earlier}
use Rattle.whole_scenario.specs.declared.whole.Scenario.{Scenario}
use Rattle.serial_runs.specs.SerialLogs.{AreSerialLogs, IsSerialEntry, at_board, at_file, orders_before, those}
use Rattle.serial_runs.proofs.OrderedOperations.{all-at, all-those}
use Rattle.serial_runs.proofs.SerialScripts.{at-map}

pub those-append : (p : By → Bool) (xs ys : List By) → those p (xs ++ ys) ≡ those p xs ++ those p ys
those-append p [] ys = refl
those-append p (b ∷ bs) ys =
    elim (p b) as (λ e. cond e (b ∷ those p (bs ++ ys)) (those p (bs ++ ys)) ≡ cond e (b ∷ those p bs) (those p bs) ++ those p ys) [
      | true ↦ ap (λ (rest : List By). b ∷ rest) (those-append p bs ys)
      | false ↦ those-append p bs ys
    ]

those-with : (p : By → Bool) (bs : List By) (b : By) → p b ≡ true → those p (bs ++ b ∷ []) ≡ those p bs ++ b ∷ []
those-with p bs b passes = those-append p bs (b ∷ []) ∙ ap (λ e. those p bs ++ cond e (b ∷ []) []) passes

those-without : (p : By → Bool) (bs : List By) (b : By) → p b ≡ false → those p (bs ++ b ∷ []) ≡ those p bs
those-without p bs b fails = those-append p bs (b ∷ []) ∙ ap (λ e. those p bs ++ cond e (b ∷ []) []) fails ∙ append-nil (those p bs)

-- an element of a list with one more is one of those before, or the last
pub at-push : {A : Type 0} (xs : List A) (x y : A) (i : ℕ) → slice_get (xs ++ x ∷ []) i ≡ Some y → ((slice_get xs i ≡ Some y) × (i < length xs)) ⊎ ((i ≡ length xs) × (x ≡ y))
at-push [] x y zero there = inr (refl, ap (λ (o : Option _). unwrap_or o x) there)
at-push [] x y (suc i) there = absurd (let low = slice_get_within (x ∷ []) (suc i) y there in omega (arith, low))
at-push (z ∷ zs) x y zero there = inl (there, omega arith)
at-push (z ∷ zs) x y (suc i) there = elim (at-push zs x y i there) [
  | inl before ↦ inl (before.0, let low = before.1 in omega (arith, low))
  | inr last ↦ inr (ap suc last.0, last.1)
]

pub get-set : {A : Type 0} (xs : List A) (i : ℕ) (x : A) → i < length xs → slice_get (slice_set xs i x) i ≡ Some x
get-set [] i x within = absurd (omega (arith, within))
get-set (y ∷ ys) zero x within = refl
get-set (y ∷ ys) (suc i) x within = get-set ys i x (omega (arith, within))

pub get-set-other : {A : Type 0} (xs : List A) (i j : ℕ) (x : A) → j ≢ i → slice_get (slice_set xs i x) j ≡ slice_get xs j
get-set-other [] i j x other = refl
get-set-other (y ∷ ys) zero zero x other = absurd (other refl)
get-set-other (y ∷ ys) zero (suc j) x other = refl
get-set-other (y ∷ ys) (suc i) zero x other = refl
get-set-other (y ∷ ys) (suc i) (suc j) x other = get-set-other ys i j x (λ same. other (ap suc same))

-- all pass the test
count-all : {A : Type 0} (p : A → Bool) (xs : List A) → ((i : ℕ) (x : A) → slice_get xs i ≡ Some x → p x ≡ true) → count_by p xs ≡ length xs
count-all p [] each = refl
count-all p (x ∷ xs) each =
    let here : one_if (p x) ≡ 1 = ap one_if (each 0 x refl) in
    let rest = count-all p xs (λ i y there. each (suc i) y there) in
    let all = count_by-cons p x xs in
    let longer : length (x ∷ xs) ≡ length xs + 1 = omega arith in
    omega (arith, here, rest, all, longer)

later_not : (a b : By) → is_earlier a b ≡ true → is_earlier b a ≡ false
later_not a b earlier = grind (arith, nat_tests, earlier)

module _ (s : Scenario) (done : List By) (board : List BoardEntry) (files : List (List FileEntry)) (are : AreSerialLogs s done board files) where
  -- an entry of a file's log is of an operation that is done
  of_done : (by : By) → AllByRecursion (λ (b : By). is_earlier b by ≡ true) done → (file index : ℕ) (log : List FileEntry) (e : FileEntry)
      → slice_get files file ≡ Some log → slice_get log index ≡ Some e → is_earlier e.by by ≡ true
  of_done by all file index log e is_log there =
      all-at (λ (b : By). is_earlier b by ≡ true) (those (at_file s file) done) index e.by (all-those (λ (b : By). is_earlier b by ≡ true) (at_file s file) done all)
      (at-map (λ (x : FileEntry). x.by) log (those (at_file s file) done) index e (are.entries file log is_log) there)

  -- an order is done
  pub with_order : (b : BoardEntry) → at_board s b.by ≡ true → ((file : ℕ) → at_file s file b.by ≡ false) → AllByRecursion (λ (x : By). is_earlier x b.by ≡ true) done
      → AreSerialLogs s (done ++ b.by ∷ []) (board ++ b ∷ []) files
  with_order b belongs others all = record {
    orders = map-append (λ (x : BoardEntry). x.by) board (b ∷ []) ∙ ap (λ (l : List By). l ++ b.by ∷ []) are.orders ∙ sym (those-with (at_board s) done b.by belongs);
    entries = λ file log is_log. are.entries file log is_log ∙ sym (those-without (at_file s file) done b.by (others file));
    each = λ file index log e is_log there.
        let was = are.each file index log e is_log there in
        let epoch = was.epoch in
        let more = count_by-push (λ (x : BoardEntry). is_earlier x.by e.by) board b in
        let later : one_if (is_earlier b.by e.by) ≡ 0 = ap one_if (later_not e.by b.by (of_done b.by all file index log e is_log there)) in
        record { counts = was.counts; epoch = omega (arith, epoch, more, later) };
  }

  -- an action on a file is done
  pub with_action : (file : ℕ) (log : List FileEntry) (e : FileEntry) → slice_get files file ≡ Some log → at_board s e.by ≡ false → at_file s file e.by ≡ true
      → ((other : ℕ) → other ≢ file → at_file s other e.by ≡ false) → AllByRecursion (λ (x : By). is_earlier x e.by ≡ true) done → is_operation_entry e.event ≡ true
      → e.epoch ≡ length board → AreSerialLogs s (done ++ e.by ∷ []) board (slice_set files file (log ++ e ∷ []))
  with_action file log e is_log off_board belongs others all counts epoch = record {
    orders = are.orders ∙ sym (those-without (at_board s) done e.by off_board);
    entries = λ other found at. elim (cases_eq other file) [
      | inl same ↦
          let is : log ++ e ∷ [] ≡ found = found_is other found same at in
          ap (map (λ (x : FileEntry). x.by)) (sym is) ∙ map-append (λ (x : FileEntry). x.by) log (e ∷ [])
          ∙ ap (λ (l : List By). l ++ e.by ∷ []) (are.entries file log is_log) ∙ sym (those-with (at_file s file) done e.by belongs)
          ∙ ap (λ (n : ℕ). those (at_file s n) (done ++ e.by ∷ [])) (sym same)
      | inr apart ↦ are.entries other found (was_there other found apart at) ∙ sym (those-without (at_file s other) done e.by (others other apart))
    ];
    each = λ other index found x at there. elim (cases_eq other file) [
      | inl same ↦
          let is : log ++ e ∷ [] ≡ found = found_is other found same at in
          elim (at-push log e x index (ap (λ (l : List FileEntry). slice_get l index) is ∙ there)) [
            | inl before ↦ are.each file index log x is_log before.0
            | inr last ↦ subst (IsSerialEntry board) last.1 (record { counts = counts; epoch = epoch ∙ sym all_before })
          ]
      | inr apart ↦ are.each other index found x (was_there other found apart at) there
    ];
  }
    where
      low : file < length files
      low = slice_get_within files file log is_log

      found_is : (other : ℕ) (found : List FileEntry) → other ≡ file → slice_get (slice_set files file (log ++ e ∷ [])) other ≡ Some found → log ++ e ∷ [] ≡ found
      found_is other found same at =
          ap (λ (o : Option (List FileEntry)). unwrap_or o []) (sym (get-set files file (log ++ e ∷ []) low) ∙ ap (slice_get (slice_set files file (log ++ e ∷ []))) (sym same) ∙ at)

      was_there : (other : ℕ) (found : List FileEntry) → other ≢ file → slice_get (slice_set files file (log ++ e ∷ [])) other ≡ Some found → slice_get files other ≡ Some found
      was_there other found apart at = sym (get-set-other files file other (log ++ e ∷ []) apart) ∙ at

      all_before : orders_before e.by board ≡ length board
      all_before =
          let chosen = all-those (λ (x : By). is_earlier x e.by ≡ true) (at_board s) done all in
          count-all (λ (b : BoardEntry). is_earlier b.by e.by) board
          (λ i b there. all-at (λ (x : By). is_earlier x e.by ≡ true) (those (at_board s) done) i b.by chosen (at-map (λ (x : BoardEntry). x.by) board (those (at_board s) done) i b are.orders there))
