-- Where a text is no report.
use Rattle.std.proofs.Common.{codes, ◌≡◌, ℕ, suc, Bool, true, false, List, [], ◌∷◌, ◌++◌, length, refl, sym, ap, ap₂, ◌∙◌, subst, inl, inr, append_assoc}
use Rattle.std.proofs.lemmas.List.{append_cancel_left}
use Rattle.board_history.specs.declared.entry.BoardEntry.{BoardEntry}
use Rattle.file_history.specs.declared.entry.FileEntry.{FileEntry}
use Rattle.scenario.specs.declared.scenario.FileDecl.{FileDecl}
use Rattle.report_reader.specs.Lines.{lacks}
use Rattle.report_reader.proofs.Cuts.{has_it}
use Rattle.report_blocks.specs.Blocks.{AreLogs, Entries, blocks_text}
use Rattle.report_blocks.specs.Fronts.{Fails, FailsAt}
use Rattle.report_blocks.specs.WrongLine.{IsBoardNext, feeds, first_line}
use Rattle.report_blocks.specs.declared.stop.Stop.{Stop}
use Rattle.report_blocks.specs.declared.stop.Stop.TheVariants as stop
use Rattle.report_blocks.specs.declared.whole_report.ReportFault.TheVariants as fault
use Rattle.report_blocks.proofs.FrontLemmas.{overlap}
use Rattle.scenario_reader.specs.Laws.{CanonicalIsPlain, CanonicalSpells, SpellsOne}
use Rattle.whole_scenario.specs.Canonical.{canonical_text}
use Rattle.whole_scenario.specs.declared.whole.Scenario.{Scenario}
use Rattle.whole_report.specs.Printed.{printed}
use Rattle.whole_report.specs.ScenarioLines.{HasTail, IsScenario}
use Rattle.whole_report.specs.WrongLine.{FitsReport, IsHeaded, IsReportFault}
use Rattle.whole_report.specs.declared.logs.Logs.{Logs}
use Rattle.whole_report.proofs.OneReport.{blocks_of, lines_front, logs_told, made, report_headed, report_spelled, report_told, tail_in}

-- the word before the board's count
abbrev board_word : List ℕ
board_word = codes "board "

-- where a text is at the board, so is another that begins with the same line
same_board : (front x y more : List ℕ) → IsBoardNext (front ++ (x ++ 10 ∷ y)) → IsBoardNext (front ++ (x ++ 10 ∷ more))
same_board front x y more (inl none) = absurd (empty front x none)
  where
    empty : (f x : List ℕ) → f ++ (x ++ 10 ∷ y) ≡ [] → ⊥
    empty [] [] is = absurd cc
    empty [] (b ∷ bs) is = absurd cc
    empty (b ∷ bs) x is = absurd cc
same_board front x y more (inr begun) =
    let line : List ℕ = front ++ (x ++ 10 ∷ []) in
    let flat : line ++ y ≡ front ++ (x ++ 10 ∷ y) = simp append_assoc in
    let is : line ++ y ≡ board_word ++ begun.0 = flat ∙ begun.1 in
    elim (overlap line y board_word begun.0 is) [
      | inl ahead ↦
          let again : front ++ (x ++ 10 ∷ more) ≡ line ++ more = simp append_assoc in
          inr (ahead.more ++ more, again ∙ ap (λ (t : List ℕ). t ++ more) ahead.is ∙ append_assoc board_word ahead.more more)
      | inr ahead ↦
          let clean : lacks 10 board_word ≡ true = refl in
          let fed : lacks 10 ((front ++ x) ++ 10 ∷ ahead.more) ≡ false = has_it 10 (front ++ x) ahead.more in
          let spelled : board_word ≡ (front ++ x) ++ 10 ∷ ahead.more = ahead.is ∙ simp append_assoc in
          absurd (apart (lacks 10 board_word) clean (ap (lacks 10) spelled ∙ fed))
    ]
  where
    apart : (b : Bool) → b ≡ true → b ≡ false → ⊥
    apart b is isnt = absurd cc

-- the first line is another one
pub other_first : (text : List ℕ) → ((rest : List ℕ) → text ≡ first_line ++ rest → ⊥) → IsReportFault text (fault.Bad 1)
other_first text none = (
  inl (record { one = refl; none = none }),
  λ l fits is. none (canonical_text l.scenario ++ blocks_of l) (report_headed l text is).is,
)

-- the lines of no scenario follow
pub other_scenario : (text lines : List ℕ) → text ≡ first_line ++ lines → ((s : Scenario) (rest : List ℕ) → IsScenario s → lines ≡ canonical_text s ++ rest → IsBoardNext rest → ⊥) → IsReportFault text (fault.Bad 2)
other_scenario text lines is none =
    let never : (s : Scenario) (behind : List ℕ) → IsScenario s → IsHeaded s text behind → ⊥ =
    λ s behind kept h. none s behind kept (append_cancel_left first_line lines (canonical_text s ++ behind) (sym is ∙ h.is)) h.next in
    (inr (inl (record { two = refl; rest = lines; is = is; none = never })), λ l fits same. never l.scenario (blocks_of l) fits.scenario (report_headed l text same))

-- a report of the scenario is its lines and its blocks
report_is : (s : Scenario) (logs : Entries) → printed (made s logs) ≡ lines_front s ++ blocks_text s.files logs
report_is s logs = report_spelled (made s logs) ∙ sym (append_assoc first_line (canonical_text s) (blocks_text s.files logs))

-- the logs that were read print the text
pub reads_back : (s : Scenario) (files : List FileDecl) (text lines front rest : List ℕ) (logs given : Entries) → IsScenario s → canonical_text s ≡ front → files ≡ s.files → given.0 ≡ logs.0 → given.1 ≡ logs.1
    → text ≡ first_line ++ lines → lines ≡ front ++ rest → AreLogs files logs → rest ≡ blocks_text files logs → FitsReport (made s given) × (printed (made s given) ≡ text)
reads_back s files text lines front rest logs given kept canonical same board told first follows fits spelled =
    let is : logs ≡ given = ap₂ (λ (b : List BoardEntry) (f : List (List FileEntry)). (b, f)) (sym board) (sym told) in
    let fit = subst (λ (l : Entries). AreLogs s.files l) is (subst (λ (f : List FileDecl). AreLogs f logs) same fits) in
    let blocks = subst (λ (l : Entries). rest ≡ blocks_text s.files l) is (subst (λ (f : List FileDecl). rest ≡ blocks_text f logs) same spelled) in (
      record { scenario = kept; logs = fit },
      report_spelled (made s given) ∙ sym (first ∙ ap (λ (t : List ℕ). first_line ++ t) (follows ∙ ap₂ (λ (t u : List ℕ). t ++ u) (sym canonical) blocks)),
    )

module _ (plain : CanonicalIsPlain) (again : CanonicalSpells) (one : SpellsOne) where
  -- no scenario is found where the text has one
  pub none_parted : (s : Scenario) (lines rest : List ℕ) → IsScenario s → lines ≡ canonical_text s ++ rest → HasTail lines rest
  none_parted s lines rest kept is = subst (λ (t : List ℕ). HasTail t rest) (sym is) (tail_in plain s rest kept)

  -- the report fails where its blocks do
  report_fails : (s : Scenario) (text rest : List ℕ) (left : ℕ) → IsScenario s → IsHeaded s text rest → FailsAt (AreLogs s.files) (blocks_text s.files) rest left → FailsAt FitsReport printed text left
  report_fails s text rest left kept headed h =
      let spelled : text ≡ lines_front s ++ rest = headed.is ∙ sym (append_assoc first_line (canonical_text s) rest) in
      record {
        front = lines_front s ++ h.front;
        tail = h.tail;
        parts = spelled ∙ ap (λ (t : List ℕ). lines_front s ++ t) h.parts ∙ sym (append_assoc (lines_front s) h.front h.tail);
        size = h.size;
        begun = record {
          value = made s h.begun.value;
          fits = record { scenario = kept; logs = h.begun.fits };
          more = h.begun.more;
          is = report_is s h.begun.value ∙ ap (λ (t : List ℕ). lines_front s ++ t) h.begun.is ∙ sym (append_assoc (lines_front s) h.front h.begun.more);
        };
        none = λ l fits is.
            let told = report_told plain again one s rest l kept headed.next fits (sym is ∙ headed.is) in
            h.none (l.board, l.files) (subst (λ (t : Scenario). AreLogs t.files (l.board, l.files)) told.0 fits.logs)
            (sym told.1 ∙ ap (λ (t : Scenario). blocks_text t.files (l.board, l.files)) told.0);
        line = λ x y clean at l fits more is.
            let next = same_board h.front x y more (subst IsBoardNext (h.parts ∙ ap (λ (t : List ℕ). h.front ++ t) at) headed.next) in
            let told = report_told plain again one s (h.front ++ (x ++ 10 ∷ more)) l kept next fits
            (is ∙ append_assoc (lines_front s) h.front (x ++ 10 ∷ more) ∙ append_assoc first_line (canonical_text s) (h.front ++ (x ++ 10 ∷ more))) in
            h.line x y clean at (l.board, l.files) (subst (λ (t : Scenario). AreLogs t.files (l.board, l.files)) told.0 fits.logs) more
            (ap (λ (t : Scenario). blocks_text t.files (l.board, l.files)) (sym told.0) ∙ told.1);
      }

  -- the blocks stop at a line, and the report with them
  pub other_line_next : (s : Scenario) (files : List FileDecl) (text lines front rest : List ℕ) (why : Stop) (left line : ℕ) → IsScenario s → canonical_text s ≡ front → files ≡ s.files → why ≡ stop.At left
      → text ≡ first_line ++ lines → lines ≡ front ++ rest → IsBoardNext rest → Fails (AreLogs files) (blocks_text files) rest why
      → ((front tail : List ℕ) → text ≡ front ++ tail → left ≡ length tail → line ≡ suc (feeds front)) → IsReportFault text (fault.Bad line)
  other_line_next s files text lines front rest why left line kept canonical same at first follows next stops number =
      let stopped = subst (λ (w : Stop). Fails (AreLogs s.files) (blocks_text s.files) rest w) at (subst (λ (f : List FileDecl). Fails (AreLogs f) (blocks_text f) rest why) same stops) in
      let headed : IsHeaded s text rest = record {
        is = first ∙ ap (λ (t : List ℕ). first_line ++ t) (follows ∙ ap (λ (t : List ℕ). t ++ rest) (sym canonical));
        next = next;
      } in
      let fails = report_fails s text rest left kept headed stopped in (
        inr (inr (record {
          scenario = s;
          kept = kept;
          rest = rest;
          headed = headed;
          left = left;
          fails = fails;
          number = number fails.front fails.tail fails.parts fails.size;
        })),
        λ l fits is. fails.none l fits (sym is),
      )

  -- and no others print it
  pub only_these : (l : Logs) (text : List ℕ) → FitsReport l × (printed l ≡ text) → (k : Logs) → FitsReport k → printed k ≡ text → k ≡ l
  only_these l text read k fits is = logs_told plain again one k l fits read.0 (is ∙ sym read.1)
