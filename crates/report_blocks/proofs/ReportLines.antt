-- A whole report of a scenario: its lines, and the blocks behind them.
use Rattle.std.specs.Fmt.{decimal}
use Rattle.std.proofs.Common.{codes, ◌≡◌, ℕ, suc, List, [], ◌∷◌, ◌++◌, length, refl, sym, ap, ◌∙◌, subst, inl, inr, append_assoc, ap₂}
use Rattle.std.proofs.lemmas.List.{append_cancel_left}
use Rattle.scenario.specs.Canonical.{canonical_text}
use Rattle.scenario.specs.declared.scenario.FileDecl.{FileDecl}
use Rattle.scenario.specs.declared.scenario.Scenario.{Scenario}
use Rattle.board_history.specs.declared.entry.BoardEntry.{BoardEntry}
use Rattle.file_history.specs.declared.entry.FileEntry.{FileEntry}
use Rattle.report.specs.Printed.{board_block, file_blocks, printed}
use Rattle.report.specs.BoardLines.{board_lines}
use Rattle.report.specs.Words.{line_feed}
use Rattle.report.specs.declared.logs.Logs.{Logs}
use Rattle.report_blocks.specs.Blocks.{AreLevels, AreLogs, Entries, blocks_text, end_line, engine_line}
use Rattle.report_blocks.specs.Fronts.{Begins, Fails, FailsAt}
use Rattle.report_blocks.specs.declared.stop.Stop.{Stop}
use Rattle.report_blocks.specs.declared.stop.Stop.TheVariants as stop
use Rattle.report_blocks.specs.WrongLine.{AreLogsOf, IsBoardNext, IsFaultOf, IsHeaded, feeds, first_line}
use Rattle.report_blocks.specs.declared.whole_report.ReportFault.TheVariants as fault
use Rattle.report_blocks.proofs.ReportFronts.{blocks_told}

-- what stands before the blocks
abbrev pub lines_front : Scenario → List ℕ
lines_front s = first_line ++ canonical_text s

abbrev pub made : Scenario → Entries → Logs
made s logs = record { scenario = s; board = logs.0; files = logs.1 }

-- a report is its first line, the scenario and the blocks
report_spelled : (l : Logs) → printed l ≡ first_line ++ (canonical_text l.scenario ++ blocks_text l.scenario.files (l.board, l.files))
unfolding printed
report_spelled l = simp append_assoc

-- a report of the scenario is its lines and its blocks
pub report_is : (s : Scenario) (l : Logs) → AreLogsOf s l → printed l ≡ lines_front s ++ blocks_text s.files (l.board, l.files)
report_is s l h =
    report_spelled l
    ∙ ap (λ (t : Scenario). first_line ++ (canonical_text t ++ blocks_text t.files (l.board, l.files))) h.scenario
    ∙ sym (append_assoc first_line (canonical_text s) (blocks_text s.files (l.board, l.files)))

-- the report fails where its blocks do
pub report_fails : (s : Scenario) (text rest : List ℕ) (left : ℕ) → text ≡ lines_front s ++ rest → FailsAt (AreLogs s.files) (blocks_text s.files) rest left → FailsAt (AreLogsOf s) printed text left
report_fails s text rest left spelled h =
    let one = made s h.begun.value in
    let fits : AreLogsOf s one = record { scenario = refl; logs = h.begun.fits } in
    record {
      front = lines_front s ++ h.front;
      tail = h.tail;
      parts = spelled ∙ ap (λ (t : List ℕ). lines_front s ++ t) h.parts ∙ sym (append_assoc (lines_front s) h.front h.tail);
      size = h.size;
      begun = record {
        value = one;
        fits = fits;
        more = h.begun.more;
        is = report_is s one fits ∙ ap (λ (t : List ℕ). lines_front s ++ t) h.begun.is ∙ sym (append_assoc (lines_front s) h.front h.begun.more);
      };
      none = λ l of is.
          h.none (l.board, l.files) of.logs (append_cancel_left (lines_front s) rest (blocks_text s.files (l.board, l.files)) (sym spelled ∙ is ∙ report_is s l of));
      line = λ x y clean at l of more is.
          h.line x y clean at (l.board, l.files) of.logs more
          (append_cancel_left (lines_front s) (blocks_text s.files (l.board, l.files)) (h.front ++ (x ++ 10 ∷ more))
          (sym (report_is s l of) ∙ is ∙ append_assoc (lines_front s) h.front (x ++ 10 ∷ more)));
    }

-- the blocks begin with the count of the board's entries
board_next : (files : List FileDecl) (logs : Entries) → IsBoardNext (blocks_text files logs)
unfolding board_block
board_next files logs = inr (
  decimal (length logs.0) ++ (line_feed ++ (board_lines logs.0 ++ (engine_line ++ (file_blocks files logs.1 ++ end_line)))),
  simp append_assoc,
)

-- what stands behind the lines of the scenario in a report
pub report_headed : (s : Scenario) (l : Logs) (text : List ℕ) → AreLogsOf s l → printed l ≡ text → IsHeaded s text (blocks_text s.files (l.board, l.files))
report_headed s l text of is = record {
  is = sym is ∙ report_is s l of ∙ append_assoc first_line (canonical_text s) (blocks_text s.files (l.board, l.files));
  next = board_next s.files (l.board, l.files);
}

same_parts : (k l : Logs) → k.scenario ≡ l.scenario → k.board ≡ l.board → k.files ≡ l.files → k ≡ l
same_parts k l scenario board files =
    ap₂ (λ (s : Scenario) (b : List BoardEntry). made s (b, k.files)) scenario board ∙ ap (λ (f : List (List FileEntry)). made l.scenario (l.board, f)) files

-- one text is that of one logs of the scenario
pub same_logs : (s : Scenario) (k l : Logs) → AreLevels s.files → AreLogsOf s k → AreLogsOf s l → printed k ≡ printed l → k ≡ l
same_logs s k l levels a b same =
    let blocks : blocks_text s.files (k.board, k.files) ≡ blocks_text s.files (l.board, l.files) =
    append_cancel_left (lines_front s) (blocks_text s.files (k.board, k.files)) (blocks_text s.files (l.board, l.files)) (sym (report_is s k a) ∙ same ∙ report_is s l b) in
    let told = (blocks_told s.files (k.board, k.files) (l.board, l.files) [] [] levels a.logs b.logs (ap (λ (t : List ℕ). t ++ []) blocks)).0 in
    same_parts k l (a.scenario ∙ sym b.scenario) (ap (λ (p : Entries). p.0) told) (ap (λ (p : Entries). p.1) told)

-- the first line is another one
pub other_first : (s : Scenario) (text : List ℕ) → ((rest : List ℕ) → text ≡ first_line ++ rest → ⊥) → IsFaultOf s text (fault.Bad 1)
other_first s text none = (
  inl (record { one = refl; none = none }),
  λ l of is. none (canonical_text s ++ blocks_text s.files (l.board, l.files)) (report_headed s l text of is).is,
)

-- the scenario's lines do not follow
pub other_scenario : (s : Scenario) (text lines : List ℕ) → text ≡ first_line ++ lines → ((rest : List ℕ) → lines ≡ canonical_text s ++ rest → IsBoardNext rest → ⊥) → IsFaultOf s text (fault.Bad 2)
other_scenario s text lines is none =
    let never : (behind : List ℕ) → IsHeaded s text behind → ⊥ =
    λ behind h. none behind (append_cancel_left first_line lines (canonical_text s ++ behind) (sym is ∙ h.is)) h.next in
    (inr (inl (record { two = refl; rest = lines; is = is; none = never })), λ l of same. never (blocks_text s.files (l.board, l.files)) (report_headed s l text of same))

-- the blocks stop at a line, and the report with them
pub other_line_next : (s : Scenario) (files : List FileDecl) (text lines rest : List ℕ) (why : Stop) (left line : ℕ) → files ≡ s.files → why ≡ stop.At left
    → text ≡ first_line ++ lines → lines ≡ canonical_text s ++ rest → IsBoardNext rest → Fails (AreLogs files) (blocks_text files) rest why
    → ((front tail : List ℕ) → text ≡ front ++ tail → left ≡ length tail → line ≡ suc (feeds front)) → IsFaultOf s text (fault.Bad line)
other_line_next s files text lines rest why left line same at first follows next stops number =
    let stopped = subst (λ (w : Stop). Fails (AreLogs s.files) (blocks_text s.files) rest w) at (subst (λ (f : List FileDecl). Fails (AreLogs f) (blocks_text f) rest why) same stops) in
    let is : text ≡ first_line ++ (canonical_text s ++ rest) = first ∙ ap (λ (t : List ℕ). first_line ++ t) follows in
    let fails = report_fails s text rest left (is ∙ sym (append_assoc first_line (canonical_text s) rest)) stopped in (
      inr (inr (record {
        rest = rest;
        headed = record { is = is; next = next };
        left = left;
        fails = fails;
        number = number fails.front fails.tail fails.parts fails.size;
      })),
      λ l of same. fails.none l of (sym same),
    )

-- the logs that were read print the text
pub reads_back : (s : Scenario) (files : List FileDecl) (text lines rest : List ℕ) (logs given : Entries) → files ≡ s.files → given.0 ≡ logs.0 → given.1 ≡ logs.1 → text ≡ first_line ++ lines
    → lines ≡ canonical_text s ++ rest → AreLogs files logs → rest ≡ blocks_text files logs → AreLogsOf s (made s given) × (printed (made s given) ≡ text)
reads_back s files text lines rest logs given same board told first follows fits spelled =
    let is : logs ≡ given = ap₂ (λ (b : List BoardEntry) (f : List (List FileEntry)). (b, f)) (sym board) (sym told) in
    let fit = subst (λ (l : Entries). AreLogs s.files l) is (subst (λ (f : List FileDecl). AreLogs f logs) same fits) in
    let blocks = subst (λ (l : Entries). rest ≡ blocks_text s.files l) is (subst (λ (f : List FileDecl). rest ≡ blocks_text f logs) same spelled) in
    let of : AreLogsOf s (made s given) = record { scenario = refl; logs = fit } in (
      of,
      report_is s (made s given) of ∙ append_assoc first_line (canonical_text s) (blocks_text s.files given)
          ∙ sym (first ∙ ap (λ (t : List ℕ). first_line ++ t) (follows ∙ ap (λ (t : List ℕ). canonical_text s ++ t) blocks)),
    )

-- and no others do
pub only_these : (s : Scenario) (files : List FileDecl) (text : List ℕ) (logs : Entries) → files ≡ s.files → AreLevels files → AreLogsOf s (made s logs) × (printed (made s logs) ≡ text)
    → (k : Logs) → AreLogsOf s k → printed k ≡ text → k ≡ made s logs
only_these s files text logs same levels read k of is = same_logs s k (made s logs) (subst AreLevels same levels) of read.0 (is ∙ sym read.1)
