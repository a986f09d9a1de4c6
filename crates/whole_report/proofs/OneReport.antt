-- A text is the report of one scenario and of one logs.
use Rattle.std.proofs.Common.{◌≡◌, ℕ, List, [], ◌∷◌, ◌++◌, length, sym, ap, ap₂, ◌∙◌, subst, inr, append_assoc}
use Rattle.std.specs.Fmt.{decimal}
use Rattle.std.proofs.lemmas.List.{append_cancel_left}
use Rattle.board_history.specs.declared.entry.BoardEntry.{BoardEntry}
use Rattle.file_history.specs.declared.entry.FileEntry.{FileEntry}
use Rattle.scenario.specs.declared.scenario.FileDecl.{FileDecl}
use Rattle.report.specs.BoardLines.{board_lines}
use Rattle.report.specs.Printed.{board_block, file_blocks}
use Rattle.report.specs.Words.{line_feed}
use Rattle.report_blocks.specs.Blocks.{AreLevels, AreLogs, Entries, blocks_text, end_line, engine_line}
use Rattle.report_blocks.specs.WrongLine.{IsBoardNext, first_line}
use Rattle.report_blocks.proofs.ReportFronts.{blocks_told}
use Rattle.scenario_reader.specs.Answers.{SpellsScenario}
use Rattle.scenario_reader.specs.Laws.{CanonicalIsPlain, CanonicalSpells, SpellsOne}
use Rattle.scenario_rules.specs.Files.{AreFilesOf}
use Rattle.scenario_table.specs.declared.draft.FileRow.{FileRow}
use Rattle.whole_scenario.specs.Canonical.{canonical_text}
use Rattle.whole_scenario.specs.declared.whole.Scenario.{Scenario}
use Rattle.whole_report.specs.Printed.{printed}
use Rattle.whole_report.specs.ScenarioLines.{AreLines, HasTail, IsScenario}
use Rattle.whole_report.specs.WrongLine.{FitsReport, IsHeaded}
use Rattle.whole_report.specs.declared.logs.Logs.{Logs}
use Rattle.whole_report.proofs.CanonicalLines.{canonical_lines}
use Rattle.whole_report.proofs.ScenarioLines.{fronts_told, tail_of}

abbrev pub made : Scenario → Entries → Logs
made s logs = record { scenario = s; board = logs.0; files = logs.1 }

-- what stands before the blocks
abbrev pub lines_front : Scenario → List ℕ
lines_front s = first_line ++ canonical_text s

-- the blocks of the logs
abbrev pub blocks_of : Logs → List ℕ
blocks_of l = blocks_text l.scenario.files (l.board, l.files)

-- a report is its first line, the scenario and the blocks
pub report_spelled : (l : Logs) → printed l ≡ first_line ++ (canonical_text l.scenario ++ blocks_of l)
unfolding printed
report_spelled l = simp append_assoc

-- the blocks begin with the count of the board's entries
pub board_next : (files : List FileDecl) (logs : Entries) → IsBoardNext (blocks_text files logs)
unfolding board_block
board_next files logs = inr (
  decimal (length logs.0) ++ (line_feed ++ (board_lines logs.0 ++ (engine_line ++ (file_blocks files logs.1 ++ end_line)))),
  simp append_assoc,
)

-- the report has the lines of its scenario
pub report_headed : (l : Logs) (text : List ℕ) → printed l ≡ text → IsHeaded l.scenario text (blocks_of l)
report_headed l text is = record { is = sym is ∙ report_spelled l; next = board_next l.scenario.files (l.board, l.files) }

-- the level of each file of a scenario is one
levels_of : (s : Scenario) → IsScenario s → AreLevels s.files
levels_of s kept = subst AreLevels (ap (λ (t : Scenario). t.files) (sym kept.spells.is)) (levels kept.spells.spells.draft.files kept.spells.named.files kept.spells.spells.named.files)
  where
    levels : (rows : List FileRow) (files : List FileDecl) → AreFilesOf rows files → AreLevels files
    levels [] [] are = tt
    levels [] (f ∷ fs) are = absurd are
    levels (r ∷ rs) [] are = absurd are
    levels (r ∷ rs) (f ∷ fs) are = (are.0.level, levels rs fs are.1)

same_parts : (k l : Logs) → k.scenario ≡ l.scenario → k.board ≡ l.board → k.files ≡ l.files → k ≡ l
same_parts k l scenario board files =
    ap₂ (λ (s : Scenario) (b : List BoardEntry). made s (b, k.files)) scenario board ∙ ap (λ (f : List (List FileEntry)). made l.scenario (l.board, f)) files

module _ (plain : CanonicalIsPlain) where
  pub lines_in : (s : Scenario) → IsScenario s → AreLines (canonical_text s)
  lines_in s kept = canonical_lines s (plain kept.text s kept.spells)

  pub tail_in : (s : Scenario) (tail : List ℕ) → IsScenario s → HasTail (canonical_text s ++ tail) tail
  tail_in s tail kept = tail_of (canonical_text s) tail (lines_in s kept)

  module _ (again : CanonicalSpells) (one : SpellsOne) where
    -- two scenarios with one canonical text are the same
    canonical_told : (s t : Scenario) → IsScenario s → IsScenario t → canonical_text s ≡ canonical_text t → s ≡ t
    canonical_told s t a b same =
        one (canonical_text t) s t (subst (λ (text : List ℕ). SpellsScenario text s) same (again a.text s a.spells)) (again b.text t b.spells)

    -- a text has the lines of one scenario
    pub scenario_told : (s t : Scenario) (rest more : List ℕ) → IsScenario s → IsScenario t → IsBoardNext rest → IsBoardNext more → first_line ++ (canonical_text s ++ rest) ≡ first_line ++ (canonical_text t ++ more)
        → (s ≡ t) × (rest ≡ more)
    scenario_told s t rest more a b next after is =
        let told = fronts_told (canonical_text s) (canonical_text t) rest more (lines_in s a) (lines_in t b) next after
        (append_cancel_left first_line (canonical_text s ++ rest) (canonical_text t ++ more) is) in
        (canonical_told s t a b told.0, told.1)

    -- a report of the text has this scenario, and what stands behind its lines is its blocks
    pub report_told : (s : Scenario) (rest : List ℕ) (l : Logs) → IsScenario s → IsBoardNext rest → FitsReport l → printed l ≡ first_line ++ (canonical_text s ++ rest) → (l.scenario ≡ s) × (blocks_of l ≡ rest)
    report_told s rest l kept next fits is =
        scenario_told l.scenario s (blocks_of l) rest fits.scenario kept (board_next l.scenario.files (l.board, l.files)) next (sym (report_spelled l) ∙ is)

    -- one text is that of one logs
    pub logs_told : (k l : Logs) → FitsReport k → FitsReport l → printed k ≡ printed l → k ≡ l
    logs_told k l a b same =
        let told = report_told l.scenario (blocks_of l) k b.scenario (board_next l.scenario.files (l.board, l.files)) a (same ∙ report_spelled l) in
        let fits = subst (λ (s : Scenario). AreLogs s.files (k.board, k.files)) told.0 a.logs in
        let blocks : blocks_text l.scenario.files (k.board, k.files) ≡ blocks_of l = ap (λ (s : Scenario). blocks_text s.files (k.board, k.files)) (sym told.0) ∙ told.1 in
        let entries = (blocks_told l.scenario.files (k.board, k.files) (l.board, l.files) [] [] (levels_of l.scenario b.scenario) fits b.logs (ap (λ (t : List ℕ). t ++ []) blocks)).0 in
        same_parts k l told.0 (ap (λ (p : Entries). p.0) entries) (ap (λ (p : Entries). p.1) entries)
