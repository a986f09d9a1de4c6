-- The text of logs tells the logs: block by block, each told by the text that begins with its own, and so is what follows.
use Rattle.std.proofs.Common.{codes, ◌≡◌, ℕ, zero, suc, ◌<◌, ◌^◌, true, List, [], ◌∷◌, ◌++◌, length, drop, refl, sym, ap, ap₂, ◌∙◌, subst, arith, append_assoc}
use Rattle.std.specs.Fmt.{decimal}
use Rattle.std.specs.List.{AllByRecursion}
use Rattle.domains.specs.Level.{Level, IsLevel}
use Rattle.board_history.specs.declared.entry.BoardEntry.{BoardEntry}
use Rattle.file_history.specs.declared.entry.FileEntry.{FileEntry}
use Rattle.scenario.specs.Canonical.{canonical_text}
use Rattle.scenario.specs.declared.scenario.FileDecl.{FileDecl}
use Rattle.scenario.specs.declared.scenario.Scenario.{Scenario}
use Rattle.report.specs.BoardLines.{board_line, board_lines}
use Rattle.report.specs.FileLines.{file_line, file_lines}
use Rattle.report.specs.Printed.{board_block, file_block, file_blocks, printed}
use Rattle.report.specs.Words.{line_feed}
use Rattle.report.specs.declared.logs.Logs.{Logs}
use Rattle.report_reader.specs.Fits.{FitFiles, FitLogs, FitsBoardEntry, FitsFileEntry, IsWide}
use Rattle.report_reader.specs.Laws.{TextsTellAll, TextsTellLogs}
use Rattle.report_reader.specs.Events.{file_text}
use Rattle.report_reader.specs.Lines.{board_text, lacks}
use Rattle.report_reader.proofs.Cuts.{cut, cut_at, decimal_lacks, number_again, number_in}
use Rattle.report_reader.proofs.BoardTold.{board_again, board_feed, board_in, board_line-is}
use Rattle.report_reader.proofs.FileTold.{file_again, file_feed, file_in, file_line-is}

-- a line is told by the text that begins with it, and so is what follows it
pub line_told : (a b rest more : List ℕ) → lacks 10 a ≡ true → lacks 10 b ≡ true → a ++ 10 ∷ rest ≡ b ++ 10 ∷ more → (a ≡ b) × (rest ≡ more)
line_told a b rest more no_a no_b h =
    let cuts : cut 10 (a ++ 10 ∷ rest) ≡ cut 10 (b ++ 10 ∷ more) = ap (cut 10) h in
    let one = cut_at 10 a rest no_a in
    let other = cut_at 10 b more no_b in (
      sym (ap (λ (p : List ℕ × List ℕ). p.0) one) ∙ ap (λ (p : List ℕ × List ℕ). p.0) cuts ∙ ap (λ (p : List ℕ × List ℕ). p.0) other,
      sym (ap (λ (p : List ℕ × List ℕ). p.1) one) ∙ ap (λ (p : List ℕ × List ℕ). p.1) cuts ∙ ap (λ (p : List ℕ × List ℕ). p.1) other,
    )

-- a number in a line of its own
pub count_told : (n m : ℕ) (rest more : List ℕ) → IsWide n → IsWide m → decimal n ++ 10 ∷ rest ≡ decimal m ++ 10 ∷ more → (n ≡ m) × (rest ≡ more)
count_told n m rest more a b h =
    let parts = line_told (decimal n) (decimal m) rest more (decimal_lacks 10 n refl a) (decimal_lacks 10 m refl b) h in
    (sym (number_again n a) ∙ ap number_in parts.0 ∙ number_again m b, parts.1)

-- what follows the same text
pub rest_told : (front rest more : List ℕ) → front ++ rest ≡ front ++ more → rest ≡ more
rest_told [] rest more h = h
rest_told (x ∷ front) rest more h = rest_told front rest more (ap (drop 1) h)

-- ---- the board

pub board_entry_told : (e f : BoardEntry) (rest more : List ℕ) → FitsBoardEntry e → FitsBoardEntry f → board_line e ++ rest ≡ board_line f ++ more → (e ≡ f) × (rest ≡ more)
board_entry_told e f rest more a b h =
    let spelled : board_text e ++ 10 ∷ rest ≡ board_text f ++ 10 ∷ more =
    sym (append_assoc (board_text e) line_feed rest) ∙ ap (λ t. t ++ rest) (sym (board_line-is e)) ∙ h ∙ ap (λ t. t ++ more) (board_line-is f) ∙ append_assoc (board_text f) line_feed more in
    let parts = line_told (board_text e) (board_text f) rest more (board_feed e a) (board_feed f b) spelled in
    (sym (board_again e a) ∙ ap board_in parts.0 ∙ board_again f b, parts.1)

board_lines_told : (es fs : List BoardEntry) (rest more : List ℕ) → AllByRecursion FitsBoardEntry es → AllByRecursion FitsBoardEntry fs → length es ≡ length fs
    → board_lines es ++ rest ≡ board_lines fs ++ more → (es ≡ fs) × (rest ≡ more)
board_lines_told [] [] rest more a b same h = (refl, h)
board_lines_told [] (f ∷ fs) rest more a b same h = absurd (omega (arith, same))
board_lines_told (e ∷ es) [] rest more a b same h = absurd (omega (arith, same))
board_lines_told (e ∷ es) (f ∷ fs) rest more a b same h =
    let first = board_entry_told e f (board_lines es ++ rest) (board_lines fs ++ more) a.0 b.0 (sym (append_assoc (board_line e) (board_lines es) rest) ∙ h ∙ append_assoc (board_line f) (board_lines fs) more) in
    let later = board_lines_told es fs rest more a.1 b.1 (omega (arith, same)) first.1 in
    (ap₂ (λ (x : BoardEntry) (xs : List BoardEntry). x ∷ xs) first.0 later.0, later.1)

board_spelled : (log : List BoardEntry) (rest : List ℕ) → board_block log ++ rest ≡ codes "board " ++ (decimal (length log) ++ 10 ∷ (board_lines log ++ rest))
unfolding board_block
board_spelled log rest = simp append_assoc

pub board_told : (es fs : List BoardEntry) (rest more : List ℕ) → AllByRecursion FitsBoardEntry es → AllByRecursion FitsBoardEntry fs → IsWide (length es) → IsWide (length fs)
    → board_block es ++ rest ≡ board_block fs ++ more → (es ≡ fs) × (rest ≡ more)
board_told es fs rest more a b n m h =
    let spelled = sym (board_spelled es rest) ∙ h ∙ board_spelled fs more in
    let counts = count_told (length es) (length fs) (board_lines es ++ rest) (board_lines fs ++ more) n m
    (rest_told (codes "board ") (decimal (length es) ++ 10 ∷ (board_lines es ++ rest)) (decimal (length fs) ++ 10 ∷ (board_lines fs ++ more)) spelled) in
    board_lines_told es fs rest more a b counts.0 counts.1

-- ---- files

pub file_entry_told : (declared : Level) (e f : FileEntry) (rest more : List ℕ) → IsLevel declared → FitsFileEntry e → FitsFileEntry f
    → file_line declared e ++ rest ≡ file_line declared f ++ more → (e ≡ f) × (rest ≡ more)
file_entry_told declared e f rest more is a b h =
    let spelled : file_text declared e ++ 10 ∷ rest ≡ file_text declared f ++ 10 ∷ more =
    sym (append_assoc (file_text declared e) line_feed rest) ∙ ap (λ t. t ++ rest) (sym (file_line-is declared e)) ∙ h ∙ ap (λ t. t ++ more) (file_line-is declared f) ∙ append_assoc (file_text declared f) line_feed more in
    let parts = line_told (file_text declared e) (file_text declared f) rest more (file_feed declared e is a) (file_feed declared f is b) spelled in
    (sym (file_again declared e is a) ∙ ap file_in parts.0 ∙ file_again declared f is b, parts.1)

file_lines_told : (declared : Level) (es fs : List FileEntry) (rest more : List ℕ) → IsLevel declared → AllByRecursion FitsFileEntry es → AllByRecursion FitsFileEntry fs → length es ≡ length fs
    → file_lines declared es ++ rest ≡ file_lines declared fs ++ more → (es ≡ fs) × (rest ≡ more)
file_lines_told declared [] [] rest more is a b same h = (refl, h)
file_lines_told declared [] (f ∷ fs) rest more is a b same h = absurd (omega (arith, same))
file_lines_told declared (e ∷ es) [] rest more is a b same h = absurd (omega (arith, same))
file_lines_told declared (e ∷ es) (f ∷ fs) rest more is a b same h =
    let first = file_entry_told declared e f (file_lines declared es ++ rest) (file_lines declared fs ++ more) is a.0 b.0
    (sym (append_assoc (file_line declared e) (file_lines declared es) rest) ∙ h ∙ append_assoc (file_line declared f) (file_lines declared fs) more) in
    let later = file_lines_told declared es fs rest more is a.1 b.1 (omega (arith, same)) first.1 in
    (ap₂ (λ (x : FileEntry) (xs : List FileEntry). x ∷ xs) first.0 later.0, later.1)

file_spelled : (f : FileDecl) (log : List FileEntry) (rest : List ℕ)
    → file_block f log ++ rest ≡ (codes "file " ++ f.name ++ codes " ") ++ (decimal (length log) ++ 10 ∷ (file_lines f.level log ++ rest))
unfolding file_block
file_spelled f log rest = simp append_assoc

pub file_told : (f : FileDecl) (a b : List FileEntry) (rest more : List ℕ) → IsLevel f.level → AllByRecursion FitsFileEntry a → AllByRecursion FitsFileEntry b → IsWide (length a) → IsWide (length b)
    → file_block f a ++ rest ≡ file_block f b ++ more → (a ≡ b) × (rest ≡ more)
file_told f a b rest more is fit_a fit_b n m h =
    let spelled = sym (file_spelled f a rest) ∙ h ∙ file_spelled f b more in
    let counts = count_told (length a) (length b) (file_lines f.level a ++ rest) (file_lines f.level b ++ more) n m
    (rest_told (codes "file " ++ f.name ++ codes " ") (decimal (length a) ++ 10 ∷ (file_lines f.level a ++ rest)) (decimal (length b) ++ 10 ∷ (file_lines f.level b ++ more)) spelled) in
    file_lines_told f.level a b rest more is fit_a fit_b counts.0 counts.1

pub files_told : (fs : List FileDecl) (left right : List (List FileEntry)) (rest more : List ℕ) → FitFiles fs left → FitFiles fs right
    → file_blocks fs left ++ rest ≡ file_blocks fs right ++ more → left ≡ right
files_told [] [] [] rest more x y h = refl
files_told [] (a ∷ left) right rest more x y h = absurd x
files_told [] [] (b ∷ right) rest more x y h = absurd y
files_told (f ∷ fs) [] right rest more x y h = absurd x
files_told (f ∷ fs) (a ∷ left) [] rest more x y h = absurd y
files_told (f ∷ fs) (a ∷ left) (b ∷ right) rest more x y h =
    let first = file_told f a b (file_blocks fs left ++ rest) (file_blocks fs right ++ more) x.0 x.1.1.0 y.1.1.0 x.1.0 y.1.0
    (sym (append_assoc (file_block f a) (file_blocks fs left) rest) ∙ h ∙ append_assoc (file_block f b) (file_blocks fs right) more) in
    ap₂ (λ (l : List FileEntry) (ls : List (List FileEntry)). l ∷ ls) first.0 (files_told fs left right rest more x.1.1.1 y.1.1.1 first.1)

-- ---- reports

abbrev engine_line : List ℕ
engine_line = codes "engine 0" ++ line_feed

abbrev end_line : List ℕ
end_line = codes "end" ++ line_feed

printed_spelled : (logs : Logs)
    → printed logs ≡ (codes "report 1" ++ line_feed) ++ (canonical_text logs.scenario ++ (board_block logs.board ++ (engine_line ++ (file_blocks logs.scenario.files logs.files ++ end_line))))
unfolding printed
printed_spelled logs = simp append_assoc

abbrev behind : Logs → List ℕ
behind l = board_block l.board ++ (engine_line ++ (file_blocks l.scenario.files l.files ++ end_line))

headed : (a b : Logs) → printed a ≡ printed b → canonical_text a.scenario ++ behind a ≡ canonical_text b.scenario ++ behind b
headed a b same =
    rest_told (codes "report 1" ++ line_feed) (canonical_text a.scenario ++ behind a) (canonical_text b.scenario ++ behind b)
    (sym (printed_spelled a) ∙ same ∙ printed_spelled b)

pub texts_tell_logs : TextsTellLogs
texts_tell_logs a b fit_a fit_b one same =
    let logged : behind a ≡ behind b =
    rest_told (canonical_text a.scenario) (behind a) (behind b) (headed a b same ∙ ap (λ (s : Scenario). canonical_text s ++ behind b) (sym one)) in
    let board = board_told a.board b.board (engine_line ++ (file_blocks a.scenario.files a.files ++ end_line)) (engine_line ++ (file_blocks b.scenario.files b.files ++ end_line)) fit_a.board fit_b.board fit_a.orders fit_b.orders logged in
    let blocks = rest_told engine_line (file_blocks a.scenario.files a.files ++ end_line) (file_blocks b.scenario.files b.files ++ end_line) board.1 in (
      board.0,
      files_told a.scenario.files a.files b.files end_line end_line fit_a.files (subst (λ (s : Scenario). FitFiles s.files b.files) (sym one) fit_b.files)
          (blocks ∙ ap (λ (s : Scenario). file_blocks s.files b.files ++ end_line) (sym one)),
    )

abbrev made : Scenario → List BoardEntry → List (List FileEntry) → Logs
made scenario board files = record { scenario = scenario; board = board; files = files }

pub texts_tell_all : TextsTellAll
texts_tell_all a b tells fit_a fit_b same =
    let one : a.scenario ≡ b.scenario = tells (behind a) (behind b) (headed a b same) in
    let logs = texts_tell_logs a b fit_a fit_b one same in
    ap (λ (s : Scenario). made s a.board a.files) one ∙ ap (λ (l : List BoardEntry). made b.scenario l a.files) logs.0 ∙ ap (made b.scenario b.board) logs.1
