-- The blocks of a report, one after the other.
use Rattle.std.proofs.Common.{◌≡◌, ℕ, ◌<◌, ◌≤◌, true, List, [], ◌∷◌, ◌++◌, length, refl, sym, ap, ap₂, ◌∙◌, arith, append_assoc, append-nil, length-append}
use Rattle.std.proofs.lemmas.List.{append_cancel_left}
use Rattle.board_history.specs.declared.entry.BoardEntry.{BoardEntry}
use Rattle.file_history.specs.declared.entry.FileEntry.{FileEntry}
use Rattle.scenario.specs.declared.scenario.FileDecl.{FileDecl}
use Rattle.report.specs.Printed.{board_block, file_blocks}
use Rattle.report_reader.specs.Fits.{FitsBoardEntry}
use Rattle.report_reader.specs.Lines.{IsBoardEntry, lacks}
use Rattle.report_reader.proofs.BoardTold.{entry_fits}
use Rattle.report_reader.proofs.LogsTold.{board_told, rest_told}
use Rattle.report_reader.proofs.WordsTold.{all_so}
use Rattle.report_blocks.specs.Blocks.{AreFileLogs, AreLevels, AreLogs, Entries, IsAny, IsLine, IsLog, blocks_text, end_line, engine_line}
use Rattle.report_blocks.specs.Fronts.{Begins, Fails, FailsAt, IsRead, Stops, StopsAt}
use Rattle.report_blocks.specs.declared.stop.Stop.{Stop}
use Rattle.report_blocks.specs.declared.stop.Stop.TheVariants as stop
use Rattle.report_blocks.proofs.FileFronts.{empty_logs, empty_logs-fit, file_logs_told}
use Rattle.report_blocks.proofs.FrontLemmas.{GoesOn, HasPart, IsInside, no_line, within}

-- a text that does not begin with the line stops at its first
pub other_line : (line : List ℕ) → IsLine line → (text : List ℕ) → ((rest : List ℕ) → text ≡ line ++ rest → ⊥) → StopsAt IsAny (λ _. line) text (length text)
other_line line is text none = no_line IsAny (λ _. line) (λ _. is.body) (λ _. is.is) (λ _ _. is.clean) tt tt text (λ one fit rest h. none rest h)

-- two logs of the board are told by the texts that begin with their blocks
order_told : (a b : List BoardEntry) (rest more : List ℕ) → IsLog IsBoardEntry a → IsLog IsBoardEntry b → board_block a ++ rest ≡ board_block b ++ more → (a ≡ b) × (rest ≡ more)
order_told a b rest more x y h = board_told a b rest more (all_so IsBoardEntry FitsBoardEntry entry_fits a x.0) (all_so IsBoardEntry FitsBoardEntry entry_fits b y.0) x.1 y.1 h

-- what stands behind the board's block
abbrev behind_board : List FileDecl → List (List FileEntry) → List ℕ
behind_board files logs = engine_line ++ (file_blocks files logs ++ end_line)

-- the two logs have one text with the same behind it
pub blocks_told : (files : List FileDecl) (a b : Entries) (rest more : List ℕ) → AreLevels files → AreLogs files a → AreLogs files b → blocks_text files a ++ rest ≡ blocks_text files b ++ more
    → (a ≡ b) × (rest ≡ more)
blocks_told files a b rest more levels x y h =
    let board = order_told a.0 b.0 (behind_board files a.1 ++ rest) (behind_board files b.1 ++ more) x.0 y.0
    (sym (append_assoc (board_block a.0) (behind_board files a.1) rest) ∙ h ∙ append_assoc (board_block b.0) (behind_board files b.1) more) in
    let blocks : file_blocks files a.1 ++ (end_line ++ rest) ≡ file_blocks files b.1 ++ (end_line ++ more) =
    sym (append_assoc (file_blocks files a.1) end_line rest)
    ∙ rest_told engine_line ((file_blocks files a.1 ++ end_line) ++ rest) ((file_blocks files b.1 ++ end_line) ++ more) board.1
    ∙ append_assoc (file_blocks files b.1) end_line more in
    let logs = file_logs_told files a.1 b.1 (end_line ++ rest) (end_line ++ more) levels x.1 y.1 blocks in
    (ap₂ (λ (l : List BoardEntry) (ls : List (List FileEntry)). (l, ls)) board.0 logs.0, rest_told end_line rest more logs.1)

-- ---- where the blocks stop

module _ (files : List FileDecl) (text : List ℕ) where
  abbrev StopsAll : Stop → Type 0
  StopsAll s = Stops (AreLogs files) (blocks_text files) text s

  pub board_stop : (s : Stop) → Stops (IsLog IsBoardEntry) board_block text s → StopsAll s
  board_stop s stops =
      within (IsLog IsBoardEntry) board_block (AreLogs files) (blocks_text files) [] text text s refl
      (λ logs fits r more h. record { value = logs.0; fits = fits.0; after = behind_board files logs.1; is = refl })
      (λ log fit. record { value = (log, empty_logs files); fits = (fit, empty_logs-fit files); more = behind_board files (empty_logs files); is = refl }) stops

  module _ (log : List BoardEntry) (rest : List ℕ) (read : IsRead (IsLog IsBoardEntry) board_block text log rest) where
    same_board : (logs : Entries) → AreLogs files logs → (r more : List ℕ) → blocks_text files logs ++ r ≡ board_block log ++ more → logs.0 ≡ log
    same_board logs fits r more h =
        (order_told logs.0 log (behind_board files logs.1 ++ r) more fits.0 read.fits (sym (append_assoc (board_block logs.0) (behind_board files logs.1) r) ∙ h)).0

    pub engine_stop : (s : Stop) → Stops IsAny (λ _. engine_line) rest s → StopsAll s
    engine_stop s stops =
        within IsAny (λ _. engine_line) (AreLogs files) (blocks_text files) (board_block log) text rest s read.is
        (λ logs fits r more h. record {
          value = tt;
          fits = tt;
          after = file_blocks files logs.1 ++ end_line;
          is = ap (λ (l : List BoardEntry). board_block l ++ behind_board files logs.1) (same_board logs fits r more h);
        })
        (λ one fit. record {
          value = (log, empty_logs files);
          fits = (read.fits, empty_logs-fit files);
          more = file_blocks files (empty_logs files) ++ end_line;
          is = sym (append_assoc (board_block log) engine_line (file_blocks files (empty_logs files) ++ end_line));
        })
        stops

    -- what stands before the blocks of the files
    abbrev engine_front : List ℕ
    engine_front = board_block log ++ engine_line

    pub files_stop : (after : List ℕ) → rest ≡ engine_line ++ after → (s : Stop) → Stops (AreFileLogs files) (file_blocks files) after s → StopsAll s
    files_stop after is s stops =
        within (AreFileLogs files) (file_blocks files) (AreLogs files) (blocks_text files) engine_front text after s
        (read.is ∙ ap (λ (t : List ℕ). board_block log ++ t) is ∙ sym (append_assoc (board_block log) engine_line after))
        (λ logs fits r more h. record {
          value = logs.1;
          fits = fits.1;
          after = end_line;
          is = ap (λ (l : List BoardEntry). board_block l ++ behind_board files logs.1) (same_board logs fits r (engine_line ++ more) (h ∙ append_assoc (board_block log) engine_line more))
              ∙ sym (append_assoc (board_block log) engine_line (file_blocks files logs.1 ++ end_line));
        })
        (λ logs fits. record {
          value = (log, logs);
          fits = (read.fits, fits);
          more = end_line;
          is = sym (append_assoc (board_block log) engine_line (file_blocks files logs ++ end_line)) ∙ sym (append_assoc engine_front (file_blocks files logs) end_line);
        })
        stops

    module _ (after : List ℕ) (is : rest ≡ engine_line ++ after) (levels : AreLevels files) (logs : List (List FileEntry)) (last : List ℕ) (blocks : IsRead (AreFileLogs files) (file_blocks files) after logs last) where
      -- what stands before the last line
      abbrev end_front : List ℕ
      end_front = board_block log ++ (engine_line ++ file_blocks files logs)

      until_end : text ≡ end_front ++ last
      until_end = read.is ∙ ap (λ (t : List ℕ). board_block log ++ t) (is ∙ ap (λ (t : List ℕ). engine_line ++ t) blocks.is) ∙ simp append_assoc

      end_part : HasPart IsAny (λ _. end_line) (AreLogs files) (blocks_text files) end_front
      end_part found fits r more h =
          let spelled : blocks_text files found ++ r ≡ board_block log ++ (engine_line ++ (file_blocks files logs ++ more)) = h ∙ simp append_assoc in
          let board : found.0 ≡ log = same_board found fits r (engine_line ++ (file_blocks files logs ++ more)) spelled in
          let behind = order_told found.0 log (behind_board files found.1 ++ r) (engine_line ++ (file_blocks files logs ++ more)) fits.0 read.fits
          (sym (append_assoc (board_block found.0) (behind_board files found.1) r) ∙ spelled) in
          let file_part : file_blocks files found.1 ++ (end_line ++ r) ≡ file_blocks files logs ++ more =
          sym (append_assoc (file_blocks files found.1) end_line r) ∙ rest_told engine_line ((file_blocks files found.1 ++ end_line) ++ r) (file_blocks files logs ++ more) behind.1 in
          let same = file_logs_told files found.1 logs (end_line ++ r) more levels fits.1 blocks.fits file_part in
          record {
            value = tt;
            fits = tt;
            after = [];
            is = ap₂ (λ (l : List BoardEntry) (ls : List (List FileEntry)). board_block l ++ behind_board files ls) board same.0 ∙ simp append_assoc;
          }

      pub end_stop : (s : Stop) → Stops IsAny (λ _. end_line) last s → StopsAll s
      end_stop s stops =
          within IsAny (λ _. end_line) (AreLogs files) (blocks_text files) end_front text last s until_end end_part
          (λ one fit. record { value = (log, logs); fits = (read.fits, blocks.fits); more = []; is = simp append_assoc }) stops

      pub all_read : (left : List ℕ) → last ≡ end_line ++ left → text ≡ blocks_text files (log, logs) ++ left
      all_read left ends = until_end ∙ ap (λ (t : List ℕ). end_front ++ t) ends ∙ simp append_assoc

      pub all_fit : AreLogs files (log, logs)
      all_fit = (read.fits, blocks.fits)

-- ---- texts that are read to their end

pub fails : (files : List FileDecl) (text : List ℕ) (s : Stop) → Stops (AreLogs files) (blocks_text files) text s → Fails (AreLogs files) (blocks_text files) text s
fails files text stop.NoMemory h = tt
fails files text (stop.At left) h = record {
  front = h.front;
  tail = h.tail;
  parts = h.parts;
  size = h.size;
  begun = h.begun;
  none = λ a fits is. h.none a fits [] (is ∙ sym (append-nil (blocks_text files a)));
  line = h.line;
}

-- a text with something behind its last line fails there
pub left_over : (files : List FileDecl) (text : List ℕ) (logs : Entries) (left : List ℕ) → AreLevels files → AreLogs files logs → text ≡ blocks_text files logs ++ left → 1 ≤ length left
    → FailsAt (AreLogs files) (blocks_text files) text (length left)
left_over files text logs left levels fits is some = record {
  front = blocks_text files logs;
  tail = left;
  parts = is;
  size = refl;
  begun = record { value = logs; fits = fits; more = []; is = sym (append-nil (blocks_text files logs)) };
  none = λ a fit same.
      let none_left : [] ≡ left = (blocks_told files a logs [] left levels fit fits (append-nil (blocks_text files a) ∙ sym same ∙ is)).1 in
      absurd (omega (arith, some, ap (λ (l : List ℕ). length l) none_left));
  line = λ x y clean at a fit more same.
      let none_left : [] ≡ x ++ 10 ∷ more = (blocks_told files a logs [] (x ++ 10 ∷ more) levels fit fits (append-nil (blocks_text files a) ∙ same)).1 in
      absurd (omega (arith, length-append x (10 ∷ more), ap (λ (l : List ℕ). length l) none_left));
}
