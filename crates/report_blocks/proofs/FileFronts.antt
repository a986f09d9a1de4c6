-- The blocks of all files, as a loop reads them.
use Rattle.std.proofs.Common.{◌≡◌, ℕ, ◌<◌, List, [], ◌∷◌, ◌++◌, length, refl, sym, ap, ap₂, ◌∙◌, subst, lit<, append_assoc, append-nil}
use Rattle.std.specs.List.{AllByRecursion}
use Rattle.domains.specs.Level.{IsLevel}
use Rattle.file_history.specs.declared.entry.FileEntry.{FileEntry}
use Rattle.scenario.specs.declared.scenario.FileDecl.{FileDecl}
use Rattle.report.specs.FileLines.{file_line}
use Rattle.report.specs.Printed.{file_block, file_blocks}
use Rattle.report_reader.specs.Fits.{FitsFileEntry}
use Rattle.report_reader.specs.Lines.{IsFileEntry}
use Rattle.report_reader.proofs.LogsTold.{file_told}
use Rattle.report_reader.proofs.ReadEvents.{file_fits}
use Rattle.report_reader.proofs.WordsTold.{all_so}
use Rattle.report_blocks.specs.Blocks.{AreFileLogs, AreLevels, IsLog}
use Rattle.report_blocks.specs.Fronts.{Begins, IsRead, Stops}
use Rattle.report_blocks.specs.declared.stop.Stop.{Stop}
use Rattle.report_blocks.proofs.FrontLemmas.{GoesOn, HasPart, IsInside, within}

-- an empty log for each file
abbrev pub empty_logs : List FileDecl → List (List FileEntry)
empty_logs [] = []
empty_logs (f ∷ fs) = [] ∷ empty_logs fs

pub empty_logs-fit : (fs : List FileDecl) → AreFileLogs fs (empty_logs fs)
empty_logs-fit [] = tt
empty_logs-fit (f ∷ fs) = ((tt, lit< tt), empty_logs-fit fs)

-- two logs of one file are told by the texts that begin with their blocks
log_told : (f : FileDecl) (a b : List FileEntry) (rest more : List ℕ) → IsLevel f.level → IsLog IsFileEntry a → IsLog IsFileEntry b
    → file_block f a ++ rest ≡ file_block f b ++ more → (a ≡ b) × (rest ≡ more)
log_told f a b rest more level x y h = file_told f a b rest more level (all_so _ _ file_fits a x.0) (all_so _ _ file_fits b y.0) x.1 y.1 h

first_part : (f : FileDecl) (fs : List FileDecl) → HasPart (IsLog IsFileEntry) (file_block f) (AreFileLogs (f ∷ fs)) (file_blocks (f ∷ fs)) []
first_part f fs [] fits r more h = absurd fits
first_part f fs (log ∷ logs) fits r more h = record { value = log; fits = fits.0; after = file_blocks fs logs; is = refl }

first_on : (f : FileDecl) (fs : List FileDecl) → GoesOn (IsLog IsFileEntry) (file_block f) (AreFileLogs (f ∷ fs)) (file_blocks (f ∷ fs)) []
first_on f fs log fit = record { value = log ∷ empty_logs fs; fits = (fit, empty_logs-fit fs); more = file_blocks fs (empty_logs fs); is = refl }

-- the blocks stop where the first does
pub first_stop : (f : FileDecl) (fs : List FileDecl) (text : List ℕ) (s : Stop) → Stops (IsLog IsFileEntry) (file_block f) text s → Stops (AreFileLogs (f ∷ fs)) (file_blocks (f ∷ fs)) text s
first_stop f fs text s stops = within (IsLog IsFileEntry) (file_block f) (AreFileLogs (f ∷ fs)) (file_blocks (f ∷ fs)) [] text text s refl (first_part f fs) (first_on f fs) stops

rest_part : (f : FileDecl) (fs : List FileDecl) (log : List FileEntry) → IsLevel f.level → IsLog IsFileEntry log
    → HasPart (AreFileLogs fs) (file_blocks fs) (AreFileLogs (f ∷ fs)) (file_blocks (f ∷ fs)) (file_block f log)
rest_part f fs log level fit [] fits r more h = absurd fits
rest_part f fs log level fit (first ∷ logs) fits r more h =
    let told = log_told f first log (file_blocks fs logs ++ r) more level fits.0 fit (sym (append_assoc (file_block f first) (file_blocks fs logs) r) ∙ h) in
    record {
      value = logs;
      fits = fits.1;
      after = [];
      is = ap₂ (λ (a b : List ℕ). a ++ b) (ap (file_block f) told.0) (sym (append-nil (file_blocks fs logs)));
    }

rest_on : (f : FileDecl) (fs : List FileDecl) (log : List FileEntry) → IsLog IsFileEntry log → GoesOn (AreFileLogs fs) (file_blocks fs) (AreFileLogs (f ∷ fs)) (file_blocks (f ∷ fs)) (file_block f log)
rest_on f fs log fit logs fits = record { value = log ∷ logs; fits = (fit, fits); more = []; is = sym (append-nil (file_block f log ++ file_blocks fs logs)) }

-- some logs were read: what the blocks of the files that are left tell of the rest, those of all files tell of the text
pub record IsPlaced (files left : List FileDecl) (done : List (List FileEntry)) (text rest : List ℕ) : Type 0 where
  pub read : (logs : List (List FileEntry)) (r : List ℕ) → IsRead (AreFileLogs left) (file_blocks left) rest logs r → IsRead (AreFileLogs files) (file_blocks files) text (done ++ logs) r
  pub stop : (s : Stop) → Stops (AreFileLogs left) (file_blocks left) rest s → Stops (AreFileLogs files) (file_blocks files) text s
  pub levels : AreLevels left → AreLevels files

pub files_start : (files : List FileDecl) (text : List ℕ) → IsPlaced files files [] text text
files_start files text = record { read = λ logs r h. h; stop = λ s h. h; levels = λ h. h }

pub files_step : (files : List FileDecl) (f : FileDecl) (fs : List FileDecl) (done : List (List FileEntry)) (text rest : List ℕ) (log : List FileEntry) (after : List ℕ) → IsLevel f.level
    → IsPlaced files (f ∷ fs) done text rest → IsRead (IsLog IsFileEntry) (file_block f) rest log after → IsPlaced files fs (done ++ log ∷ []) text after
files_step files f fs done text rest log after level p one = record {
  read = λ logs r h.
      subst (λ (l : List (List FileEntry)). IsRead (AreFileLogs files) (file_blocks files) text l r) (sym (append_assoc done (log ∷ []) logs))
      (p.read (log ∷ logs) r
      (record { fits = (one.fits, h.fits); is = one.is ∙ ap (λ (t : List ℕ). file_block f log ++ t) h.is ∙ sym (append_assoc (file_block f log) (file_blocks fs logs) r) }));
  stop = λ s h.
      p.stop s
      (within (AreFileLogs fs) (file_blocks fs) (AreFileLogs (f ∷ fs)) (file_blocks (f ∷ fs)) (file_block f log) rest after s one.is (rest_part f fs log level one.fits) (rest_on f fs log one.fits) h);
  levels = λ h. p.levels (level, h);
}

pub files_end : (files : List FileDecl) (done : List (List FileEntry)) (text rest : List ℕ) → IsPlaced files [] done text rest → IsRead (AreFileLogs files) (file_blocks files) text done rest
files_end files done text rest p = subst (λ (l : List (List FileEntry)). IsRead (AreFileLogs files) (file_blocks files) text l rest) (append-nil done) (p.read [] rest (record { fits = tt; is = refl }))

-- the blocks of all files tell their logs, and what stands behind them
pub file_logs_told : (fs : List FileDecl) (a b : List (List FileEntry)) (rest more : List ℕ) → AreLevels fs → AreFileLogs fs a → AreFileLogs fs b → file_blocks fs a ++ rest ≡ file_blocks fs b ++ more
    → (a ≡ b) × (rest ≡ more)
file_logs_told [] [] [] rest more levels x y h = (refl, h)
file_logs_told [] (a ∷ left) b rest more levels x y h = absurd x
file_logs_told [] [] (b ∷ right) rest more levels x y h = absurd y
file_logs_told (f ∷ fs) [] b rest more levels x y h = absurd x
file_logs_told (f ∷ fs) (a ∷ left) [] rest more levels x y h = absurd y
file_logs_told (f ∷ fs) (a ∷ left) (b ∷ right) rest more levels x y h =
    let first = log_told f a b (file_blocks fs left ++ rest) (file_blocks fs right ++ more) levels.0 x.0 y.0
    (sym (append_assoc (file_block f a) (file_blocks fs left) rest) ∙ h ∙ append_assoc (file_block f b) (file_blocks fs right) more) in
    let later = file_logs_told fs left right rest more levels.1 x.1 y.1 first.1 in
    (ap₂ (λ (l : List FileEntry) (ls : List (List FileEntry)). l ∷ ls) first.0 later.0, later.1)
