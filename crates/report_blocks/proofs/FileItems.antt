-- The files that are left at a place of a list.
use Rattle.std.proofs.Common.{◌≡◌, ℕ, suc, ◌+◌, ◌<◌, ◌≤◌, List, [], ◌∷◌, ◌++◌, length, drop, get_or, refl, sym, ap, ◌∙◌, subst, arith}
use Rattle.std.proofs.Math.Seq.{drop-cons}
use Rattle.std.proofs.lemmas.List.{drop_all}
use Rattle.domains.specs.Level.{IsLevel}
use Rattle.file_history.specs.declared.entry.FileEntry.{FileEntry}
use Rattle.scenario.specs.declared.scenario.FileDecl.{FileDecl}
use Rattle.report.specs.Printed.{file_block, file_blocks}
use Rattle.report_reader.specs.Lines.{IsFileEntry}
use Rattle.report_blocks.specs.Blocks.{AreFileLogs, AreLevels, IsLog}
use Rattle.report_blocks.specs.Fronts.{IsRead, Stops}
use Rattle.report_blocks.specs.declared.stop.Stop.{Stop}
use Rattle.report_blocks.proofs.FileFronts.{IsPlaced, files_end, files_step, first_stop}

left_at : (files : List FileDecl) (i : ℕ) (f : FileDecl) → i < length files → f ≡ get_or files i f → drop i files ≡ f ∷ drop (i + 1) files
left_at files i f within is =
    drop-cons files i f within ∙ ap (λ (x : FileDecl). x ∷ drop (suc i) files) (sym is) ∙ ap (λ (k : ℕ). f ∷ drop k files) (one_more i)
  where
    one_more : (k : ℕ) → suc k ≡ k + 1
    one_more k = omega arith

module _ (files : List FileDecl) (i : ℕ) (f : FileDecl) (within : i < length files) (is : f ≡ get_or files i f) (done : List (List FileEntry)) (text rest : List ℕ) where
  placed_at : IsPlaced files (drop i files) done text rest → IsPlaced files (f ∷ drop (i + 1) files) done text rest
  placed_at p = subst (λ (fs : List FileDecl). IsPlaced files fs done text rest) (left_at files i f within is) p

  pub item_stop : IsPlaced files (drop i files) done text rest → (s : Stop) → Stops (IsLog IsFileEntry) (file_block f) rest s → Stops (AreFileLogs files) (file_blocks files) text s
  item_stop p s h = (placed_at p).stop s (first_stop f (drop (i + 1) files) rest s h)

  pub item_step : IsPlaced files (drop i files) done text rest → (log : List FileEntry) (after : List ℕ) → IsLevel f.level → IsRead (IsLog IsFileEntry) (file_block f) rest log after
      → IsPlaced files (drop (i + 1) files) (done ++ log ∷ []) text after
  item_step p log after level read = files_step files f (drop (i + 1) files) done text rest log after level (placed_at p) read

module _ (files : List FileDecl) (i : ℕ) (past : length files ≤ i) (done : List (List FileEntry)) (text rest : List ℕ) (p : IsPlaced files (drop i files) done text rest) where
  none_left : IsPlaced files [] done text rest
  none_left = subst (λ (fs : List FileDecl). IsPlaced files fs done text rest) (drop_all i files past) p

  pub items_read : IsRead (AreFileLogs files) (file_blocks files) text done rest
  items_read = files_end files done text rest none_left

  pub items_levels : AreLevels files
  items_levels = none_left.levels tt
