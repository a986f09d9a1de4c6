-- Notes that are legal at their views are legal entries of the run.
use Rattle.std.proofs.Common.{◌≡◌, ℕ, zero, suc, Bool, true, false, ◌&&◌, List, [], ◌∷◌, ◌++◌, map, take, Option, Some, slice_get, refl, sym, ap, subst, ◌∙◌, arith, append_assoc, append-nil}
use Rattle.std.specs.Prelude.{unwrap_or}
use Rattle.std.specs.List.{AllByRecursion}
use Rattle.std.proofs.lemmas.Option.{slice_get_within}
use Rattle.board_history.specs.Board.{is_gone, is_up, state_after}
use Rattle.board_history.specs.declared.entry.BoardEntry.{BoardEntry}
use Rattle.domains.specs.Drive.{Drive}
use Rattle.domains.specs.DriveSet.{has}
use Rattle.domains.specs.Level.{Level}
use Rattle.domains.specs.Shape.{Shape, is_of}
use Rattle.file_core.specs.Notes.{AreNotedSteps, IsNotedStep, moment_of, told_of}
use Rattle.file_core.specs.declared.noted.Noted.{Noted}
use Rattle.file_history.specs.Layout.{layout_after}
use Rattle.file_history.specs.Step.{IsEvent, IsFileStepWhere}
use Rattle.file_history.specs.Views.{IsViewOf}
use Rattle.file_history.specs.World.{Moment, moment_at, world_of}
use Rattle.file_history.specs.declared.entry.FileEntry.{FileEntry}
use Rattle.file_history.specs.declared.entry.NotedEntry.{NotedEntry}
use Rattle.file_history.specs.declared.view.EpochView.{EpochView}
use Rattle.legal_runs.specs.Entries.{world_in}
use Rattle.legal_runs.specs.Operations.{noted_entries, noted_in}
use Rattle.noted_runs.specs.NotedRuns.{AreNotesIn, IsLegalEntryWhere, IsNoteIn, NotedFilesAreLegal, ToldRunsAreLegal}
use Rattle.striped_groups.specs.StoredGroups.{AllTell}
use Rattle.turn_cell.specs.declared.chronicle.Note.{Note}
use Rattle.whole_scenario.specs.declared.whole.Scenario.{Scenario}

-- what a view says of a drive of the cluster, and of no other
masked : (of has is : Bool) → (of ≡ true → has ≡ (of && is)) → (of && has) ≡ (of && is)
masked true has is known = known refl
masked false has is known = refl

-- the moment that a view shows is that of its epoch
pub moment-shown : (shape : Shape) (board : List BoardEntry) (level : Level) (view : EpochView) → IsViewOf shape board view
    → moment_of shape level view ≡ moment_at (world_of shape board level) view.epoch
moment-shown shape board level view shows =
    let up : (d : Drive) → (is_of shape d && has view.up d) ≡ (is_of shape d && is_up (state_after (take view.epoch board) d)) = λ d. masked (is_of shape d) _ _ (shows.up d) in
    let gone : (d : Drive) → (is_of shape d && has view.gone d) ≡ (is_of shape d && is_gone (state_after (take view.epoch board) d)) = λ d. masked (is_of shape d) _ _ (shows.gone d) in
    λ i. record { level = level; shape = shape; up = λ d. up d i; gone = λ d. gone d i }

-- a step at its view is one in the world
pub step-shown : (known : Type 0) (s : Scenario) (board : List BoardEntry) (level : Level) (file : ℕ) (before : List NotedEntry) (n : Noted) → IsNoteIn s board file n
    → IsNotedStep known s.shape level before n → IsFileStepWhere known (world_of s.shape board level) before n.told
step-shown known s board level file before n is step =
    let epoch = step.epoch in
    let reached = is.reached in
    let moment : moment_of s.shape level n.view ≡ moment_at (world_of s.shape board level) n.told.entry.epoch =
    moment-shown s.shape board level n.view is.shows ∙ ap (moment_at (world_of s.shape board level)) (sym epoch) in
    record {
      reached = omega (arith, epoch, reached);
      later = step.later;
      event = subst (λ (now : Moment). IsEvent now before (layout_after level before) n.told.payload n.told.entry.event) moment step.event;
      shown = step.shown;
    }

-- the step of the note at a place
step-at : (known : Type 0) (shape : Shape) (level : Level) (notes : List (Note Noted)) (before : List NotedEntry) (index : ℕ) (n : Note Noted)
    → AreNotedSteps notes known shape level before → slice_get notes index ≡ Some n → IsNotedStep known shape level (before ++ told_of (take index notes)) n.entry
step-at known shape level [] before index n steps there = absurd (let low = slice_get_within [] index n there in omega (arith, low))
step-at known shape level (m ∷ ms) before zero n steps there =
    let same : m ≡ n = ap (λ (o : Option (Note Noted)). unwrap_or o m) there in
    subst (λ (x : Note Noted). IsNotedStep known shape level (before ++ []) x.entry) same
    (subst (λ (l : List NotedEntry). IsNotedStep known shape level l m.entry) (sym (append-nil before)) steps.0)
step-at known shape level (m ∷ ms) before (suc index) n steps there =
    subst (λ (l : List NotedEntry). IsNotedStep known shape level l n.entry) (append_assoc before (m.entry.told ∷ []) (told_of (take index ms)))
    (step-at known shape level ms (before ++ m.entry.told ∷ []) index n steps.1 there)

abbrev entry_of : Note Noted → FileEntry
entry_of n = n.entry.told.entry

-- the first entries, with the bytes that their operations write
taken : (s : Scenario) (board : List BoardEntry) (file : ℕ) (notes : List (Note Noted)) (index : ℕ) → AreNotesIn s board file notes
    → told_of (take index notes) ≡ noted_entries s (take index (map entry_of notes))
taken s board file [] zero all = refl
taken s board file [] (suc index) all = refl
taken s board file (n ∷ ns) zero all = refl
taken s board file (n ∷ ns) (suc index) all = λ i. all.0.told i ∷ taken s board file ns index all.1 i

-- all entries
pub noted-all : (s : Scenario) (board : List BoardEntry) (file : ℕ) (notes : List (Note Noted)) → AreNotesIn s board file notes → told_of notes ≡ noted_entries s (map entry_of notes)
noted-all s board file [] all = refl
noted-all s board file (n ∷ ns) all = λ i. all.0.told i ∷ noted-all s board file ns all.1 i

-- the note of an entry
pub note-at : (notes : List (Note Noted)) (index : ℕ) (e : FileEntry) → slice_get (map entry_of notes) index ≡ Some e → (n : Note Noted) × (slice_get notes index ≡ Some n) × (entry_of n ≡ e)
note-at [] index e there = absurd (let low = slice_get_within [] index e there in omega (arith, low))
note-at (n ∷ ns) zero e there = (n, refl, ap (λ (o : Option FileEntry). unwrap_or o e) there)
note-at (n ∷ ns) (suc index) e there = note-at ns index e there

pub all-notes : (P : Note Noted → Type 0) (notes : List (Note Noted)) (index : ℕ) (n : Note Noted) → AllByRecursion P notes → slice_get notes index ≡ Some n → P n
all-notes P [] index n all there = absurd (let low = slice_get_within [] index n there in omega (arith, low))
all-notes P (m ∷ ms) zero n all there = subst P (ap (λ (o : Option (Note Noted)). unwrap_or o m) there) all.0
all-notes P (m ∷ ms) (suc index) n all there = all-notes P ms index n all.1 there

pub noted_files_are_legal : {S : Type 0} (content : S → Option (List ℕ)) → NotedFilesAreLegal content
noted_files_are_legal content s board f file notes steps all index e there =
    let known = AllTell content in
    let at = note-at notes index e there in
    let n = at.0 in
    let is = all-notes (λ (m : Note Noted). IsNoteIn s board file m.entry) notes index n all at.1 in
    let step = step-shown known s board f.level file (told_of (take index notes)) n.entry is (step-at known s.shape f.level notes [] index n steps at.1) in
    let moved : IsFileStepWhere known (world_in s board f) (noted_entries s (take index (map entry_of notes))) (noted_in s (entry_of n)) =
    subst (λ (t : NotedEntry). IsFileStepWhere known (world_in s board f) (noted_entries s (take index (map entry_of notes))) t) is.told
    (subst (λ (l : List NotedEntry). IsFileStepWhere known (world_in s board f) l n.entry.told) (taken s board file notes index all) step) in
    let legal : IsLegalEntryWhere known s board f file (take index (map entry_of notes)) (entry_of n) = record { step = moved; fits = is.fits } in
    subst (IsLegalEntryWhere known s board f file (take index (map entry_of notes))) at.2 legal

pub told_runs_are_legal : {S : Type 0} (content : S → Option (List ℕ)) → ToldRunsAreLegal content
told_runs_are_legal content s board files tell run = record {
  orders = run.orders;
  entries = λ file f log below is_f is_log index e there.
      let legal = run.entries file f log is_f is_log index e there in
      record {
        step = record { reached = legal.step.reached; later = legal.step.later; event = legal.step.event; shown = λ _. legal.step.shown tell };
        fits = legal.fits;
      };
  actors = run.actors;
}
