-- The notes of a file: its entries, with the views that their calls brought and the bytes that they write.
use Rattle.std.specs.Prelude.{◌≡◌, ℕ, ◌≤◌, List, [], ◌∷◌, ◌++◌, map, Some}
use Rattle.std.specs.List.{AllByRecursion}
use Rattle.domains.specs.Shape.{Shape}
use Rattle.domains.specs.Level.{Level}
use Rattle.domains.specs.declared.by.By.{By}
use Rattle.board.specs.declared.board_view.View.{View}
use Rattle.turn_cell.specs.declared.chronicle.Note.{Note}
use Rattle.file_history.specs.World.{Moment}
use Rattle.file_history.specs.Views.{moment_in}
use Rattle.file_history.specs.Layout.{layout_after}
use Rattle.file_history.specs.Step.{IsEvent, ShowsBytes}
use Rattle.file_history.specs.declared.entry.FileEvent.{FileEvent}
use Rattle.file_history.specs.declared.entry.NotedEntry.{NotedEntry}
use Rattle.file_history.specs.declared.view.EpochView.{EpochView}
use Rattle.file_core.specs.declared.noted.Noted.{Noted}

-- the entries with their payloads
abbrev pub told_of : List (Note Noted) → List NotedEntry
told_of notes = map (λ (n : Note Noted). n.entry.told) notes

-- what a file keeps of a view
abbrev pub kept_view : View → EpochView
kept_view view = record { epoch = view.epoch; up = view.up; gone = view.gone }

-- the moment that a view shows
abbrev pub moment_of : Shape → Level → EpochView → Moment
moment_of shape level view = moment_in shape level (Some view)

-- what a call notes
abbrev pub noted : By → View → FileEvent → List ℕ → Noted
noted by view event payload = record {
  view = kept_view view;
  told = record { entry = record { by = by; epoch = view.epoch; event = event }; payload = payload };
}

-- the epoch of the last note, 0 if there is none
abbrev pub last_epoch_of : List (Note Noted) → ℕ
last_epoch_of [] = 0
last_epoch_of (n ∷ []) = n.entry.told.entry.epoch
last_epoch_of (n ∷ m ∷ ns) = last_epoch_of (m ∷ ns)

-- the entry is legal after these, at the moment that its view shows; the bytes that it shows are the file's where it is known what
-- slots hold
pub record IsNotedStep (known : Type 0) (shape : Shape) (level : Level) (before : List NotedEntry) (n : Noted) : Type 0 where
  pub epoch : n.told.entry.epoch ≡ n.view.epoch
  pub later : AllByRecursion (λ (earlier : NotedEntry). earlier.entry.epoch ≤ n.told.entry.epoch) before
  pub event : IsEvent (moment_of shape level n.view) before (layout_after level before) n.told.payload n.told.entry.event
  pub shown : known → ShowsBytes before n.told.entry.event

-- each of these is legal after those before it
abbrev pub AreNotedSteps : List (Note Noted) → Type 0 → Shape → Level → List NotedEntry → Type 0
AreNotedSteps [] known shape level before = Unit {0}
AreNotedSteps (n ∷ ns) known shape level before =
    IsNotedStep known shape level before n.entry × AreNotedSteps ns known shape level (before ++ n.entry.told ∷ [])
