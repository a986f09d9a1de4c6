-- What a file's log says after one more entry, after more entries of the board, and after one more view.
use Rattle.std.proofs.Common.{◌≡◌, ℕ, ◌≤◌, ◌==◌, true, false, ◌&&◌, if◌then◌else◌, List, [], ◌∷◌, ◌++◌, length, Some, IsSome, refl, sym, ap, subst, arith, append_assoc, append-nil, length-append}
use Rattle.std.specs.List.{AllByRecursion}
use Rattle.std.proofs.lemmas.Bool.{false≢true}
use Rattle.domains.specs.Drive.{Drive}
use Rattle.domains.specs.Shape.{Shape, is_of}
use Rattle.domains.specs.Level.{Level}
use Rattle.board_history.specs.Board.{state_after, is_up, is_gone}
use Rattle.board_history.specs.declared.entry.BoardEntry.{BoardEntry}
use Rattle.board_history.proofs.Histories.{take-before}
use Rattle.file_history.specs.World.{World, Moment, world_of, moment_at}
use Rattle.file_history.specs.Views.{view_at, moment_in, world_seen}
use Rattle.file_history.specs.Bytes.{bytes_after, bytes_after_event, bytes_from}
use Rattle.file_history.specs.Layout.{Layout, layout_after, layout_after_event, layout_from, empty_layout}
use Rattle.file_history.specs.Step.{IsEvent, IsFileStepWhere, IsLegalFrom, IsLegalLogWhere}
use Rattle.file_history.specs.declared.entry.NotedEntry.{NotedEntry}
use Rattle.file_history.specs.declared.view.EpochView.{EpochView}

pub layout_from-push : (log : List NotedEntry) (t : NotedEntry) (declared : Level) (l : Layout)
    → layout_from (log ++ t ∷ []) declared l ≡ layout_after_event declared t.entry.event (layout_from log declared l)
layout_from-push [] t declared l = refl
layout_from-push (x ∷ xs) t declared l = layout_from-push xs t declared (layout_after_event declared x.entry.event l)

pub layout_after-push : (declared : Level) (log : List NotedEntry) (t : NotedEntry)
    → layout_after declared (log ++ t ∷ []) ≡ layout_after_event declared t.entry.event (layout_after declared log)
layout_after-push declared log t = layout_from-push log t declared (empty_layout declared)

pub bytes_from-push : (log : List NotedEntry) (t : NotedEntry) (old : List ℕ)
    → bytes_from (log ++ t ∷ []) old ≡ bytes_after_event t.entry.event t.payload (bytes_from log old)
bytes_from-push [] t old = refl
bytes_from-push (x ∷ xs) t old = bytes_from-push xs t (bytes_after_event x.entry.event x.payload old)

pub bytes_after-push : (log : List NotedEntry) (t : NotedEntry)
    → bytes_after (log ++ t ∷ []) ≡ bytes_after_event t.entry.event t.payload (bytes_after log)
bytes_after-push log t = bytes_from-push log t []

-- a legal log grows by a legal entry
pub IsLegalFrom-push : (ts : List NotedEntry) (known : Type 0) (world : World) (log : List NotedEntry) (t : NotedEntry)
    → IsLegalFrom ts known world log → IsFileStepWhere known world (log ++ ts) t → IsLegalFrom (ts ++ t ∷ []) known world log
IsLegalFrom-push [] known world log t legal step = (subst (λ (l : List NotedEntry). IsFileStepWhere known world l t) (append-nil log) step, tt)
IsLegalFrom-push (x ∷ xs) known world log t legal step = (
  legal.0,
  IsLegalFrom-push xs known world (log ++ x ∷ []) t legal.1
      (subst (λ (l : List NotedEntry). IsFileStepWhere known world l t) (sym (append_assoc log (x ∷ []) xs)) step),
)

pub IsLegalLog-push : (known : Type 0) (world : World) (log : List NotedEntry) (t : NotedEntry)
    → IsLegalLogWhere known world log → IsFileStepWhere known world log t → IsLegalLogWhere known world (log ++ t ∷ [])
IsLegalLog-push known world log t legal step = IsLegalFrom-push log known world [] t legal step

-- a log that is legal where one thing is known is legal where that follows from another
pub IsLegalFrom-where : (ts : List NotedEntry) (known other : Type 0) (world : World) (log : List NotedEntry) → (other → known)
    → IsLegalFrom ts known world log → IsLegalFrom ts other world log
IsLegalFrom-where [] known other world log from legal = tt
IsLegalFrom-where (t ∷ ts) known other world log from legal = (
  record {
    reached = legal.0.reached;
    later = legal.0.later;
    event = legal.0.event;
    shown = λ is. legal.0.shown (from is);
  },
  IsLegalFrom-where ts known other world (log ++ t ∷ []) from legal.1,
)

-- a step between worlds that have one moment at its epoch
step_moved : (known : Type 0) (old new : World) (log : List NotedEntry) (t : NotedEntry) → new.level ≡ old.level
    → t.entry.epoch ≤ new.epochs → moment_at old t.entry.epoch ≡ moment_at new t.entry.epoch
    → IsFileStepWhere known old log t → IsFileStepWhere known new log t
step_moved known old new log t level reached moment step = record {
  reached = reached;
  later = step.later;
  event =
      subst (λ (v : Level). IsEvent (moment_at new t.entry.epoch) log (layout_after v log) t.payload t.entry.event) (sym level)
      (subst (λ (m : Moment). IsEvent m log (layout_after old.level log) t.payload t.entry.event) moment step.event);
  shown = step.shown;
}

-- the moment after the entries
abbrev moment_after : Shape → Level → List BoardEntry → Moment
moment_after shape level board = record {
  level = level;
  shape = shape;
  up = λ (d : Drive). is_of shape d && is_up (state_after board d);
  gone = λ (d : Drive). is_of shape d && is_gone (state_after board d);
}

-- a moment stays what it was when the board's log grows
pub moment_at-append : (shape : Shape) (level : Level) (board more : List BoardEntry) (epoch : ℕ) → epoch ≤ length board
    → moment_at (world_of shape board level) epoch ≡ moment_at (world_of shape (board ++ more) level) epoch
moment_at-append shape level board more epoch within = ap (moment_after shape level) (sym (take-before board more epoch within))

-- the board had as many entries as the epoch of the entry
abbrev pub IsReached : List BoardEntry → NotedEntry → Type 0
IsReached board t = t.entry.epoch ≤ length board

-- and a legal log stays legal
pub IsLegalFrom-append : (ts : List NotedEntry) (known : Type 0) (shape : Shape) (level : Level) (board more : List BoardEntry) (log : List NotedEntry)
    → AllByRecursion (IsReached board) ts → IsLegalFrom ts known (world_of shape board level) log
    → IsLegalFrom ts known (world_of shape (board ++ more) level) log
IsLegalFrom-append [] known shape level board more log within legal = tt
IsLegalFrom-append (t ∷ ts) known shape level board more log within legal = (
  step_moved known (world_of shape board level) (world_of shape (board ++ more) level) log t refl
      (let here : t.entry.epoch ≤ length board = within.0 in omega (arith, here, length-append board more))
      (moment_at-append shape level board more t.entry.epoch within.0) legal.0,
  IsLegalFrom-append ts known shape level board more (log ++ t ∷ []) within.1 legal.1,
)

-- a view that is known stays what it was when another is noted
pub view_at-push : (views : List EpochView) (v : EpochView) (epoch : ℕ) → IsSome (view_at views epoch)
    → view_at (views ++ v ∷ []) epoch ≡ view_at views epoch
view_at-push [] v epoch known = absurd (false≢true known)
view_at-push (x ∷ xs) v epoch known =
    elim (x.epoch == epoch) as (λ b. IsSome (if b then Some x else view_at xs epoch)
    → (if b then Some x else view_at (xs ++ v ∷ []) epoch) ≡ (if b then Some x else view_at xs epoch)) [
      | true ↦ λ here. refl
      | false ↦ λ later. view_at-push xs v epoch later
    ] known

-- the entry's view was noted, and its epoch is none past this one
pub record IsSeen (views : List EpochView) (epochs : ℕ) (t : NotedEntry) : Type 0 where
  pub known : IsSome (view_at views t.entry.epoch)
  pub reached : t.entry.epoch ≤ epochs

-- and a legal log stays legal
pub IsLegalFrom-seen : (ts : List NotedEntry) (known : Type 0) (shape : Shape) (level : Level) (views : List EpochView) (v : EpochView) (old new : ℕ) (log : List NotedEntry)
    → AllByRecursion (IsSeen views new) ts → IsLegalFrom ts known (world_seen shape level old views) log
    → IsLegalFrom ts known (world_seen shape level new (views ++ v ∷ [])) log
IsLegalFrom-seen [] known shape level views v old new log seen legal = tt
IsLegalFrom-seen (t ∷ ts) known shape level views v old new log seen legal = (
  step_moved known (world_seen shape level old views) (world_seen shape level new (views ++ v ∷ [])) log t refl seen.0.reached
      (ap (moment_in shape level) (sym (view_at-push views v t.entry.epoch seen.0.known))) legal.0,
  IsLegalFrom-seen ts known shape level views v old new (log ++ t ∷ []) seen.1 legal.1,
)
