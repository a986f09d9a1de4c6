-- What a view shows.
use Rattle.std.specs.Prelude.{◌≡◌, ℕ, ◌<◌, ◌≤◌, ◌⊎◌, List, [], length}
use Rattle.domains.specs.Drive.{Drive, IsDrive}
use Rattle.domains.specs.Shape.{Shape}
use Rattle.domains.specs.DriveSet.{has}
use Rattle.board_history.specs.Board.{up_after, gone_after}
use Rattle.board_history.specs.declared.entry.BoardEntry.{BoardEntry}
use Rattle.turn_cell.specs.Histories.{Changed, Follows}
use Rattle.board.specs.History.{History, log_of}
use Rattle.board.specs.declared.board_view.View.{View}

-- the view shows the drives that are up, and those that are gone, after the first `epoch` entries of the log
pub record IsViewOf (shape : Shape) (log : List BoardEntry) (view : View) : Type 0 where
  pub epoch : view.epoch ≤ length log
  pub up : (d : Drive) → IsDrive d → has view.up d ≡ up_after shape log view.epoch d
  pub gone : (d : Drive) → IsDrive d → has view.gone d ≡ gone_after shape log view.epoch d

-- the board as a seat finds it that has added no entry since its last turn, which left `last`
abbrev pub FollowsBoard : ℕ → History → History → Type 0
FollowsBoard number last now = Follows {F = Shape × ℕ} (λ (h : History). h.turns) (λ (h : History). h.notes) (λ (h : History) (k : ℕ). []) (λ (h : History). (h.shape, h.room)) number last now

-- the seat with this number, of `seats`, sees the whole log, which begins with all that it had seen, and adds nothing
pub record Sees (seats number : ℕ) (last now : History) (shown : View) : Type 0 where
  pub epoch : shown.epoch ≡ length now.notes
  pub view : IsViewOf now.shape (log_of now) shown
  pub follows : FollowsBoard number last now
  pub lone : seats ≡ 1 → now.notes ≡ last.notes

-- a turn of the seat may make y of x
abbrev pub ChangesBoard : ℕ → History → History → Type 0
ChangesBoard number x y = Changed {F = Shape × ℕ} (λ (h : History). h.turns) (λ (h : History). h.notes) (λ (h : History) (k : ℕ). []) (λ (h : History). (h.shape, h.room)) number x y

-- a call that waits for an epoch made its last turn because all its earlier ones, if any, found fewer entries: the turn before the
-- last left `before`, which is what the seat had seen before the call or has fewer entries
pub record WaitedFor (epoch seats number : ℕ) (last now : History) (shown : View) : Type 0 where
  pub before : History
  pub earlier : FollowsBoard number last before
  pub short : (before ≡ last) ⊎ (length before.notes < epoch)
  pub sees : Sees seats number before now shown
