-- The first entry of a board's log that is not legal.
use Rattle.std.specs.Prelude.{◌≡◌, ℕ, ◌+◌, ◌++◌, List, [], ◌∷◌, Option, None, Some}
use Rattle.board_history.specs.declared.entry.BoardEntry.{BoardEntry}
use Rattle.board.specs.History.{History, log_of}
use Rattle.whole_scenario.specs.declared.whole.Scenario.{Scenario}
use Rattle.legal_runs.specs.Entries.{IsBrokenOrder, IsLeast, IsLegalBoard}

-- none is found if each entry is legal; else it is the first that is not
abbrev pub IsFirstIllegal : Scenario → List BoardEntry → Option ℕ → Type 0
IsFirstIllegal s log None = IsLegalBoard s log
IsFirstIllegal s log (Some at) = IsLeast (IsBrokenOrder s log) at

-- the board has this entry behind those that it had
pub record HasEntry (old : History) (e : BoardEntry) (new : History) : Type 0 where
  pub log : log_of new ≡ log_of old ++ e ∷ []
  pub shape : new.shape ≡ old.shape
  pub spare : old.spare ≡ new.spare + 1
