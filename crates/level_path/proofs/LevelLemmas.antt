-- What follows from each answer to a request for a level.
use Rattle.std.proofs.Common.{◌≡◌, ℕ, ◌+◌, [], Result, Ok, Err, refl, sym, ap, subst}
use Rattle.domains.specs.Level.{Level}
use Rattle.domains.specs.Shape.{Shape}
use Rattle.domains.specs.declared.by.By.{By}
use Rattle.fabric.specs.Accounts.{Holds}
use Rattle.fabric.specs.Cells.{FabricView}
use Rattle.fabric.specs.declared.hand.Hand.{Hand}
use Rattle.file_history.specs.declared.entry.FileEvent.TheVariants.{LevelSet, Refused}
use Rattle.file_history.specs.declared.entry.Refused.TheVariants.{LevelAbsent}
use Rattle.file_core.specs.FileView.{FileView}
use Rattle.file_core.specs.Notes.{noted}
use Rattle.file_turns.specs.FileTurns.{ChangesFile}
use Rattle.file_turns.specs.PathAccounts.{KeepsAccount}
use Rattle.file_turns.specs.PathRoom.{with_room}
use Rattle.file_turns.proofs.FileTurnLemmas.{NotesOne, changes_none, changes_one, notes_one}
use Rattle.file_turns.proofs.PathAccountLemmas.{account_noted, account_same, holds_looked}
use Rattle.level_path.specs.Levels.{FindsNoFile, LevelTells, SetsLevel}
use Rattle.level_path.specs.declared.level_setting.LevelRefusal.{LevelRefusal}
use Rattle.level_path.specs.declared.level_setting.LevelRefusal.TheVariants.{Absent, LogFull, NoMemory}

module _ {S : Type 0} (f : FabricView) (by : By) (level : Level) (x y : FileView S) (old new : Hand S) where
  pub set_one : (is : SetsLevel f by level x y old new) → NotesOne (noted by is.view (LevelSet level) []) x y
  set_one is = notes_one (noted by is.view (LevelSet level) []) is.spare x.groups x.inode x y is.noted

  pub absent_one : (is : FindsNoFile f by level x y old new) → NotesOne (noted by is.view (Refused (LevelAbsent level)) []) x y
  absent_one is = notes_one (noted by is.view (Refused (LevelAbsent level)) []) is.refused.spare x.groups x.inode x y is.refused.noted

  pub level_changes : {T : Type 0} (result : Result T LevelRefusal) → LevelTells result f by level x y old new → ChangesFile x.seat x y
  level_changes (Ok done) tells = changes_one _ x y (set_one tells)
  level_changes (Err Absent) tells = changes_one _ x y (absent_one tells)
  level_changes (Err LogFull) tells = changes_none x y tells.file
  level_changes (Err NoMemory) tells = changes_none x y tells.file

  unchanged_account : (shape : Shape) → y ≡ with_room y.spare x → new ≡ old → KeepsAccount shape x.seat x y old new
  unchanged_account shape file hand = record {
    each = λ d many of account.
        account_same shape d many x.seat x y old new (ap (λ (g : FileView S). g.level) file) (ap (λ (g : FileView S). g.notes) file)
        (λ held holds. subst (Holds shape d held) (sym hand) holds) account;
  }

  -- no answer changes the account
  pub level_account : {T : Type 0} (result : Result T LevelRefusal) → LevelTells result f by level x y old new → KeepsAccount f.shape x.seat x y old new
  level_account (Ok done) tells = record {
    each = λ d many of account.
        account_noted f.shape d many (noted by tells.view (LevelSet level) []) x y old new 0 0 (set_one tells)
        (λ held holds. holds_looked f _ tells.view f.shape d (held + 0) old new tells.begins.sees holds) refl account;
  }
  level_account (Err Absent) tells = record {
    each = λ d many of account.
        account_noted f.shape d many (noted by tells.view (Refused (LevelAbsent level)) []) x y old new 0 0 (absent_one tells)
        (λ held holds. holds_looked f _ tells.view f.shape d (held + 0) old new tells.begins.sees holds) refl account;
  }
  level_account (Err LogFull) tells = unchanged_account f.shape tells.file tells.hand
  level_account (Err NoMemory) tells = unchanged_account f.shape tells.file tells.hand

  -- the memory that was reserved before is no part of what the answer tells
  pub tells_of_old : (spare : ℕ) {T : Type 0} (result : Result T LevelRefusal) → LevelTells result f by level (with_room spare x) y old new → LevelTells result f by level x y old new
  tells_of_old spare (Ok done) tells = record {
    view = tells.view;
    begins = record { room = tells.begins.room; sees = tells.begins.sees };
    present = tells.present;
    spare = tells.spare;
    noted = tells.noted;
  }
  tells_of_old spare (Err Absent) tells = record {
    view = tells.view;
    begins = record { room = tells.begins.room; sees = tells.begins.sees };
    absent = tells.absent;
    refused = record { spare = tells.refused.spare; noted = tells.refused.noted };
  }
  tells_of_old spare (Err LogFull) tells = record { full = tells.full; file = tells.file; hand = tells.hand }
  tells_of_old spare (Err NoMemory) tells = record { room = tells.room; file = tells.file; hand = tells.hand }
