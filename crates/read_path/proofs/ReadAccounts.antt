-- A read leaves the account of its actor as it was.
use Rattle.std.proofs.Common.{◌≡◌, ℕ, ◌+◌, List, [], Option, Result, Ok, Err, inl, inr, refl, sym, ap, subst, ◌∙◌}
use Rattle.board.specs.declared.board_view.View.{View}
use Rattle.domains.specs.Drive.{Drive}
use Rattle.domains.specs.Shape.{Shape}
use Rattle.domains.specs.declared.by.By.{By}
use Rattle.flex_io.specs.declared.raw_place.RawPlace.{RawPlace}
use Rattle.fabric.specs.Accounts.{Holds}
use Rattle.fabric.specs.Cells.{FabricView}
use Rattle.fabric.specs.declared.hand.Hand.{Hand}
use Rattle.file_history.specs.declared.entry.FileEvent.TheVariants.{Refused, Shown}
use Rattle.file_history.specs.declared.entry.Refused.{Refused as Refusal}
use Rattle.file_core.specs.FileView.{FileView}
use Rattle.file_core.specs.Notes.{noted}
use Rattle.file_turns.proofs.FileTurnLemmas.{notes_one}
use Rattle.file_turns.specs.PathAccounts.{Account, KeepsAccount}
use Rattle.file_turns.specs.Paths.{IsRefused, SeesBoard}
use Rattle.read_path.specs.Reads.{LooksAtMost, ReadTells}
use Rattle.read_path.specs.declared.reading.ReadRefusal.{ReadRefusal}
use Rattle.read_path.specs.declared.reading.ReadRefusal.TheVariants.{Absent, Lost, LogFull, NoMemory}
use Rattle.file_turns.proofs.PathAccountLemmas.{account_noted, account_same, holds_looked}
use Rattle.read_path.proofs.ReadAnswers.{refused_one}

module _ {S : Type 0} where
  -- a note of a refusal moves no slot
  refused_account : (f : FabricView) (by : By) (view : View) (why : Refusal) (least : ℕ) (shape : Shape) (x y : FileView S) (old new : Hand S) → SeesBoard f least view old new
      → IsRefused by view why x y → KeepsAccount shape x.seat x y old new
  refused_account f by view why least shape x y old new sees is = record {
    each = λ d many of account.
        account_noted shape d many (noted by view (Refused why) []) x y old new 0 0 (refused_one by view why x y is)
        (λ held holds. holds_looked f least view shape d (held + 0) old new sees holds) refl account;
  }

  -- at most the board was looked at, and no slot moved
  holds_at_most : (f : FabricView) (least : ℕ) (shape : Shape) (d : Drive) (held : ℕ) (old new : Hand S) → LooksAtMost f least old new → Holds shape d held old → Holds shape d held new
  holds_at_most f least shape d held old new hand holds = elim hand [
    | inl same ↦ subst (Holds shape d held) (sym same) holds
    | inr seen ↦ holds_looked f least seen.0 shape d held old new seen.1 holds
  ]

module _ {S : Type 0} (place_of : S → RawPlace) (content : S → Option (List ℕ)) (len_of reads : S → ℕ) where
  -- no answer changes the account
  pub read_account : (result : Result (List ℕ) ReadRefusal) (f : FabricView) (by : By) (offset len : ℕ) (x y : FileView S) (old new : Hand S)
      → ReadTells place_of content len_of reads result f by offset len x y old new → KeepsAccount f.shape x.seat x y old new
  read_account (Ok bytes) f by offset len x y old new tells = record {
    each = λ d many of account.
        account_noted f.shape d many (noted by tells.view (Shown offset len bytes) []) x y old new 0 0
        (notes_one (noted by tells.view (Shown offset len bytes) []) tells.did.spare y.groups y.inode x y tells.did.noted)
        (λ held holds. holds_looked f _ tells.view f.shape d (held + 0) old new tells.begins.sees holds) refl account;
  }
  read_account (Err Absent) f by offset len x y old new tells =
      refused_account f by tells.view _ _ f.shape x y old new tells.begins.sees tells.did.refused
  read_account (Err (Lost loss)) f by offset len x y old new tells =
      refused_account f by tells.view _ _ f.shape x y old new tells.begins.sees tells.did.refused
  read_account (Err LogFull) f by offset len x y old new tells = record {
    each = λ d many of account.
        account_same f.shape d many x.seat x y old new (ap (λ (g : FileView S). g.level) tells.file) (ap (λ (g : FileView S). g.notes) tells.file)
        (λ held holds. subst (Holds f.shape d held) (sym tells.hand) holds) account;
  }
  read_account (Err NoMemory) f by offset len x y old new tells = record {
    each = λ d many of account.
        account_same f.shape d many x.seat x y old new (ap (λ (g : FileView S). g.level) tells.file.kept) (ap (λ (g : FileView S). g.notes) tells.file.kept)
        (λ held holds. holds_at_most f _ f.shape d held old new tells.hand holds) account;
  }
