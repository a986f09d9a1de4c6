-- What follows from each answer of a removal.
use Rattle.std.proofs.Common.{◌≡◌, ℕ, ◌+◌, List, [], ◌∷◌, ◌++◌, Option, Result, Ok, Err, inl, inr, None, refl, sym, ap, subst, ◌∙◌, arith}
use Rattle.board.specs.declared.board_view.View.{View}
use Rattle.domains.specs.Drive.{Drive}
use Rattle.domains.specs.Shape.{Shape}
use Rattle.domains.specs.declared.by.By.{By}
use Rattle.flex_io.specs.declared.raw_place.RawPlace.{RawPlace}
use Rattle.held_slots.specs.Slots.{count_on}
use Rattle.fabric.specs.Accounts.{Holds}
use Rattle.fabric.specs.Cells.{FabricView}
use Rattle.fabric.specs.declared.hand.Hand.{Hand}
use Rattle.file_history.specs.declared.entry.FileEvent.TheVariants.{Deleted, Refused}
use Rattle.file_history.specs.declared.entry.Refused.{Refused as Refusal}
use Rattle.file_history.specs.declared.entry.Refused.TheVariants.{DeleteAbsent}
use Rattle.file_core.specs.FileView.{FileView, IsFile}
use Rattle.file_core.specs.Notes.{noted}
use Rattle.striped_groups.specs.StoredGroups.{list_of}
use Rattle.file_turns.specs.FileTurns.{ChangesFile}
use Rattle.file_turns.specs.PathAccounts.{KeepsAccount}
use Rattle.file_turns.specs.PathRoom.{with_room}
use Rattle.file_turns.specs.Paths.{IsFull, IsRefused, SeesBoard}
use Rattle.write_path.specs.Releases.{slots_in}
use Rattle.write_path.specs.Removals.{DeletesFile, RemoveTells, RemovesFile, UnlessNoMemory}
use Rattle.write_path.specs.declared.removal.RemoveRefusal.{RemoveRefusal}
use Rattle.write_path.specs.declared.removal.RemoveRefusal.TheVariants.{Absent, LogFull, NoMemory}
use Rattle.file_turns.proofs.FileTurnLemmas.{NotesOne, changes_none, changes_one, notes_one}
use Rattle.write_path.proofs.HeldSlots.{units_held}
use Rattle.file_turns.proofs.PathAccountLemmas.{account_noted, account_same, holds_looked}
use Rattle.write_path.proofs.ReleasedAccounts.{holds_released}

module _ {S : Type 0} where
  pub refused_one : (by : By) (view : View) (why : Refusal) (x y : FileView S) → IsRefused by view why x y → NotesOne (noted by view (Refused why) []) x y
  refused_one by view why x y is = notes_one (noted by view (Refused why) []) is.spare x.groups x.inode x y is.noted

  pub deleted_one : (f : FabricView) (by : By) (view : View) (x y : FileView S) (old looked : Hand S) → DeletesFile f by view x y old looked → NotesOne (noted by view Deleted []) x y
  deleted_one f by view x y old looked is = notes_one (noted by view Deleted []) is.spare [] None x y is.noted

  -- a note of a refusal moves no slot
  pub refused_account : (f : FabricView) (by : By) (view : View) (why : Refusal) (least : ℕ) (shape : Shape) (x y : FileView S) (old new : Hand S) → SeesBoard f least view old new
      → IsRefused by view why x y → KeepsAccount shape x.seat x y old new
  refused_account f by view why least shape x y old new sees is = record {
    each = λ d many of account.
        account_noted shape d many (noted by view (Refused why) []) x y old new 0 0 (refused_one by view why x y is)
        (λ held holds. holds_looked f least view shape d (held + 0) old new sees holds) refl account;
  }

  pub full_account : (shape : Shape) (x y : FileView S) (old new : Hand S) → IsFull x y old new → KeepsAccount shape x.seat x y old new
  full_account shape x y old new is = record {
    each = λ d many of account.
        account_same shape d many x.seat x y old new (ap (λ (f : FileView S). f.level) is.file) (ap (λ (f : FileView S). f.notes) is.file)
        (λ held holds. subst (Holds shape d held) (sym is.hand) holds) account;
  }

module _ {S : Type 0} (place_of : S → RawPlace) (content : S → Option (List ℕ)) (len_of : S → ℕ) (f : FabricView) (by : By) (x y : FileView S) (old new : Hand S)
    (is : IsFile place_of content len_of x) where
  removed_account : RemovesFile place_of f by x y old new → KeepsAccount f.shape x.seat x y old new
  removed_account removes = record {
    each = λ d many of account.
        let slots = slots_in (x.groups ++ list_of x.inode) in
        let units = units_held place_of content len_of x is d in
        account_noted f.shape d many (noted by removes.view Deleted []) x y old new 0 (count_on place_of d slots) (deleted_one f by removes.view x y old removes.looked removes.deletes)
        (λ held holds. holds_released place_of slots f.shape removes.view d (held + 0) removes.looked new of removes.released
        (subst (λ n. Holds f.shape d n removes.looked) (let sum : held + count_on place_of d slots ≡ held + 0 + count_on place_of d slots = omega arith in sum)
        (holds_looked f _ removes.view f.shape d (held + count_on place_of d slots) old removes.looked removes.deletes.begins.sees holds)))
        (omega (arith, units)) account;
  }

  pub remove_account : {T : Type 0} (result : Result T RemoveRefusal) → RemoveTells place_of result f by x y old new
      → UnlessNoMemory result (KeepsAccount f.shape x.seat x y old new)
  remove_account (Ok done) tells = removed_account tells
  remove_account (Err Absent) tells = refused_account f by tells.view DeleteAbsent _ f.shape x y old new tells.begins.sees tells.refused
  remove_account (Err LogFull) tells = full_account f.shape x y old new tells
  remove_account (Err NoMemory) tells = tt

module _ {S : Type 0} (place_of : S → RawPlace) (f : FabricView) (by : By) (x y : FileView S) (old new : Hand S) where
  pub remove_changes : {T : Type 0} (result : Result T RemoveRefusal) → RemoveTells place_of result f by x y old new → ChangesFile x.seat x y
  remove_changes (Ok done) tells = changes_one _ x y (deleted_one f by tells.view x y old tells.looked tells.deletes)
  remove_changes (Err Absent) tells = changes_one _ x y (refused_one by tells.view DeleteAbsent x y tells.refused)
  remove_changes (Err LogFull) tells = changes_none x y tells.file
  remove_changes (Err NoMemory) tells = elim tells [
    | inl none ↦ changes_none x y none.file
    | inr some ↦ changes_one _ x y (deleted_one f by some.0 x y old some.1 some.2)
  ]

  again : (spare : ℕ) (view : View) (looked : Hand S) → DeletesFile f by view (with_room spare x) y old looked → DeletesFile f by view x y old looked
  again spare view looked is = record {
    begins = record { room = is.begins.room; sees = is.begins.sees };
    present = is.present;
    spare = is.spare;
    noted = is.noted;
  }

  -- the memory that was reserved before is no part of what the answer tells
  pub tells_of_old : (spare : ℕ) {T : Type 0} (result : Result T RemoveRefusal) → RemoveTells place_of result f by (with_room spare x) y old new → RemoveTells place_of result f by x y old new
  tells_of_old spare (Ok done) tells = record {
    view = tells.view;
    looked = tells.looked;
    deletes = again spare tells.view tells.looked tells.deletes;
    released = tells.released;
  }
  tells_of_old spare (Err Absent) tells = record {
    view = tells.view;
    begins = record { room = tells.begins.room; sees = tells.begins.sees };
    absent = tells.absent;
    refused = record { spare = tells.refused.spare; noted = tells.refused.noted };
  }
  tells_of_old spare (Err LogFull) tells = record { full = tells.full; file = tells.file; hand = tells.hand }
  tells_of_old spare (Err NoMemory) tells = elim tells [
    | inl none ↦ inl (record { room = none.room; file = none.file; hand = none.hand })
    | inr some ↦ inr (some.0, some.1, again spare some.0 some.1 some.2)
  ]

-- what follows from a fact follows, unless memory ran out
pub unless_weaker : {T A B : Type 0} (result : Result T RemoveRefusal) → (A → B) → UnlessNoMemory result A → UnlessNoMemory result B
unless_weaker (Ok done) follows holds = follows holds
unless_weaker (Err Absent) follows holds = follows holds
unless_weaker (Err LogFull) follows holds = follows holds
unless_weaker (Err NoMemory) follows holds = tt
