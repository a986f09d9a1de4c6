-- What one turn of a path leaves of its file and of the account.
use Rattle.std.proofs.Common.{◌≡◌, ℕ, ◌+◌, true, sym, ap, subst, ◌∙◌, refl}
use Rattle.domains.specs.Drive.{Drive}
use Rattle.domains.specs.Shape.{Shape, is_of}
use Rattle.turn_cell.specs.Seats.{SeatView}
use Rattle.fabric.specs.declared.hand.Hand.{Hand}
use Rattle.file_core.specs.FileView.{FileView}
use Rattle.file_core.specs.declared.chronicle.FileTerms.{FileTerms}
use Rattle.file_turns.specs.FileTurns.{terms_of}
use Rattle.file_turns.proofs.FileTurnLemmas.{EntersFile}
use Rattle.file_turns.specs.PathAccounts.{Account, KeepsAccount}
use Rattle.file_turns.proofs.PathAccountLemmas.{account_follows}

module _ {S : Type 0} (before within : SeatView (FileView S)) (x begun state : FileView S) (entered : EntersFile before within x begun) (same : state ≡ begun) where
  found : state ≡ record x { seat = before.number }
  found = same ∙ entered.begins

  -- the file that the turn finds is of the shape that the seat knows
  pub shape_found : (shape : Shape) → before.last.shape ≡ shape → state.shape ≡ shape
  shape_found shape is = ap (λ (f : FileView S). f.shape) found ∙ ap (λ (t : FileTerms). t.shape) entered.follows.fixed ∙ is

  -- an account that the path kept is kept from the last turn of the seat to this one
  pub keeps_from_last : (shape : Shape) (y : FileView S) (turns : ℕ) (old new : Hand S) → KeepsAccount shape state.seat state y old new
      → KeepsAccount shape before.number before.last (record y { turns = turns }) old new
  keeps_from_last shape y turns old new keeps = record {
    each = λ d many of account.
        let at : Account shape d many before.number x old = account_follows shape d many before.number before.last x old entered.follows account in
        let begins : Account shape d many before.number (record x { seat = before.number }) old = record { held = at.held; holds = at.holds; sum = at.sum } in
        let seat : state.seat ≡ before.number = ap (λ (f : FileView S). f.seat) found in
        let ends : Account shape d many before.number y new =
        subst (λ n. Account shape d many n y new) seat
        (keeps.each d many of (subst (λ n. Account shape d many n state old) (sym seat) (subst (λ (f : FileView S). Account shape d many before.number f old) (sym found) begins))) in
        record { held = ends.held; holds = ends.holds; sum = ends.sum };
  }
