-- Accounts of a hand and of a seat at a file, from one turn to the next.
use Rattle.std.proofs.Common.{◌≡◌, ℕ, ◌+◌, ◌-◌, ◌*◌, ◌^◌, Bool, if◌then◌else◌, List, [], ◌∷◌, ◌++◌, refl, sym, ap, subst, ◌∙◌, arith, eq-eqb}
use Rattle.domains.specs.Drive.{Drive}
use Rattle.domains.specs.Level.{Level}
use Rattle.domains.specs.Place.{Place}
use Rattle.domains.specs.Shape.{Shape}
use Rattle.board.specs.declared.board_view.View.{View}
use Rattle.turn_cell.specs.Notes.{notes_by}
use Rattle.turn_cell.specs.declared.chronicle.Note.{Note}
use Rattle.fabric.specs.Accounts.{Holds}
use Rattle.fabric.specs.Cells.{FabricView}
use Rattle.fabric.specs.declared.hand.Hand.{Hand}
use Rattle.fabric.proofs.HeldCounts.{Holds-modulo}
use Rattle.file_history.specs.Layout.{empty_layout, layout_after}
use Rattle.file_history.specs.declared.entry.FileEvent.{FileEvent}
use Rattle.file_core.specs.Accounts.{groups_placed, groups_taken, is_own, placed_by, taken_by, units_at}
use Rattle.file_core.specs.FileView.{FileView, layout_of}
use Rattle.file_core.specs.Notes.{told_of}
use Rattle.file_core.specs.declared.noted.Noted.{Noted}
use Rattle.file_core.proofs.FileAccounts.{accounts_stay, placed_in-append, taken_in-append}
use Rattle.file_turns.specs.FileTurns.{FollowsFile}
use Rattle.file_turns.specs.PathAccounts.{Account, on_drive}
use Rattle.file_turns.specs.Paths.{SeesBoard}
use Rattle.file_turns.proofs.FileTurnLemmas.{NotesOne}

abbrev note_of : ℕ → ℕ → Noted → Note Noted
note_of turn seat n = record { turn = turn; seat = seat; entry = n }

abbrev event_of : Noted → FileEvent
event_of n = n.told.entry.event

counts_own : (seat turn m : ℕ) (n : Noted) → (if is_own seat (note_of turn seat n) then m else 0) ≡ m
counts_own seat turn m n = ap (λ (b : Bool). if b then m else 0) (eq-eqb seat seat refl)

-- a note of the seat's own counts in what it placed, and in what it took away
placed_more : (seat turn : ℕ) (p : Place → Bool) (notes : List (Note Noted)) (n : Noted)
    → placed_by seat p (notes ++ note_of turn seat n ∷ []) ≡ placed_by seat p notes + units_at p (groups_placed (event_of n))
placed_more seat turn p notes n =
    let sum = placed_in-append notes (note_of turn seat n ∷ []) (is_own seat) p in
    let own = counts_own seat turn (units_at p (groups_placed (event_of n))) n in
    omega (arith, sum, own)

taken_more : (seat turn : ℕ) (p : Place → Bool) (level : Level) (notes : List (Note Noted)) (n : Noted)
    → taken_by seat p level (notes ++ note_of turn seat n ∷ []) ≡ taken_by seat p level notes + units_at p (groups_taken (event_of n) (layout_after level (told_of notes)))
taken_more seat turn p level notes n =
    let sum = taken_in-append notes (note_of turn seat n ∷ []) level (empty_layout level) (is_own seat) p in
    let own = counts_own seat turn (units_at p (groups_taken (event_of n) (layout_after level (told_of notes)))) n in
    omega (arith, sum, own)

module _ {S : Type 0} where
  -- the hand gained and lost slots of the drive as the note placed units there and took units away
  pub account_noted : (shape : Shape) (d : Drive) (many : ℕ) (n : Noted) (x y : FileView S) (old new : Hand S) (gain lose : ℕ) → NotesOne n x y
      → ((held : ℕ) → Holds shape d (held + lose) old → Holds shape d (held + gain) new)
      → gain + units_at (on_drive d) (groups_taken (event_of n) (layout_of x)) ≡ lose + units_at (on_drive d) (groups_placed (event_of n))
      → Account shape d many x.seat x old → Account shape d many x.seat y new
  account_noted shape d many n x y old new gain lose one moves even account =
      let held = account.held in
      let start : ℕ = held + 2 ^ 64 * lose - lose in
      let sum = account.sum in
      let placed = ap (placed_by x.seat (on_drive d)) one.notes ∙ placed_more x.seat x.turns (on_drive d) x.notes n in
      let taken : taken_by x.seat (on_drive d) y.level y.notes ≡ taken_by x.seat (on_drive d) x.level x.notes + units_at (on_drive d) (groups_taken (event_of n) (layout_of x)) =
      (λ i. taken_by x.seat (on_drive d) (one.terms i).level (one.notes i)) ∙ taken_more x.seat x.turns (on_drive d) x.level x.notes n in
      record {
        held = start + gain;
        holds = moves start (Holds-modulo shape d held (start + lose) old (omega arith) account.holds);
        sum = omega (arith, sum, placed, taken, even);
      }

  -- nothing of the account changed
  pub account_same : (shape : Shape) (d : Drive) (many seat : ℕ) (x y : FileView S) (old new : Hand S) → y.level ≡ x.level → y.notes ≡ x.notes
      → ((held : ℕ) → Holds shape d held old → Holds shape d held new) → Account shape d many seat x old → Account shape d many seat y new
  account_same shape d many seat x y old new level notes moves account =
      let sum = account.sum in
      let placed = ap (placed_by seat (on_drive d)) notes in
      let taken : taken_by seat (on_drive d) y.level y.notes ≡ taken_by seat (on_drive d) x.level x.notes = λ i. taken_by seat (on_drive d) (level i) (notes i) in
      record { held = account.held; holds = moves account.held account.holds; sum = omega (arith, sum, placed, taken) }

  -- other seats' turns leave the account as it was
  pub account_follows : (shape : Shape) (d : Drive) (many seat : ℕ) (last x : FileView S) (hand : Hand S) → FollowsFile seat last x
      → Account shape d many seat last hand → Account shape d many seat x hand
  account_follows shape d many seat last x hand follows account =
      let sum = account.sum in
      let more = follows.seen.0 in
      let is : last.notes ++ more ≡ x.notes = follows.seen.1 in
      let level : x.level ≡ last.level = ap (λ t. t.level) follows.fixed in
      let stay = accounts_stay last.level seat (on_drive d) last.notes more (ap (notes_by seat) is ∙ follows.mine) in
      let placed : placed_by seat (on_drive d) x.notes ≡ placed_by seat (on_drive d) last.notes = ap (placed_by seat (on_drive d)) (sym is) ∙ stay.0 in
      let taken : taken_by seat (on_drive d) x.level x.notes ≡ taken_by seat (on_drive d) last.level last.notes =
      (λ i. taken_by seat (on_drive d) (level i) (sym is i)) ∙ stay.1 in
      record { held = account.held; holds = account.holds; sum = omega (arith, sum, placed, taken) }

  -- a look at the board moves no slot
  pub holds_looked : (f : FabricView) (least : ℕ) (view : View) (shape : Shape) (d : Drive) (held : ℕ) (old new : Hand S) → SeesBoard f least view old new
      → Holds shape d held old → Holds shape d held new
  holds_looked f least view shape d held old new sees holds =
      subst (Holds shape d held) (sym sees.only) (record { pool = holds.pool; pool_is = holds.pool_is; sum = holds.sum })
