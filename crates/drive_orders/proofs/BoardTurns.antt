-- One turn of a seat at the board.
use Rattle.std.proofs.Common.{◌≡◌, ℕ, ◌+◌, [], Result, Ok, Err, refl, sym, ap, subst, ◌∙◌}
use Rattle.turn_cell.proofs.HistoryLemmas.{Changed-none, Changed-one}
use Rattle.board.specs.History.{History, with_entry}
use Rattle.board.specs.Views.{ChangesBoard}
use Rattle.board.specs.declared.board.Grow.{Grow}
use Rattle.board.specs.declared.board.Grow.TheVariants.{LogFull, NoMemory}
use Rattle.board_history.specs.declared.entry.BoardEntry.{BoardEntry}
use Rattle.board_history.specs.declared.entry.Effect.{Effect}
use Rattle.board_history.specs.declared.entry.Order.{Order}
use Rattle.domains.specs.Shape.{Shape}
use Rattle.domains.specs.declared.by.By.{By}
use Rattle.turn_cell.specs.Seats.{Enters, SeatView, left}
use Rattle.drive_orders.specs.Orders.{BoardTurn, OrderTells, with_spare}

-- what a turn at the board tells at its start
abbrev pub EntersBoard : SeatView History → SeatView History → History → History → Type 0
EntersBoard before within x state =
    Enters {E = BoardEntry} {F = Shape × ℕ} (λ (h : History). h.turns) (λ (h : History). h.notes) (λ (h : History) (k : ℕ). []) (λ (h : History). (h.shape, h.room))
    (λ (h : History) (seat : ℕ). record h { seat = seat }) before within x state

changes_none : (x y : History) → y ≡ with_spare y.spare x → ChangesBoard x.seat x y
changes_none x y same =
    Changed-none (λ (h : History). h.turns) (λ (h : History). h.notes) (λ (h : History) (k : ℕ). []) (λ (h : History). (h.shape, h.room)) x.seat x y
    (ap (λ (h : History). h.turns) same) (ap (λ (h : History). h.notes) same) (λ k other. refl) (ap (λ (h : History). (h.shape, h.room)) same)

changes_one : (spare : ℕ) (entry : BoardEntry) (x y : History) → y ≡ with_entry (with_spare spare x) entry → ChangesBoard x.seat x y
changes_one spare entry x y is =
    Changed-one (λ (h : History). h.turns) (λ (h : History). h.notes) (λ (h : History) (k : ℕ). []) (λ (h : History). (h.shape, h.room)) x.seat x y
    (record { turn = x.turns; seat = x.seat; entry = entry })
    (ap (λ (h : History). h.turns) is) (ap (λ (h : History). h.notes) is) refl refl (λ k other. refl) (ap (λ (h : History). (h.shape, h.room)) is)

order_changes : (result : Result Effect Grow) (by : By) (order : Order) (x y : History) → OrderTells result by order x y → ChangesBoard x.seat x y
order_changes (Ok effect) by order x y tells = changes_one tells.spare _ x y tells.noted
order_changes (Err LogFull) by order x y tells = changes_none x y tells.0
order_changes (Err NoMemory) by order x y tells = changes_none x y tells.0

-- a change of the board with which a turn began is one of the board that it found
pub turn_within : (result : Result Effect Grow) (by : By) (order : Order) (before within : SeatView History) (x begun state y : History) → EntersBoard before within x begun → state ≡ begun
    → OrderTells result by order state y → ChangesBoard within.number x y
turn_within result by order before within x begun state y entered same tells =
    let changes = order_changes result by order state y tells in
    let at_x = subst (λ (s : History). ChangesBoard s.seat s y) (same ∙ entered.begins) changes in
    subst (λ (w : SeatView History). ChangesBoard w.number x y) (sym entered.seat)
    (record { turns = at_x.turns; more = at_x.more; notes = at_x.notes; own = at_x.own; others = at_x.others; fixed = at_x.fixed })

-- the turn as a whole
pub board_turn : (what : History → History → Type 0) (before within after : SeatView History) (x begun state y : History) → EntersBoard before within x begun → state ≡ begun → what state y
    → after ≡ left within (x.turns + 1) (record y { turns = y.turns + 1 }) → BoardTurn what before after
board_turn what before within after x begun state y entered same did leaves = record {
  found = x;
  done = y;
  turns = entered.turns;
  follows = entered.follows;
  lone = entered.lone;
  did = subst (λ (s : History). what s y) (same ∙ entered.begins) did;
  now = leaves ∙ ap (λ seat. left seat (x.turns + 1) (record y { turns = y.turns + 1 })) entered.seat;
}

-- the board that the turn finds is of the shape that the seat knows
pub shape_found : (before within : SeatView History) (x begun state : History) → EntersBoard before within x begun → state ≡ begun → state.shape ≡ before.last.shape
shape_found before within x begun state entered same =
    ap (λ (h : History). h.shape) (same ∙ entered.begins) ∙ ap (λ (p : Shape × ℕ). p.0) entered.follows.fixed
