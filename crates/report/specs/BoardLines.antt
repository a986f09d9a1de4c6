-- The lines of the board's log.
use Rattle.std.specs.Prelude.{codes, ℕ, List, [], ◌∷◌, ◌++◌}
use Rattle.std.specs.Fmt.{decimal}
use Rattle.scenario.specs.Ops.{drive_text}
use Rattle.board_history.specs.declared.entry.State.{State}
use Rattle.board_history.specs.declared.entry.State.TheVariants as state
use Rattle.board_history.specs.declared.entry.Order.{Order}
use Rattle.board_history.specs.declared.entry.Order.TheVariants as order
use Rattle.board_history.specs.declared.entry.Effect.{Effect}
use Rattle.board_history.specs.declared.entry.Effect.TheVariants as effect
use Rattle.board_history.specs.declared.entry.BoardEntry.{BoardEntry}
use Rattle.report.specs.Words.{line_feed, by_text}

abbrev pub state_text : State → List ℕ
state_text state.Up = codes "up"
state_text state.Down = codes "down"
state_text state.Gone = codes "gone"

unfoldable pub effect_text : Effect → List ℕ
effect_text effect.Changed = codes "changed"
effect_text (effect.NoChange is) = codes "nochange " ++ state_text is

unfoldable pub order_text : Order → List ℕ
order_text (order.Fail d) = codes "fail " ++ drive_text d
order_text (order.FailNode n) = codes "failnode " ++ decimal n
order_text (order.Down d) = codes "down " ++ drive_text d
order_text (order.Up d) = codes "up " ++ drive_text d

-- who gave an order, the order, and what it did
unfoldable pub board_line : BoardEntry → List ℕ
board_line e = by_text e.by ++ codes " " ++ order_text e.order ++ codes " " ++ effect_text e.effect ++ line_feed

abbrev pub board_lines : List BoardEntry → List ℕ
board_lines [] = []
board_lines (e ∷ es) = board_line e ++ board_lines es
