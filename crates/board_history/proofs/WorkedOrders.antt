-- Orders to the drives of two nodes of two drives, and what they leave, both ways.
use Rattle.std.proofs.Common.{◌≡◌, ℕ, true, false, List, [], ◌∷◌, refl, rules}
use Rattle.domains.specs.Drive.{Drive}
use Rattle.domains.specs.Shape.{Shape}
use Rattle.board_history.specs.Board.{state_after, up_after, gone_after, IsBoardStep, IsLegalBoardLog}
use Rattle.board_history.specs.declared.entry.State.TheVariants.{Up, Gone}
use Rattle.board_history.specs.declared.entry.Order.{Order}
use Rattle.board_history.specs.declared.entry.Order.TheVariants as order
use Rattle.board_history.specs.declared.entry.Effect.{Effect}
use Rattle.board_history.specs.declared.entry.Effect.TheVariants.{Changed, NoChange}
use Rattle.board_history.specs.declared.entry.BoardEntry.{BoardEntry}

abbrev shape : Shape
shape = record { nodes = 2; drives = 2; slots = 16; unit = 8 }

abbrev drive : ℕ → ℕ → Drive
drive node number = record { node = node; drive = number }

abbrev entry : ℕ → Order → Effect → BoardEntry
entry call given done = record { by = record { actor = 1; call = call }; order = given; effect = done }

-- a drive goes down and comes up, a node fails, and a gone drive does not come back
abbrev log : List BoardEntry
log =
    entry 1 (order.Down (drive 1 2)) Changed ∷ entry 2 (order.Up (drive 1 2)) Changed ∷ entry 3 (order.FailNode 2) Changed
    ∷ entry 4 (order.Up (drive 2 1)) (NoChange Gone) ∷ entry 5 (order.Fail (drive 2 2)) (NoChange Gone) ∷ []

log_is_legal : IsLegalBoardLog shape log
log_is_legal = search rules

down_after_the_first : up_after shape log 1 (drive 1 2) ≡ false
down_after_the_first = refl

up_after_the_second : up_after shape log 2 (drive 1 2) ≡ true
up_after_the_second = refl

-- a drive of the failed node is gone, and its neighbour is not
gone_with_its_node : gone_after shape log 3 (drive 2 1) ≡ true
gone_with_its_node = refl

still_up : state_after log (drive 1 1) ≡ Up
still_up = refl

-- a drive that the cluster does not have is never up
not_of_the_cluster : up_after shape log 5 (drive 3 1) ≡ false
not_of_the_cluster = refl

changed_is_not : Changed ≡ NoChange Gone → ⊥
changed_is_not same = search rules

-- an order to a gone drive does not change it, so an entry that says so is not legal
no_way_back : IsBoardStep shape log (entry 6 (order.Up (drive 2 1)) Changed) → ⊥
no_way_back step = changed_is_not step.effect
