-- The rooms and turns of a small cluster.
use Rattle.std.proofs.Common.{◌≡◌, ℕ, [], ◌∷◌, Bool, Some, None, true, false, filter_map, refl}
use Rattle.domains.specs.Drive.{Drive, is_in}
use Rattle.placement_order.specs.Order.{DrawRequest, visits_of, order_of}
use Rattle.placement_order.specs.Room.{room_left}
use Rattle.placement_order.specs.Turns.{left_on, turn_of}

abbrev at : ℕ → ℕ → Drive
at node drive = record { node = node; drive = drive }

-- three nodes of three drives, two units a node, where the group has one unit on the first node and two on the second
abbrev repaired : DrawRequest
repaired = record {
  level = record { w = 16; m = 2; k = 2 };
  shape = record { nodes = 3; drives = 3; slots = 16; unit = 8 };
  usable = λ d. true;
  used = is_in (at 1 3 ∷ at 2 1 ∷ at 2 2 ∷ []);
  spin = 5;
}

abbrev spent : Drive → Bool
spent d = false

-- the spin begins at the third node and at the second drive of each
third_is_first : left_on repaired spent 3 ≡ at 3 2 ∷ at 3 3 ∷ at 3 1 ∷ []
third_is_first = refl

-- the first node has a unit and gives none in the first round, and the second gives none at all
first_round : turn_of repaired spent (1, 1) ≡ None
first_round = refl

second_round : turn_of repaired spent (2, 1) ≡ Some (at 1 2)
second_round = refl

full : turn_of repaired spent (2, 2) ≡ None
full = refl

three : order_of repaired spent ≡ at 3 2 ∷ at 3 3 ∷ at 1 2 ∷ []
three = refl

three_by_turns : filter_map (turn_of repaired spent) (visits_of repaired) ≡ at 3 2 ∷ at 3 3 ∷ at 1 2 ∷ []
three_by_turns = refl

room : room_left repaired spent ≡ 3
room = refl

-- where two drives of the third node are spent it has room for one, and where both of the first node are it has none
less_room : room_left repaired (is_in (at 3 2 ∷ at 3 1 ∷ at 1 1 ∷ at 1 2 ∷ [])) ≡ 1
less_room = refl
