-- Slots that fail one after the other, on a small cluster.
use Rattle.std.proofs.Common.{◌≡◌, ℕ, Bool, true, false, List, [], ◌∷◌, refl, ap}
use Rattle.std.proofs.lemmas.Bool.{both_ways}
use Rattle.domains.specs.Drive.{Drive, is_in, same_drive}
use Rattle.placement_order.specs.Order.{DrawRequest}
use Rattle.placement_order.specs.PassedDrives.{passed_of}
use Rattle.placement_order.specs.Stages.{ComesTo, Stage}

abbrev at : ℕ → ℕ → Drive
at node drive = record { node = node; drive = drive }

-- three nodes of two drives, all of them usable, at two correction units of which one node may have two, spin 1
abbrev three_nodes : DrawRequest
three_nodes = record {
  level = record { w = 16; m = 2; k = 2 };
  shape = record { nodes = 3; drives = 2; slots = 16; unit = 8 };
  usable = λ d. true;
  used = λ d. false;
  spin = 1;
}

abbrev empty : Drive → Bool
empty = is_in (at 3 2 ∷ at 1 2 ∷ [])

-- three slots are drawn, on three nodes, and no empty drive is tried
three_drawn : ComesTo three_nodes 3 (at 2 1 ∷ at 3 1 ∷ at 1 1 ∷ []) [] []
three_drawn = refl

none_passed : passed_of three_nodes empty 3 ≡ []
none_passed = refl

-- the slot on the third node fails: its other drive is tried first and found empty, and the second node gives another slot, in its position
one_failed : ComesTo three_nodes 3 (at 2 1 ∷ at 2 2 ∷ at 1 1 ∷ []) (at 3 1 ∷ []) (at 3 2 ∷ [])
one_failed = refl

-- then the slot on the first node fails: its other drive is empty too, and no drive is left
two_failed : ComesTo three_nodes 3 (at 2 1 ∷ at 2 2 ∷ []) (at 3 1 ∷ at 1 1 ∷ []) (at 3 2 ∷ at 1 2 ∷ [])
two_failed = refl

-- if they fail the other way round, the same drives are found empty the other way round, and the second node's slot takes the other position
other_way : ComesTo three_nodes 3 (at 2 1 ∷ at 2 2 ∷ []) (at 1 1 ∷ at 3 1 ∷ []) (at 1 2 ∷ at 3 2 ∷ [])
other_way = refl

-- the order of the failures settles the order in which the drives are found
abbrev begins_with : Drive → List Drive → Bool
begins_with d [] = false
begins_with d (x ∷ xs) = same_drive x d

wrong_order : ComesTo three_nodes 3 (at 2 1 ∷ at 2 2 ∷ []) (at 3 1 ∷ at 1 1 ∷ []) (at 1 2 ∷ at 3 2 ∷ []) → ⊥
wrong_order comes = both_ways true (ap (λ (stage : Stage). begins_with (at 3 2) stage.found) comes) refl

-- and each slot that comes stands in the position of the one that failed
wrong_position : ComesTo three_nodes 3 (at 2 2 ∷ at 2 1 ∷ at 1 1 ∷ []) (at 3 1 ∷ []) (at 3 2 ∷ []) → ⊥
wrong_position comes = both_ways true (ap (λ (stage : Stage). begins_with (at 2 1) stage.slots) comes) refl
