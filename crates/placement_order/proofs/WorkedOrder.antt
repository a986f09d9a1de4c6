-- The order of placement on a small cluster.
use Rattle.std.proofs.Common.{◌≡◌, ℕ, Bool, true, false, [], ◌∷◌, take, inl, inr, refl, arith}
use Rattle.std.proofs.lemmas.Bool.{both_ways}
use Rattle.domains.specs.Drive.{Drive, same_drive, is_in}
use Rattle.placement_order.specs.Order.{DrawRequest, order_of}
use Rattle.placement_order.specs.OrderLaws.{MayGive, NoneIsLeft}
use Rattle.placement_order.specs.PassedDrives.{passed_of}

abbrev at : ℕ → ℕ → Drive
at node drive = record { node = node; drive = drive }

-- three nodes of two drives, all of them usable, at two correction units of which one node may have two, spin 1
abbrev three_nodes : DrawRequest
three_nodes = record {
  level = record { w = 16; m = 2; k = 2 };
  shape = record { nodes = 3; drives = 2; slots = 16; unit = 8 };
  usable = λ d. true;
  used = λ d. false;
  spin = 1;
}

-- six units: the second node comes first, and each node has two of them
six : order_of three_nodes (λ d. false) ≡ at 2 1 ∷ at 3 1 ∷ at 1 1 ∷ at 2 2 ∷ at 3 2 ∷ at 1 2 ∷ []
six = refl

-- if a drive is spent, the next one of its node takes its place, and the node has one unit less
one_spent : order_of three_nodes (λ d. same_drive d (at 3 1)) ≡ at 2 1 ∷ at 3 2 ∷ at 1 1 ∷ at 2 2 ∷ at 1 2 ∷ []
one_spent = refl

-- the first five, of which the second fails: its node's other drive takes its place, and the others stay
five_of_six : take 5 (order_of three_nodes (λ d. false)) ≡ at 2 1 ∷ at 3 1 ∷ at 1 1 ∷ at 2 2 ∷ at 3 2 ∷ []
five_of_six = refl

five_without_it : take 5 (order_of three_nodes (λ d. same_drive d (at 3 1))) ≡ at 2 1 ∷ at 3 2 ∷ at 1 1 ∷ at 2 2 ∷ at 1 2 ∷ []
five_without_it = refl

-- the drive that comes in its place is the first of the order that uses the other four, and one of these five
abbrev with_four : DrawRequest
with_four = record three_nodes { used = is_in (at 2 1 ∷ at 1 1 ∷ at 2 2 ∷ at 3 2 ∷ []) }

comes : order_of with_four (λ d. same_drive d (at 3 1)) ≡ at 1 2 ∷ []
comes = refl

-- three drives are spent: a visit names those that it passes over, each once, and tries none behind the one that gives a slot
abbrev three_spent : Drive → Bool
three_spent = is_in (at 1 1 ∷ at 2 2 ∷ at 3 1 ∷ [])

passed_by_six : passed_of three_nodes three_spent 6 ≡ at 3 1 ∷ at 1 1 ∷ at 2 2 ∷ []
passed_by_six = refl

-- a draw of two ends before the visit of node 1
passed_by_two : passed_of three_nodes three_spent 2 ≡ at 3 1 ∷ []
passed_by_two = refl

-- a drive that comes twice may not give slots
one_drive_twice : MayGive three_nodes (λ d. false) (at 2 1 ∷ at 2 1 ∷ []) → ⊥
one_drive_twice may = both_ways (is_in (at 2 1 ∷ []) (at 2 1)) may.apart.0 refl

-- nothing drawn is no full group while a drive is left
none_of_six : NoneIsLeft three_nodes (λ d. false) [] → ⊥
none_of_six none = elim (none (at 1 1) refl refl) [
  | inl there ↦ both_ways false refl there
  | inr full ↦ omega (arith, full)
]
