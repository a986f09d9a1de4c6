-- Small maps, by computation.
use Rattle.std.proofs.Common.{◌≡◌, ℕ, List, [], ◌∷◌, true, refl}
use Rattle.domains.specs.Level.{two_copies}
use Rattle.domains.specs.declared.group.Group.{Group}
use Rattle.file_history.specs.Layout.{Layout, empty_layout}
use Rattle.file_history.specs.Live.{write, needed_of_map}
use Rattle.file_history.specs.WriteRule.{affected_groups, generations_of, new_units}
use Rattle.write_rule.specs.Runs.{first_replaced, stop_replaced}

group : ℕ → ℕ → Group
group generation n = record { generation = generation; n = n; m = 1; places = [] }

-- a file of units of 8 bytes
of_groups : ℕ → List Group → Layout
of_groups size groups = record (empty_layout two_copies) { present = true; size = size; groups = groups }

-- what the rule says of a write: the groups that go, those it needs, the first, the one behind the last, the new units
record Says (size : ℕ) (groups : List Group) (offset len width : ℕ) (gone needed : List ℕ) (first stop new : ℕ) : Type 0 where
  pub gone_is : generations_of (affected_groups 8 (of_groups size groups) offset len width) ≡ gone
  pub needed_is : generations_of (needed_of_map 8 (of_groups size groups) (write offset len width)) ≡ needed
  pub first_is : first_replaced 8 (of_groups size groups) offset len width ≡ first
  pub stop_is : stop_replaced 8 (of_groups size groups) offset len ≡ stop
  pub new_is : new_units 8 (of_groups size groups) offset len width ≡ new

-- the first write of a file
first_write : Says 0 [] 0 5 1 [] [] 0 0 1
unfolding of_groups group
first_write = record { gone_is = refl; needed_is = refl; first_is = refl; stop_is = refl; new_is = refl }

-- behind a full group
behind_full : Says 32 (group 1 4 ∷ []) 32 8 4 [] [] 1 1 1
unfolding of_groups group
behind_full = record { gone_is = refl; needed_is = refl; first_is = refl; stop_is = refl; new_is = refl }

-- behind a last group with room, far away
fills_up : Says 40 (group 1 4 ∷ group 2 1 ∷ []) 80 8 4 (2 ∷ []) (2 ∷ []) 1 2 7
unfolding of_groups group
fills_up = record { gone_is = refl; needed_is = refl; first_is = refl; stop_is = refl; new_is = refl }

-- from the middle of a group to the middle of another: the one between is not needed
across : Says 96 (group 1 4 ∷ group 2 4 ∷ group 3 4 ∷ []) 12 60 4 (1 ∷ 2 ∷ 3 ∷ []) (1 ∷ 3 ∷ []) 0 3 12
unfolding of_groups group
across = record { gone_is = refl; needed_is = refl; first_is = refl; stop_is = refl; new_is = refl }

-- within one group, with narrower groups around it
within : Says 96 (group 1 4 ∷ group 2 4 ∷ group 3 4 ∷ []) 40 8 2 (2 ∷ []) (2 ∷ []) 1 2 4
unfolding of_groups group
within = record { gone_is = refl; needed_is = refl; first_is = refl; stop_is = refl; new_is = refl }
