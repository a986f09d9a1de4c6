-- Which spent drives a draw passes over, in the order in which it tries them.
use Rattle.std.specs.Prelude.{ℕ, nat_le, Bool, if◌then◌else◌, List, [], ◌∷◌, ◌++◌, length}
use Rattle.domains.specs.Drive.{Drive, is_in}
use Rattle.placement_order.specs.Order.{DrawRequest, drives_of, given_at, is_open, units_on, visits_of, with_drive}

-- the drives passed over once these are tried, up to the one that gives a slot: a drive is tried if it is open as far as is known, that is, if
-- only those passed over so far count as spent
abbrev pub passed_on : DrawRequest → (Drive → Bool) → List Drive → List Drive → List Drive → List Drive
passed_on s spent drawn [] passed = passed
passed_on s spent drawn (d ∷ ds) passed =
    if is_open s (is_in passed) drawn d
    then (if spent d then passed_on s spent drawn ds (passed ++ d ∷ []) else passed)
    else passed_on s spent drawn ds passed

-- the drives passed over once a visit is made: it tries none if the node has as many units as the round's number
abbrev pub passed_at : DrawRequest → (Drive → Bool) → List Drive → List Drive → ℕ × ℕ → List Drive
passed_at s spent drawn passed visit =
    if nat_le visit.0 (units_on s drawn visit.1) then passed else passed_on s spent drawn (drives_of s visit.1) passed

-- the drives passed over once these visits are made: none is made after n drives have given slots
abbrev pub passed_in : List (ℕ × ℕ) → DrawRequest → (Drive → Bool) → ℕ → List Drive → List Drive → List Drive
passed_in [] s spent count drawn passed = passed
passed_in (visit ∷ visits) s spent count drawn passed =
    if nat_le count (length drawn)
    then passed
    else passed_in visits s spent count (with_drive drawn (given_at s spent drawn visit)) (passed_at s spent drawn passed visit)

-- the drives that a draw of n slots tries and passes over, in order, if these are spent
abbrev pub passed_of : DrawRequest → (Drive → Bool) → ℕ → List Drive
passed_of s spent count = passed_in (visits_of s) s spent count [] []
