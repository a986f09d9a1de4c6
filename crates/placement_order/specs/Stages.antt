-- How far a group comes when slots fail and others take their places, and in which order drives are found empty.
use Rattle.std.specs.Prelude.{◌≡◌, ℕ, Bool, true, false, not, ◌&&◌, ◌||◌, if◌then◌else◌, List, [], ◌∷◌, ◌++◌, take}
use Rattle.domains.specs.Drive.{Drive, is_in, same_drive}
use Rattle.placement_order.specs.Order.{DrawRequest, order_of}
use Rattle.placement_order.specs.PassedDrives.{passed_of}

-- how far a group has come: the drives of its slots by position; and those whose slots failed, and those found empty, the earliest first
pub record Stage : Type 0 where
  pub slots : List Drive
  pub failed : List Drive
  pub found : List Drive

-- the list with these in the place of the drive, or at its end if the drive is not there
abbrev pub in_place_of : Drive → List Drive → List Drive → List Drive
in_place_of d these [] = these
in_place_of d these (x ∷ xs) = if same_drive x d then these ++ xs else x ∷ in_place_of d these xs

-- n slots are drawn, if these drives are empty
abbrev pub first_stage : DrawRequest → (Drive → Bool) → ℕ → Stage
first_stage s empty count = record { slots = take count (order_of s empty); failed = []; found = passed_of s empty count }

-- what is asked for when the slot of this drive fails: the group's other drives count as used, and those that failed or were found empty are
-- not usable
abbrev pub request_at : DrawRequest → Stage → Drive → DrawRequest
request_at s stage d = record s {
  usable = λ e. s.usable e && not (is_in (stage.failed ++ d ∷ []) e || is_in stage.found e);
  used = λ e. s.used e || is_in (in_place_of d [] stage.slots) e;
}

-- the slot of this drive fails, and one slot is drawn, whose drive takes its place
abbrev pub next_stage : DrawRequest → (Drive → Bool) → Stage → Drive → Stage
next_stage s empty stage d = record {
  slots = in_place_of d (take 1 (order_of (request_at s stage d) empty)) stage.slots;
  failed = stage.failed ++ d ∷ [];
  found = stage.found ++ passed_of (request_at s stage d) empty 1;
}

-- from a stage on, the slots of these drives fail one after the other
abbrev pub stage_from : List Drive → DrawRequest → (Drive → Bool) → Stage → Stage
stage_from [] s empty stage = stage
stage_from (d ∷ ds) s empty stage = stage_from ds s empty (next_stage s empty stage d)

-- how far a group of n slots comes, if these drives are empty when they are tried, and the slots of those fail in this order
abbrev pub stage_of : DrawRequest → (Drive → Bool) → ℕ → List Drive → Stage
stage_of s empty count failed = stage_from failed s empty (first_stage s empty count)

-- a group of n slots comes to those of these drives, by position, when the slots of `failed` fail in that order, and `found` are the drives
-- that it finds empty, in the order in which it finds them
abbrev pub ComesTo : DrawRequest → ℕ → List Drive → List Drive → List Drive → Type 0
ComesTo s count slots failed found = stage_of s (is_in found) count failed ≡ record { slots = slots; failed = failed; found = found }

-- if more drives are empty, but none that the group has or that failed, then it comes just as far
abbrev pub StagesStay : Type 0
StagesStay = (s : DrawRequest) (empty more : Drive → Bool) → ((d : Drive) → empty d ≡ true → more d ≡ true) → (count : ℕ) (failed : List Drive)
    → ((d : Drive) → (is_in failed d || is_in (stage_of s empty count failed).slots d) ≡ true → more d ≡ false)
    → stage_of s more count failed ≡ stage_of s empty count failed
