use Rattle.std.proofs.Common.{◌≡◌, ◌<◌, ◌≤◌, ◌+◌, Bool, true, take, count_by, get_or}
use Rattle.domains.specs.Drive.{same_drive}
use Rattle.held_slots.specs.Slots.{place_from}
use Rattle.plain_file.proofs.pools.top_of.Given as goal

-- if any slot so far is on the drive, the last of them is the top
abbrev pub invariant-loop-at : goal.invariant-loop-at
invariant-loop-at g l =
    let is_there : g.row.S.Denot → Bool = λ x. same_drive l.drive (place_from (g.S.Slot.place_of x)).drive in
    1 ≤ count_by is_there (take l.at l.free)
    → (l.top < l.at) × ((d : g.row.S.Denot) → is_there (get_or l.free l.top d) ≡ true)
    × (count_by is_there (take l.at l.free) ≡ count_by is_there (take (l.top + 1) l.free))
