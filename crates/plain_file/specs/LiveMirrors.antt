-- When a mirror lost too much.
use Rattle.std.specs.Prelude.{ℕ, Bool, ◌||◌, List, length, Option, Some, None, if◌then◌else◌}
use Rattle.flex_io.specs.declared.raw_place.RawPlace.{RawPlace}
use Rattle.domains.specs.Shape.{Shape}
use Rattle.domains.specs.declared.group.Lost.{Lost}
use Rattle.board_history.specs.Board.{up_after}
use Rattle.board_history.specs.declared.entry.BoardEntry.{BoardEntry}
use Rattle.held_slots.specs.Slots.{place_from}
use Rattle.plain_file.specs.declared.pair.Pair.{Pair}

-- a drive of the two slots is up
abbrev pub live_pair : {S : Type 0} → (S → RawPlace) → Shape → List BoardEntry → Pair S → Bool
live_pair place_of shape board pair =
    up_after shape board (length board) (place_from (place_of pair.first)).drive
    || up_after shape board (length board) (place_from (place_of pair.second)).drive

-- a mirror of this generation is lost where none of its units is live
abbrev pub lost_mirror : ℕ → Bool → Option Lost
lost_mirror generation live = if live then None else Some (record { generation = generation; have = 0; need = 1 })
