-- The definition of the retired places on a small run: three nodes of one drive, and a mirrored file whose inode a write replaces.
use Rattle.std.proofs.Common.{codes, ◌≡◌, ℕ, List, [], ◌∷◌, count_by, refl}
use Rattle.flex_io.specs.declared.rack.Returned.{Returned}
use Rattle.domains.specs.Place.{Place, same_place}
use Rattle.domains.specs.Shape.{Shape}
use Rattle.domains.specs.Level.{two_copies}
use Rattle.domains.specs.declared.group.Group.{Group}
use Rattle.board_history.specs.declared.entry.BoardEntry.{BoardEntry}
use Rattle.file_history.specs.World.{world_of}
use Rattle.file_history.specs.declared.entry.FileEvent.{FileEvent}
use Rattle.file_history.specs.declared.entry.FileEvent.TheVariants.{Created, Written, Shown}
use Rattle.file_history.specs.declared.entry.NotedEntry.{NotedEntry}
use Rattle.flex_run.specs.Operations.{by_call, fail_entry}
use Rattle.flex_run.specs.RetiredPlaces.{retired_places}
use Rattle.flex_run.specs.RunReturns.{places_back, AreSamePlaces}

abbrev shape : Shape
shape = record { nodes = 3; drives = 1; slots = 3; unit = 8 }

abbrev placed : ℕ → ℕ → Place
placed node slot = record { drive = record { node = node; drive = 1 }; slot = slot }

abbrev mirror : ℕ → Place → Place → Group
mirror generation a b = record { generation = generation; n = 1; m = 1; places = a ∷ b ∷ [] }

abbrev told : ℕ → ℕ → FileEvent → List ℕ → NotedEntry
told call epoch event payload = record { entry = record { by = by_call call; epoch = epoch; event = event }; payload = payload }

-- the file is created, and then written and read, after `written` and `read` entries of the board
abbrev log : ℕ → ℕ → List NotedEntry
log written read =
    told 1 0 (Created (mirror 0 (placed 1 0) (placed 2 0))) []
    ∷ told 3 written (Written 0 5 5 (record { old = []; new = mirror 1 (placed 3 0) (placed 1 1) ∷ []; inode = mirror 2 (placed 1 2) (placed 3 1) })) (codes "hello")
    ∷ told 4 read (Shown 0 5 (codes "hello")) [] ∷ []

-- the drive of this node is lost
abbrev board : ℕ → List BoardEntry
board node = fail_entry shape [] (by_call 2) (record { node = node; drive = 1 }) ∷ []

-- the inode's slot on the lost drive is retired, and the one on the drive that is up is not
one_is_retired : retired_places (world_of shape (board 2) two_copies) (log 1 1) ≡ placed 2 0 ∷ []
one_is_retired = refl

-- where the drive is lost after the write, none is
none_is_retired : retired_places (world_of shape (board 2) two_copies) (log 0 1) ≡ []
none_is_retired = refl

-- where a drive is lost on which the file has units, these stay its own
units_stay : retired_places (world_of shape (board 1) two_copies) (log 0 1) ≡ []
units_stay = refl

-- a slot of the lost drive that was never used is none of the retired ones that came back
never_used : (retired : List Returned) → AreSamePlaces (places_back retired) (retired_places (world_of shape (board 2) two_copies) (log 1 1))
    → count_by (same_place (placed 2 1)) (places_back retired) ≡ 0
never_used retired same = same (placed 2 1)
