-- The items of a phase.
use Rattle.std.specs.Prelude.{ℕ, zero, suc, Bool, true, false, List, [], ◌∷◌, replicate, count_by}
use Rattle.checkpoints.specs.declared.checkpoint.ItemSaved.{ItemSaved}
use Rattle.checkpoints.specs.declared.checkpoint.ItemSaved.TheVariants.{ToDo, Out, Whole, Lost, Short}
use Rattle.engine_history.specs.declared.end.End.{End}
use Rattle.engine_history.specs.declared.end.End.TheVariants as end

abbrev pub is_to_do : ItemSaved → Bool
is_to_do (ToDo next) = true
is_to_do (Out next) = false
is_to_do Whole = false
is_to_do Lost = false
is_to_do Short = false

abbrev pub is_out : ItemSaved → Bool
is_out (ToDo next) = false
is_out (Out next) = true
is_out Whole = false
is_out Lost = false
is_out Short = false

abbrev pub is_whole : ItemSaved → Bool
is_whole (ToDo next) = false
is_whole (Out next) = false
is_whole Whole = true
is_whole Lost = false
is_whole Short = false

abbrev pub has_ended : ItemSaved → Bool
has_ended (ToDo next) = false
has_ended (Out next) = false
has_ended Whole = true
has_ended Lost = true
has_ended Short = true

-- how many items are out
abbrev pub count_out : List ItemSaved → ℕ
count_out items = count_by is_out items

-- the item is given out, and goes on from its next position
abbrev pub handed_out : ItemSaved → ItemSaved
handed_out (ToDo next) = Out next
handed_out (Out next) = Out next
handed_out Whole = Out 0
handed_out Lost = Out 0
handed_out Short = Out 0

-- the item has come to this position
abbrev pub come_to : ℕ → ItemSaved → ItemSaved
come_to n (ToDo next) = ToDo n
come_to n (Out next) = Out n
come_to n Whole = Whole
come_to n Lost = Lost
come_to n Short = Short

abbrev pub given_back : ℕ → ItemSaved → ItemSaved
given_back n item = ToDo n

-- the state of an item that ended so
abbrev pub ended : End → ItemSaved
ended end.Whole = Whole
ended (end.Lost lost) = Lost
ended (end.Short short) = Short

-- the items with a change of `count` of them from the first on, as far as there are
abbrev pub items_from : ℕ → ℕ → (ItemSaved → ItemSaved) → List ItemSaved → List ItemSaved
items_from first zero change is = is
items_from first (suc count) change [] = []
items_from zero (suc count) change (i ∷ is) = change i ∷ items_from zero count change is
items_from (suc first) (suc count) change (i ∷ is) = i ∷ items_from first (suc count) change is

-- the items with a change of the one at this place, if there is one
abbrev pub at_item : ℕ → (ItemSaved → ItemSaved) → List ItemSaved → List ItemSaved
at_item place change items = items_from place 1 change items

-- the items of a new phase
abbrev pub new_items : ℕ → List ItemSaved
new_items count = replicate count (ToDo 0)
