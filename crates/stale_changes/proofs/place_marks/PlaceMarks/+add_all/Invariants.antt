use Rattle.std.proofs.Common.{length}
use Rattle.stale_changes.proofs.place_marks.PlaceMarks.+add_all.Given as goal

abbrev pub decreases-add_all : goal.decreases-add_all
decreases-add_all l = length l.places.now
