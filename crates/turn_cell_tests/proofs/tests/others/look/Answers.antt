use Rattle.std.proofs.Common.{◌≡◌, ◌≢◌, ℕ, List, ◌++◌, rules, sym, ap, ◌∙◌}
use Rattle.std.specs.List.{All}
use Rattle.turn_cell.specs.declared.chronicle.Note.{Note}
use Rattle.turn_cell_tests.specs.declared.tests.numbers.Numbers.{Numbers}
use Rattle.turn_cell.specs.Seats.{seat_view}
use Rattle.turn_cell.proofs.HistoryLemmas.{notes_of_others}
use Rattle.turn_cell_tests.proofs.tests.others.look.Goals as goal

pub returns-clause-others : goal.returns-clause-others
returns-clause-others g c =
    let turn = c.enter.ensures.entered in
    let before = seat_view c.args.seat.now in
    let after = seat_view c.leave.new.self.1.0 in
    let found = ap (λ (s : Numbers). s.notes.items) turn.begins in
    let left = ap (λ v. v.last.notes.items) c.leave.ensures.left in
    let done : (more : List (Note ℕ)) → after.last.notes.items ≡ before.last.notes.items ++ more → All (λ note. note.seat ≢ before.number) more = λ more e. notes_of_others _ _ _ _ _ _ _ more turn.follows (sym found ∙ (sym left ∙ e)) in
    search rules
