-- The fields of a board, and what contracts see of it.
use Rattle.std.proofs.Common.{◌≡◌, length, ◌∙◌, ap, sym, vec_len}
use Rattle.board.specs.History.{History, log_of}
use Rattle.board.specs.contracts.board.Board.{the_view}
use Rattle.board.specs.declared.board.Board.TheInside.{Inside}
use Rattle.board.proofs.StampedEntries.{entries_of_stamped, length_stamped}

-- the log is that of the entries
pub log_inside : (b : Inside) (h : History) → the_view b ≡ h → length b.stamps.items ≡ length b.entries.items → b.entries.items ≡ log_of h
log_inside b h is same = sym (entries_of_stamped b.stamps.items b.entries.items same) ∙ ap log_of is

-- it has as many notes as there are entries
pub count_inside : (b : Inside) (h : History) → the_view b ≡ h → length b.stamps.items ≡ length b.entries.items → length h.notes ≡ vec_len b.entries
count_inside b h is same = sym (ap (λ (x : History). length x.notes) is) ∙ length_stamped b.stamps.items b.entries.items same ∙ sym b.entries.ok.0
