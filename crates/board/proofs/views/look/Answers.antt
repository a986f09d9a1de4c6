use Rattle.std.proofs.Common.{◌∙◌, ℕ, [], refl, ap}
use Rattle.turn_cell.proofs.HistoryLemmas.{Changed-none}
use Rattle.board.specs.History.{History}
use Rattle.board.proofs.views.look.Goals as goal

pub leave-requires-clause-changed : goal.leave-requires-clause-changed
leave-requires-clause-changed g c =
    let entered = c.enter-turn.ensures.entered in
    let same = c.state-board.ensures.value ∙ entered.begins in
    Changed-none (λ (h : History). h.turns) (λ (h : History). h.notes) (λ (h : History) (k : ℕ). []) (λ (h : History). (h.shape, h.room)) _ _ _
    (ap (λ (h : History). h.turns) same) (ap (λ (h : History). h.notes) same) (λ k other. refl) (ap (λ (h : History). (h.shape, h.room)) same)
