use Rattle.std.proofs.Common.{rules, ◌≡◌, length, reverse, ap, ◌∙◌}
use Rattle.std.proofs.lemmas.List.{reverse-reverse}
use Rattle.std.proofs.lemmas.List.Sorted.{IsPermutation-reverse, sum_by-IsPermutation}
use Rattle.slot_yard.specs.Queues.{waiting_in}
use Rattle.slot_yard.proofs.queues.Queues.into_list.Goals as goal

pub loop-queue-init : goal.loop-queue-init
loop-queue-init g c =
    let turned : reverse c.reverse.new.self.items ≡ c.self.inside.of_drives.items = ap reverse c.reverse.ensures.items ∙ reverse-reverse c.self.inside.of_drives.items in
    let many : waiting_in c.reverse.new.self.items ≡ waiting_in c.self.inside.of_drives.items =
    ap waiting_in c.reverse.ensures.items ∙ sum_by-IsPermutation (λ queue. length queue) _ _ (IsPermutation-reverse c.self.inside.of_drives.items) in
    search rules
