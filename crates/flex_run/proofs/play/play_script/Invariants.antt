use Rattle.std.proofs.Common.{◌≡◌, take, drop}
use Rattle.flex_run.specs.RunProgress.{EachTells, HasLogs, MayGoOn, Leaves}
use Rattle.flex_run.proofs.play.play_script.Given as goal

abbrev pub invariant-loop-op : goal.invariant-loop-op
invariant-loop-op g l =
    HasLogs (EachTells g.S.Slot.content) l.scenario (take l.op-index l.script) l.stock.board l.file.log
    × MayGoOn g.S.Slot.place_of l.scenario.shape (drop l.op-index l.script) l.file l.stock
    × Leaves g.S.Slot.place_of g.S.Slot.content l.scenario.shape l.fn.file l.fn.stock l.file l.stock
    × (l.call ≡ l.op-index)
