use Rattle.std.proofs.Common.{refl}
use Rattle.file_writes.proofs.WriteTryLemmas.{read_terms, try_tells}
use Rattle.file_writes.proofs.trying.try_write.Goals as goal

pub place_and_switch-requires-clause-terms : goal.place_and_switch-requires-clause-terms
place_and_switch-requires-clause-terms g c κs within =
    read_terms g.S.Slot.place_of g.S.Slot.content g.S.Slot.len_of c.args.file.now c.pull_for_write.new.file c.args.terms.now.view c.args.terms.now c.in-Ok.ensures.tells.reads c.requires.terms

pub returns-in-Ok-clause-tells : goal.returns-in-Ok-clause-tells
returns-in-Ok-clause-tells g c =
    try_tells g.S.Slot.place_of g.S.Slot.content g.S.Slot.len_of g.S.Slot.faults c.args.desk.now.by c.args.terms.now.view c.args.terms.now c.args.plan.now c.args.offset c.args.payload.now
    c.in-Ok.pulled c.args.file.now c.pull_for_write.new.file c.place_and_switch.new.file c.args.desk.now.hand.now c.place_and_switch.new.desk.hand.now c.place_and_switch.result refl
    c.in-Ok.ensures.tells c.place_and_switch.ensures.tells
