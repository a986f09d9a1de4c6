use Rattle.std.proofs.lemmas.Result.{on_ok_weaker}
use Rattle.write_units.proofs.OldGroups.{one_more}
use Rattle.write_units.proofs.old_data.+push_groups.Goals as goal

pub returns-clause-shown : goal.returns-clause-shown
returns-clause-shown t c =
    on_ok_weaker c.push_groups.result
    (one_more c.args.unit c.args.pulled.now c.first-item.result c.args.old.now.items c.push.new.self.items c.push_groups.new.old.items c.in_ok-old_group.field-0
    c.in-len1-up.len_at_least c.first-item.is c.requires.decodes c.in_ok-old_group.ensures.shown c.in_ok-push.ensures.items)
    c.push_groups.ensures.shown
