use Rattle.std.proofs.Common.{◌≡◌, true, rules, List, sym, subst}
use Rattle.domains.specs.Drive.{Drive}
use Rattle.domains.specs.DriveSet.{has}
use Rattle.entry_causes.specs.Room.{AreTakenOut}
use Rattle.entry_causes.proofs.RoomLemmas.{drives_cons, out_step}
use Rattle.entry_causes.proofs.room.+take_out.Goals as goal

pub returns : goal.returns
returns t c =
    let there : has c.args.set.now c.drive-item.result ≡ true = search rules in
    subst (λ (ds : List Drive). AreTakenOut c.take_out.result ds c.args.set.now c.take_out.new.set)
    (sym (drives_cons c.args.drives.now c.drive-item.result c.in-len1-up.len_at_least c.drive-item.is))
    (out_step c.take_out.result c.drive-item.result _ c.args.set.now _ c.take_out.new.set c.has.ensures.within there c.remove.ensures c.take_out.ensures)
