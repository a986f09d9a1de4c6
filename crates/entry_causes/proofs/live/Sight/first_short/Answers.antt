use Rattle.std.proofs.Common.{◌≡◌, rules, ◌∙◌}
use Rattle.entry_causes.specs.Sights.{first_of, lost_from, lost_of, part_of}
use Rattle.entry_causes.proofs.ShortGroups.{first_short_is}
use Rattle.entry_causes.proofs.live.Sight.first_short.Goals as goal

pub returns : goal.returns
returns c now l is root map_is =
    let found : c.or.result ≡ first_of (lost_of c.args.self.now.up.now c.args.self.now.dead.now c.args.inode.now)
    (lost_from c.args.groups.now 0 c.args.self.now.unit c.args.self.now.size c.args.self.now.up.now c.args.self.now.dead.now (part_of c.args.asked.now)) = search rules in
    found ∙ first_short_is c.args.self.now now l is c.args.inode.now c.args.groups.now c.args.asked.now root map_is c.requires.root c.requires.places
