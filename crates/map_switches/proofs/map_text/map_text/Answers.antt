use Rattle.map_switches.proofs.InodeTexts.{pieces_joined}
use Rattle.map_switches.proofs.map_text.map_text.Goals as goal

pub returns : goal.returns
returns g c =
    pieces_joined c.args.stripes.now c.args.new.now c.args.first c.args.count c.requires.within c.args.head.level c.args.head.unit c.args.head.size
    c.in_ok-text.text.items c.append_head.new.bytes.items c.push_stripes.new.text.items c.push_groups.new.text.items c.push_stripes-2.new.text.items
    c.in_ok-text.ensures.items c.append_head.ensures.head c.in_ok-push_stripes.ensures c.in_ok-push_groups.ensures c.in_ok-push_stripes-2.ensures
