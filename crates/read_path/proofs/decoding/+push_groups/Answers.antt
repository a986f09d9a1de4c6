use Rattle.read_path.proofs.UnitParts.{groups_cons, pushed_groups}
use Rattle.read_path.proofs.decoding.+push_groups.Goals as goal

pub returns : goal.returns
returns t c = record {
  shown = pushed_groups c.push_groups.result c.args.unit c.args.range.start c.args.range.stop c.args.groups.now _ c.group-item.result c.args.out.now.items _ _
      (groups_cons c.args.groups.now c.group-item.result c.in-len1-up.len_at_least c.group-item.is) c.in_ok-push_group.ensures.shown c.push_groups.ensures.shown;
}
