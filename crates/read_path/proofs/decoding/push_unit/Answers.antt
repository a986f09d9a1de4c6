use Rattle.std.proofs.Common.{◌+◌, ◌*◌}
use Rattle.read_path.proofs.UnitParts.{one_unit, pushed_ok}
use Rattle.read_path.proofs.decoding.push_unit.Goals as goal

pub returns-in-Some : goal.returns-in-Some
returns-in-Some c = record {
  shown = pushed_ok c.push_from.result c.args.unit c.args.group.now c.args.i c.args.range.start c.args.range.stop _ _ _ _ c.requires.within
      (λ k. (c.from.ensures k + c.from-2.ensures k) * c.from-3.ensures k)
      (λ word of. c.in-Some.ensures c.args.group.now.group.n c.args.group.now.group.m word of)
      c.push_from.ensures;
}

pub returns : goal.returns
returns c = record {
  shown = pushed_ok c.push_from-2.result c.args.unit c.args.group.now c.args.i c.args.range.start c.args.range.stop _ _ _ _ c.requires.within
      (λ k. (c.from.ensures k + c.from-2.ensures k) * c.from-3.ensures k)
      (λ word of. one_unit _ c.bytes.result.now _ _ (c.in_ok-rebuilt.ensures.unit word of) c.bytes.ensures.units c.bytes.ensures.length)
      c.push_from-2.ensures;
}
