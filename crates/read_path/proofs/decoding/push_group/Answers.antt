use Rattle.std.proofs.Common.{◌≡◌, ◌∙◌, ◌+◌, ◌++◌, ℕ, List, ap, append_assoc, rules}
use Rattle.read_path.specs.Segments.{part_of_units}
use Rattle.read_path.proofs.UnitParts.{parts_join}
use Rattle.read_path.proofs.decoding.push_group.Goals as goal

pub loop-i-preserved : goal.loop-i-preserved
loop-i-preserved c = λ bytes within shows.
    let p = c.args.group.now in
    let i = c.loop-i.i in
    let here = c.in_ok-push_unit.ensures.shown bytes within shows in
    let before = c.loop-i.invariant bytes within shows in
    here ∙ ap (λ (l : List ℕ). l ++ part_of_units c.args.unit c.args.range.start c.args.range.stop bytes (p.start + i) (p.start + i + 1)) before
    ∙ append_assoc c.args.out.now.items _ _
    ∙ ap (λ (l : List ℕ). c.args.out.now.items ++ l) (parts_join c.args.unit c.args.range.start c.args.range.stop bytes p.start i 1)

pub returns : goal.returns
returns c = record {
  shown = λ bytes within shows.
      let p = c.args.group.now in
      let all : c.loop-i.i ≡ p.group.n = search rules in
      c.loop-i.invariant bytes within shows
      ∙ ap (λ (n : ℕ). c.args.out.now.items ++ part_of_units c.args.unit c.args.range.start c.args.range.stop bytes p.start (p.start + n)) all;
}
