use Rattle.std.proofs.Common.{rules, subst, sym}
use Rattle.toml.specs.View.{table_view}
use Rattle.scenario_table.specs.Parts.{IsTail}
use Rattle.scenario_table.proofs.outline.outline_of.Goals as goal

pub returns-in_err-tail-clause-only : goal.returns-in_err-tail-clause-only
returns-in_err-tail-clause-only c = λ unit nodes drives slots workers files actors is.
    let first = c.in_ok-actors.ensures.only _ _ is.is in
    let second = c.in_ok-drives.ensures.only drives _ first.1 in
    let third = c.in_ok-files.ensures.only _ _ second.1 in
    let fourth = c.in_ok-nodes.ensures.only nodes _ third.1 in
    let fifth = c.in_ok-slots.ensures.only slots _ fourth.1 in
    let tail : IsTail (table_view c.take_number-3.new.members) unit workers = subst (λ m. IsTail m unit workers) (sym fifth.1) is.is_tail in
    absurd (c.in_err-tail.ensures.only unit workers tail)

pub returns-clause-only : goal.returns-clause-only
returns-clause-only c = λ unit nodes drives slots workers files actors is.
    let first = c.in_ok-actors.ensures.only _ _ is.is in
    let second = c.in_ok-drives.ensures.only drives _ first.1 in
    let third = c.in_ok-files.ensures.only _ _ second.1 in
    let fourth = c.in_ok-nodes.ensures.only nodes _ third.1 in
    let fifth = c.in_ok-slots.ensures.only slots _ fourth.1 in
    let tail : IsTail (table_view c.take_number-3.new.members) unit workers = subst (λ m. IsTail m unit workers) (sym fifth.1) is.is_tail in
    let last = c.in_ok-tail.ensures.only unit workers tail in (
      search (rules, last.0),
      search (rules, fourth.0),
      search (rules, second.0),
      search (rules, fifth.0),
      search (rules, last.1),
      third.0,
      first.0,
    )
