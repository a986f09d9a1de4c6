use Rattle.std.proofs.lemmas.Bool.{false≢true}
use Rattle.scenario_table.proofs.TableViews.{length-no_members}
use Rattle.scenario_table.proofs.members.end_of.Goals as goal

pub returns-else-is_empty : goal.returns-else-is_empty
returns-else-is_empty c =
    (λ no. absurd (false≢true no), λ none. c.if-is_empty.ensures.1 (length-no_members c.args.members.now.entries none))
