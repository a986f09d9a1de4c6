use Rattle.std.proofs.Common.{◌∙◌}
use Rattle.file_heads.proofs.head.Head.is_dead.Goals as goal

pub returns : goal.returns
returns c = λ l is. c.has.ensures ∙ is.dead c.args.generation c.args.position
