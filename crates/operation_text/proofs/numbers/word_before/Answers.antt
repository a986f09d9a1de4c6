use Rattle.operation_text.proofs.MarkedTexts.{cut_found, cut_only}
use Rattle.operation_text.proofs.numbers.word_before.Goals as goal

pub returns-clause-found : goal.returns-clause-found
returns-clause-found c = cut_found c.args.mark c.args.text.now c.split_once.result c.split_once.ensures.cases c.requires

pub returns-clause-only : goal.returns-clause-only
returns-clause-only c = cut_only c.args.mark c.args.text.now c.split_once.result c.split_once.ensures.cases c.requires
