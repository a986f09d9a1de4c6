use Rattle.entry_checks.proofs.CreationLemmas.{too_few_if}
use Rattle.entry_checks.proofs.facts.FileFacts.refuses_create_for_drives.Goals as goal

pub returns : goal.returns
returns c = too_few_if c.args.self.now c.if-self.false c.args.fault c.has_too_few.result c.has_too_few.ensures
