use Rattle.std.proofs.Common.{◌≡◌, true, rules}
use Rattle.entry_checks.proofs.WriteLemmas.{too_few_if}
use Rattle.entry_checks.proofs.facts.FileFacts.refuses_write_for_drives.Goals as goal

pub returns : goal.returns
returns c now l offset len facts =
    let there : c.args.self.now.present ≡ true = search rules in
    too_few_if c.args.self.now there c.args.fault c.has_too_few.result c.has_too_few.ensures now l facts
