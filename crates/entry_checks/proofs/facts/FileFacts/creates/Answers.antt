use Rattle.std.proofs.Common.{◌≡◌, rules}
use Rattle.domains.specs.AtLevel.{InodeAt}
use Rattle.entry_checks.proofs.CreationLemmas.{creates_if}
use Rattle.entry_checks.proofs.facts.FileFacts.creates.Goals as goal

pub returns-clause-legal : goal.returns-clause-legal
returns-clause-legal c =
    let level : InodeAt c.args.inode.now c.args.self.now.requested = search rules in
    let number : c.args.inode.now.generation ≡ c.args.self.now.next = search rules in
    creates_if c.args.self.now c.if-self.false c.add_new_places.result c.args.inode.now c.as_slice.result.now c.args.taken.now.keys c.as_slice.ensures level number c.add_new_places.ensures.new
