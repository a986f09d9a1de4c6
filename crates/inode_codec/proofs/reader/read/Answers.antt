use Rattle.std.proofs.Common.{◌≡◌, Ok, Err, ap, subst, ◌∙◌, arith}
use Rattle.field_readers.specs.declared.fault.ReadFault.{ReadFault}
use Rattle.field_readers.specs.FieldReaders.{Fails}
use Rattle.inode_codec.specs.declared.fault.InodeRule.{InodeRule}
use Rattle.inode_codec.specs.InodeReader.{all_of, raw_inode}
use Rattle.inode_codec.proofs.SpelledInodes.{is_found, is_read, only_so}
use Rattle.inode_codec.proofs.reader.read.Goals as goal

pub returns-in-Ok-clause-found : goal.returns-in-Ok-clause-found
returns-in-Ok-clause-found c = is_found c.args.bytes.now c.in-Ok.inode (λ i. omega (arith, c.type_inv.bytes i)) c.in-Ok.ensures

pub returns-in-Ok-clause-only : goal.returns-in-Ok-clause-only
returns-in-Ok-clause-only c = λ other is spelled. only_so c.args.bytes.now (Ok c.in-Ok.inode) (λ i. omega (arith, c.type_inv.bytes i)) c.in-Ok.ensures other is spelled

pub returns-in-Err-Broken-clause-only : goal.returns-in-Err-Broken-clause-only
returns-in-Err-Broken-clause-only c = λ other is spelled.
    let read : all_of c.args.bytes.now ≡ Ok (raw_inode other) = ap all_of spelled ∙ is_read other is in
    let broken : all_of c.args.bytes.now ≡ Err c.in-Err-Broken.broken =
    subst (λ (f : ReadFault InodeRule). Fails f (all_of c.args.bytes.now)) c.in-Err-Broken.field-0-is c.in-Err-Broken.ensures in
    absurd cc
