use Rattle.std.proofs.Common.{◌≡◌, ℕ, map, subst, Ok}
use Rattle.field_readers.specs.FieldReaders.{byte}
use Rattle.inode_codec.specs.declared.fault.InodeRule.TheVariants as rule
use Rattle.inode_codec.specs.InodeReader.{end_of_m, raw_group}
use Rattle.inode_codec.proofs.SpelledInodes.{group_is}
use Rattle.inode_codec.proofs.reader.group_of.Goals as goal

pub returns : goal.returns
returns c =
    let m : byte rule.M 1 (end_of_m c.in_ok-n.n) c.in_ok-n.rest.now ≡ Ok (c.in_ok-m.m, c.in_ok-m.rest.now) =
    subst (λ (end : ℕ). byte rule.M 1 end c.in_ok-n.rest.now ≡ Ok (c.in_ok-m.m, c.in_ok-m.rest.now)) c.end_of_m.ensures c.in_ok-m.ensures in
    rw c.from_vec.ensures
    (group_is (map raw_group c.args.earlier.now) c.args.bytes.now c.in_ok-generation.generation c.in_ok-generation.rest.now c.in_ok-n.n c.in_ok-n.rest.now c.in_ok-m.m c.in_ok-m.rest.now c.in-Ok.read.0.items c.in-Ok.read.1.now
    c.in_ok-generation.ensures c.in_ok-n.ensures m c.in-Ok.ensures)
