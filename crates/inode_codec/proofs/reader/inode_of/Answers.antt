use Rattle.field_readers.proofs.Readers.{byte_reader}
use Rattle.inode_codec.specs.declared.fault.InodeRule.TheVariants as rule
use Rattle.inode_codec.proofs.SpelledInodes.{inode_is}
use Rattle.inode_codec.proofs.reader.inode_of.Goals as goal

pub level_of-requires : goal.level_of-requires
level_of-requires c = ((byte_reader rule.LevelField 0 16).fits c.in_ok-_format.rest.now (c.in_ok-code.code, c.in_ok-code.rest.now) c.in_ok-code.ensures).1

pub returns : goal.returns
returns c =
    rw c.from_vec.ensures
    (inode_is c.args.bytes.now c.in_ok-_mark._mark c.in_ok-_mark.rest.now c.in_ok-_format._format c.in_ok-_format.rest.now c.in_ok-code.code c.in_ok-code.rest.now c.in_ok-unit.unit c.in_ok-unit.rest.now c.in_ok-size.size c.in_ok-size.rest.now c.in_ok-count.count c.in_ok-count.rest.now c.in-Ok.read.0.items c.in-Ok.read.1.now c.level_of.result
    c.in_ok-_mark.ensures c.in_ok-_format.ensures c.in_ok-code.ensures c.in_ok-unit.ensures c.in_ok-size.ensures c.in_ok-count.ensures c.in-Ok.ensures c.level_of.ensures.code)
