use Rattle.std.proofs.Common.{◌∙◌, sym}
use Rattle.inode_codec.proofs.EarlierFields.{drive_fails, drive_free, drive_taken}
use Rattle.inode_codec.proofs.reader.drive_of.Goals as goal

pub returns-in-Err : goal.returns-in-Err
returns-in-Err c = drive_fails c.args.earlier.now c.args.bytes.now c.in-Err.fault c.in-Err.ensures

pub returns-then-is_taken : goal.returns-then-is_taken
returns-then-is_taken c =
    rw c.broken.ensures (drive_taken c.args.earlier.now c.args.bytes.now c.in-Ok.read.0 c.in-Ok.read.1.now c.in-Ok.ensures (sym c.is_taken.ensures ∙ c.if-is_taken.true))

pub returns : goal.returns
returns c = drive_free c.args.earlier.now c.args.bytes.now c.in-Ok.read.0 c.in-Ok.read.1.now c.in-Ok.ensures (sym c.is_taken.ensures ∙ c.if-is_taken.false)
