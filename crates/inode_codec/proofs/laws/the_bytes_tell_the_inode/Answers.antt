use Rattle.inode_codec.proofs.InodeBytes.{inode_bytes-eq}
use Rattle.inode_codec.proofs.laws.the_bytes_tell_the_inode.Goals as goal

pub returns : goal.returns
returns c = inode_bytes-eq
