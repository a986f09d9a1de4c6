use Rattle.inode_codec.proofs.HeadAndGroups.{groups_bytes-push, head_and_groups, length-group}
use Rattle.inode_codec.proofs.laws.an_inode_is_its_head_and_its_groups.Goals as goal

pub returns-clause-parts : goal.returns-clause-parts
returns-clause-parts c = head_and_groups

pub returns-clause-more : goal.returns-clause-more
returns-clause-more c = groups_bytes-push

pub returns-clause-length : goal.returns-clause-length
returns-clause-length c = length-group
