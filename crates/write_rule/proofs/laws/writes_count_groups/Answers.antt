use Rattle.write_rule.proofs.ChunkCounts.{writes_count_groups}
use Rattle.write_rule.proofs.laws.writes_count_groups.Goals as goal

pub returns : goal.returns
returns c = writes_count_groups
