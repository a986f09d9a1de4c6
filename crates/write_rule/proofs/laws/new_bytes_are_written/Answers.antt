use Rattle.write_rule.proofs.NewBytesByPlace.{new_bytes}
use Rattle.write_rule.proofs.laws.new_bytes_are_written.Goals as goal

pub returns : goal.returns
returns c old payload from to offset start len b stays is low high reach = new_bytes old payload from to offset b stays is low high start len reach
