use Rattle.std.proofs.Common.{string_bytes}
use Rattle.scenario_reader.proofs.NumberMaps.{inserted}
use Rattle.scenario_reader.proofs.numbers.NameNumbers.insert.Goals as goal

pub returns : goal.returns
returns c = inserted (string_bytes c.in_ok-copy.copy) c.args.name.now c.args.self.now.numbers c.insert.new.self c.args.number c.in_ok-copy.ensures.ok c.in_ok-insert.ensures.updates
