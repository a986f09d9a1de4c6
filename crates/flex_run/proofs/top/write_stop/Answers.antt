use Rattle.flex_run.specs.declared.stop.RunStop.TheVariants.{Words, Read, Long, Rack}
use Rattle.flex_run.proofs.FaultLines.{own_line, written_line}
use Rattle.flex_run.proofs.top.write_stop.Goals as goal

pub returns-in-Words-clause-prefix : goal.returns-in-Words-clause-prefix
returns-in-Words-clause-prefix g c = own_line c.args.stop Words _ _ c.in-Words.is c.write_text.ensures.prefix

pub returns-in-Read-clause-written : goal.returns-in-Read-clause-written
returns-in-Read-clause-written g c = written_line c.args.stop Read _ _ c.write_text-in-Read.result c.in-Read.is c.write_text-in-Read.ensures.written

pub returns-in-Read-clause-prefix : goal.returns-in-Read-clause-prefix
returns-in-Read-clause-prefix g c = own_line c.args.stop Read _ _ c.in-Read.is c.write_text-in-Read.ensures.prefix

pub returns-in-Long-clause-written : goal.returns-in-Long-clause-written
returns-in-Long-clause-written g c = written_line c.args.stop Long _ _ c.write_text-in-Long.result c.in-Long.is c.write_text-in-Long.ensures.written

pub returns-in-Long-clause-prefix : goal.returns-in-Long-clause-prefix
returns-in-Long-clause-prefix g c = own_line c.args.stop Long _ _ c.in-Long.is c.write_text-in-Long.ensures.prefix

pub returns-in-Rack-clause-written : goal.returns-in-Rack-clause-written
returns-in-Rack-clause-written g c = written_line c.args.stop Rack _ _ c.write_text-in-Rack.result c.in-Rack.is c.write_text-in-Rack.ensures.written

pub returns-in-Rack-clause-prefix : goal.returns-in-Rack-clause-prefix
returns-in-Rack-clause-prefix g c = own_line c.args.stop Rack _ _ c.in-Rack.is c.write_text-in-Rack.ensures.prefix
