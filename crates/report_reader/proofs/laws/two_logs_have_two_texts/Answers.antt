use Rattle.report_reader.proofs.LogsTold.{texts_tell_all, texts_tell_logs}
use Rattle.report_reader.proofs.laws.two_logs_have_two_texts.Goals as goal

pub returns-clause-logs : goal.returns-clause-logs
returns-clause-logs c = texts_tell_logs

pub returns-clause-scenarios : goal.returns-clause-scenarios
returns-clause-scenarios c = texts_tell_all
