use Rattle.std.proofs.lemmas.Result.{on_ok_weaker}
use Rattle.report.proofs.RefusalText.{refused_written}
use Rattle.report.proofs.file_lines.write_refused.Goals as goal

pub returns : goal.returns
returns c = on_ok_weaker _ (refused_written _ _ _ _ _ _ c.in_ok-write_refused_operation.ensures c.in_ok-push_str.ensures.bytes) c.write_reason.ensures
