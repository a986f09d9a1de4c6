use Rattle.std.proofs.Common.{◌≡◌, ◌⊎◌, ◌≤◌, length, List, ℕ, inl, inr}
use Rattle.flex_run.specs.Arguments.{IsAccepted}
use Rattle.flex_run.specs.RefusedSources.{IsPlayable}
use Rattle.flex_run.specs.RunReport.{IsOrUnwritten}
use Rattle.flex_run.specs.Stops.{IsTextRefusal}
use Rattle.flex_run.proofs.FaultLines.{early_stop, is_refused, refusal_told, ran_told, report_is_no_refusal, rows_told, stop_prefix}
use Rattle.flex_run.proofs.top.flex.Goals as goal

pub returns-in-Ok-clause-prefix : goal.returns-in-Ok-clause-prefix
returns-in-Ok-clause-prefix g c = record {
  text = c.as_str.result.now;
  kind = inr (inr (rw c.as_str.ensures.value c.in-Ok.ensures.report));
  prefix = c.write_text.ensures.prefix;
}

pub returns-in-Ok-clause-untouched : goal.returns-in-Ok-clause-untouched
returns-in-Ok-clause-untouched g c = λ refused. absurd (report_is_no_refusal c.write_text.result c.write_text.ensures.status refused)

pub returns-in-Err-clause-untouched : goal.returns-in-Err-clause-untouched
returns-in-Err-clause-untouched g c = λ refused.
    c.in-Err.ensures.untouched (early_stop c.in-Err.stop c.write_stop.result c.write_stop.ensures.status refused)

pub returns-in-Err-clause-prefix : goal.returns-in-Err-clause-prefix
returns-in-Err-clause-prefix g c = stop_prefix _ _ _ _ _ c.in-Err.stop c.in-Err.ensures.refused c.write_stop.ensures.prefix

pub returns-in-Err-clause-line : goal.returns-in-Err-clause-line
returns-in-Err-clause-line g c = rows_told c.in-Err.stop c.write_stop.result _ _ c.write_stop.ensures.status c.write_stop.ensures.written

pub returns-in-Err-clause-refused : goal.returns-in-Err-clause-refused
returns-in-Err-clause-refused g c =
    refusal_told c.in-Err.stop c.write_stop.result _ _ _ c.in-Err.ensures.refused c.write_stop.ensures.status c.write_stop.ensures.written

pub returns-in-Err-clause-unbuilt : goal.returns-in-Err-clause-unbuilt
returns-in-Err-clause-unbuilt g c = is_refused c.in-Err.stop c.write_stop.result _ c.in-Err.ensures.unbuilt c.write_stop.ensures.status

pub returns-in-Ok-clause-ran : goal.returns-in-Ok-clause-ran
returns-in-Ok-clause-ran g c = λ zero.
    ran_told _ _ _ _ c.as_str.result.now _ _ c.write_text.result c.write_text.ensures.written zero (rw c.as_str.ensures.value c.in-Ok.ensures.report)
