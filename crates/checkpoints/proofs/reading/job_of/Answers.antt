use Rattle.std.proofs.Common.{◌≡◌, ℕ, subst, Ok}
use Rattle.std.specs.Int.{w16}
use Rattle.job_rules.specs.Kinds.{code_of}
use Rattle.checkpoints.specs.declared.fault.CheckpointRule.TheVariants as rule
use Rattle.field_readers.specs.FieldReaders.{byte, word}
use Rattle.checkpoints.specs.CheckpointFields.{phase_count, tail_view}
use Rattle.checkpoints.proofs.CheckpointReader.{job_is}
use Rattle.checkpoints.proofs.reading.job_of.Goals as goal

pub returns : goal.returns
returns c =
    let order : word w16 rule.Order 0 c.args.started c.in_ok-priority.rest.now ≡ Ok (c.in_ok-order.order, c.in_ok-order.rest.now) =
    subst (λ (end : ℕ). word w16 rule.Order 0 end c.in_ok-priority.rest.now ≡ Ok (c.in_ok-order.order, c.in_ok-order.rest.now)) c.from.ensures c.in_ok-order.ensures in
    let phase : byte rule.Phase 0 (phase_count (code_of c.kind_of-kind.result)) c.in_ok-paused.rest.now ≡ Ok (c.in_ok-phase.phase, c.in_ok-phase.rest.now) =
    subst (λ (end : ℕ). byte rule.Phase 0 end c.in_ok-paused.rest.now ≡ Ok (c.in_ok-phase.phase, c.in_ok-phase.rest.now)) c.phases.ensures c.in_ok-phase.ensures in
    rw c.from_vec.ensures
    (job_is c.args.started c.args.least c.args.bytes.now c.in_ok-number.number c.in_ok-number.rest.now c.in_ok-code.code c.in_ok-code.rest.now c.in_ok-priority.priority c.in_ok-priority.rest.now c.in_ok-order.order c.in_ok-order.rest.now c.in_ok-paused.paused c.in_ok-paused.rest.now c.in_ok-phase.phase c.in_ok-phase.rest.now (tail_view c.in_ok-tail.tail) c.in_ok-tail.rest.now c.kind_of-kind.result
    c.in_ok-number.ensures c.in_ok-code.ensures c.kind_of-kind.ensures c.in_ok-priority.ensures order c.in_ok-paused.ensures phase c.in_ok-tail.ensures)
