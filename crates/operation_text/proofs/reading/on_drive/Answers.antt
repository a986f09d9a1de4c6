use Rattle.std.proofs.Common.{List, ℕ, refl, subst, sym, ap, ◌∙◌}
use Rattle.operation_text.specs.Words.{IsNumberText}
use Rattle.operation_text.proofs.OpKinds.{fails_too}
use Rattle.operation_text.proofs.MarkedTexts.{lacks-number}
use Rattle.operation_text.specs.declared.named_op.NamedOp.TheVariants as op
use Rattle.operation_text.proofs.reading.on_drive.Goals as goal

pub returns-in_default-clause-only : goal.returns-in_default-clause-only
returns-in_default-clause-only c = λ node drive are. c.in_default.ensures.only node drive (lacks-number 47 node refl are.is_node.all) are.are

pub returns-in_err-node-clause-only : goal.returns-in_err-node-clause-only
returns-in_err-node-clause-only c = λ node drive are.
    let parts = c.in-Some.ensures.only node drive (lacks-number 47 node refl are.is_node.all) are.are in
    fails_too c.from_residual.result c.in_err-node.field-0.0 c.in-Some.front.now (op.OnDrive c.args.order node drive) c.from_residual.ensures.1
    (c.in_err-node.ensures.only (subst (λ (x : List ℕ). IsNumberText x) (sym parts.0) are.is_node))

pub returns-in_err-drive-clause-only : goal.returns-in_err-drive-clause-only
returns-in_err-drive-clause-only c = λ node drive are.
    let parts = c.in-Some.ensures.only node drive (lacks-number 47 node refl are.is_node.all) are.are in
    fails_too c.from_residual-in_err-drive.result c.in_err-drive.field-0.0 c.in-Some.rest.now (op.OnDrive c.args.order node drive) c.from_residual-in_err-drive.ensures.1
    (c.in_err-drive.ensures.only (subst (λ (x : List ℕ). IsNumberText x) (sym parts.1) are.is_drive))

pub returns-clause-found : goal.returns-clause-found
returns-clause-found c = (
  c.in-Some.front.now,
  c.in-Some.rest.now,
  record {
    is_node = c.in_ok-node.ensures.found.1;
    is_drive = c.in_ok-drive.ensures.found.1;
    are = c.in-Some.ensures.found;
  },
  ap (λ (x : List ℕ). op.OnDrive c.args.order x c.in_ok-drive.drive) c.in_ok-node.ensures.found.0
      ∙ ap (λ (x : List ℕ). op.OnDrive c.args.order c.in-Some.front.now x) c.in_ok-drive.ensures.found.0,
)

pub returns-clause-only : goal.returns-clause-only
returns-clause-only c = λ node drive are.
    let parts = c.in-Some.ensures.only node drive (lacks-number 47 node refl are.is_node.all) are.are in
    let first = c.in_ok-node.ensures.found.0 ∙ parts.0 in
    let second = c.in_ok-drive.ensures.found.0 ∙ parts.1 in
    cc
