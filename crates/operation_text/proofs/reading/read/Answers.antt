use Rattle.std.proofs.Common.{List, ℕ, refl, subst, sym, ap, ◌∙◌}
use Rattle.operation_text.proofs.OpKinds.{fails_too}
use Rattle.scenario.specs.Words.{IsName}
use Rattle.operation_text.proofs.MarkedTexts.{lacks-name}
use Rattle.operation_text.specs.declared.named_op.FileAction.TheVariants as action
use Rattle.operation_text.specs.declared.named_op.NamedOp.TheVariants as op
use Rattle.operation_text.proofs.reading.read.Goals as goal

pub returns-in_default-clause-only : goal.returns-in_default-clause-only
returns-in_default-clause-only c = λ file offset len are.
    c.in_default.ensures.only file offset len (lacks-name 32 file refl are.name.all) are.within are.short are.are

pub returns-in_err-file-clause-only : goal.returns-in_err-file-clause-only
returns-in_err-file-clause-only c = λ file offset len are.
    let parts = c.in-Some.ensures.only file offset len (lacks-name 32 file refl are.name.all) are.within are.short are.are in
    fails_too c.from_residual.result c.in_err-file.field-0.0 c.in-Some.name.now (op.OnFile file (action.Read offset len)) c.from_residual.ensures.1
    (c.in_err-file.ensures.only (subst (λ (x : List ℕ). IsName x) (sym parts.0) are.name))

pub returns-clause-found : goal.returns-clause-found
returns-clause-found c = (
  c.in-Some.name.now,
  c.in-Some.offset,
  c.in-Some.len,
  record {
    name = c.in_ok-file.ensures.found.1;
    within = c.in-Some.ensures.within.0;
    short = c.in-Some.ensures.within.1;
    are = c.in-Some.ensures.found;
  },
  ap (λ (x : List ℕ). op.OnFile x (action.Read c.in-Some.offset c.in-Some.len)) c.in_ok-file.ensures.found.0,
)

pub returns-clause-only : goal.returns-clause-only
returns-clause-only c = λ file offset len are.
    let parts = c.in-Some.ensures.only file offset len (lacks-name 32 file refl are.name.all) are.within are.short are.are in
    let named = c.in_ok-file.ensures.found.0 ∙ parts.0 in
    let at = parts.1 in
    let long = parts.2 in
    cc
