use Rattle.std.proofs.Common.{List, ℕ, refl, subst, sym, ap, ◌∙◌}
use Rattle.operation_text.specs.Words.{IsJobName}
use Rattle.operation_text.proofs.OpKinds.{fails_too}
use Rattle.operation_text.proofs.MarkedTexts.{lacks-name}
use Rattle.operation_text.specs.declared.named_op.NamedOp.TheVariants as op
use Rattle.operation_text.proofs.reading.start.Goals as goal

pub returns-in_default-clause-only : goal.returns-in_default-clause-only
returns-in_default-clause-only c = λ kind job priority are.
    c.in_default.ensures.only kind job priority (lacks-name 32 job refl are.name.all) are.fits are.are

pub returns-in_err-job-clause-only : goal.returns-in_err-job-clause-only
returns-in_err-job-clause-only c = λ kind job priority are.
    let parts = c.in-Some.ensures.only kind job priority (lacks-name 32 job refl are.name.all) are.fits are.are in
    fails_too c.from_residual.result c.in_err-job.field-0.0 c.in-Some.name.now (op.Start kind job priority) c.from_residual.ensures.1
    (c.in_err-job.ensures.only (subst (λ (x : List ℕ). IsJobName x) (sym parts.1) are.name))

pub returns-clause-found : goal.returns-clause-found
returns-clause-found c = (
  c.in-Some.kind,
  c.in-Some.name.now,
  c.in-Some.priority,
  record {
    name = c.in_ok-job.ensures.found.1;
    fits = c.in-Some.ensures.fits;
    are = c.in-Some.ensures.found;
  },
  ap (λ (x : List ℕ). op.Start c.in-Some.kind x c.in-Some.priority) c.in_ok-job.ensures.found.0,
)

pub returns-clause-only : goal.returns-clause-only
returns-clause-only c = λ kind job priority are.
    let parts = c.in-Some.ensures.only kind job priority (lacks-name 32 job refl are.name.all) are.fits are.are in
    let named = c.in_ok-job.ensures.found.0 ∙ parts.1 in
    let which = parts.0 in
    let given = parts.2 in
    cc
