use Rattle.std.proofs.Common.{◌∷◌, ◌++◌, List, ℕ, refl, subst, sym, ap, ◌∙◌}
use Rattle.std.specs.Fmt.{decimal}
use Rattle.operation_text.specs.NamedOps.{payload_text}
use Rattle.operation_text.proofs.OpKinds.{fails_too}
use Rattle.scenario.specs.Words.{IsName}
use Rattle.operation_text.proofs.MarkedTexts.{lacks-name}
use Rattle.operation_text.specs.declared.named_op.FileAction.TheVariants as action
use Rattle.operation_text.specs.declared.named_op.NamedOp.TheVariants as op
use Rattle.operation_text.proofs.reading.write.Goals as goal

pub returns-in_default-clause-only : goal.returns-in_default-clause-only
returns-in_default-clause-only c = λ file offset payload are.
    c.in_default.ensures.only file offset (payload_text payload) (lacks-name 32 file refl are.name.all) are.within are.are

pub returns-in_err-file-clause-only : goal.returns-in_err-file-clause-only
returns-in_err-file-clause-only c = λ file offset payload are.
    let parts = c.in-Some.ensures.only file offset (payload_text payload) (lacks-name 32 file refl are.name.all) are.within are.are in
    fails_too c.from_residual.result c.in_err-file.field-0.0 c.in-Some.name.now (op.OnFile file (action.Write offset payload)) c.from_residual.ensures.1
    (c.in_err-file.ensures.only (subst (λ (x : List ℕ). IsName x) (sym parts.0) are.name))

pub returns-in_err-payload-clause-only : goal.returns-in_err-payload-clause-only
returns-in_err-payload-clause-only c = λ file offset payload are.
    let parts = c.in-Some.ensures.only file offset (payload_text payload) (lacks-name 32 file refl are.name.all) are.within are.are in
    fails_too c.from_residual-in_err-payload.result c.in_err-payload.field-0.0 payload (op.OnFile file (action.Write offset payload)) c.from_residual-in_err-payload.ensures.1
    (c.in_err-payload.ensures.only payload are.fits parts.2)

pub returns-clause-found : goal.returns-clause-found
returns-clause-found c = (
  c.in-Some.name.now,
  c.in-Some.offset,
  c.in_ok-payload.payload,
  record {
    name = c.in_ok-file.ensures.found.1;
    within = c.in-Some.ensures.within;
    fits = c.in_ok-payload.ensures.found.1;
    are = c.in-Some.ensures.found ∙ ap (λ (t : List ℕ). c.in-Some.name.now ++ 32 ∷ (decimal c.in-Some.offset ++ 32 ∷ t)) c.in_ok-payload.ensures.found.0;
  },
  ap (λ (x : List ℕ). op.OnFile x (action.Write c.in-Some.offset c.in_ok-payload.payload)) c.in_ok-file.ensures.found.0,
)

pub returns-clause-only : goal.returns-clause-only
returns-clause-only c = λ file offset payload are.
    let parts = c.in-Some.ensures.only file offset (payload_text payload) (lacks-name 32 file refl are.name.all) are.within are.are in
    let brought = c.in_ok-payload.ensures.only payload are.fits parts.2 in
    let named = c.in_ok-file.ensures.found.0 ∙ parts.0 in
    let at = parts.1 in
    cc
