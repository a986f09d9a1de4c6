use Rattle.std.proofs.Common.{◌∷◌, ◌++◌, List, ℕ, refl, subst, sym, ap, ◌∙◌}
use Rattle.scenario.specs.Words.{IsName}
use Rattle.domains.specs.Level.{level_name}
use Rattle.operation_text.specs.declared.named_op.FileAction.TheVariants as action
use Rattle.operation_text.specs.declared.named_op.NamedOp.TheVariants as op
use Rattle.operation_text.proofs.MarkedTexts.{lacks-name}
use Rattle.operation_text.proofs.OpKinds.{fails_too, none_some}
use Rattle.operation_text.proofs.reading.level.Goals as goal

pub returns-in_default-clause-only : goal.returns-in_default-clause-only
returns-in_default-clause-only c = λ file level are.
    c.in_default.ensures.only file (level_name level) (lacks-name 32 file refl are.name.all) are.are

pub returns-in_default-level_of-clause-only : goal.returns-in_default-level_of-clause-only
returns-in_default-level_of-clause-only c = λ file level are.
    let parts = c.in-Some.ensures.only file (level_name level) (lacks-name 32 file refl are.name.all) are.are in
    none_some level (c.in_default-level_of.ensures.only level are.is_level parts.1)

pub returns-in_err-file-clause-only : goal.returns-in_err-file-clause-only
returns-in_err-file-clause-only c = λ file level are.
    let parts = c.in-Some.ensures.only file (level_name level) (lacks-name 32 file refl are.name.all) are.are in
    fails_too c.from_residual.result c.in_err-file.field-0.0 c.in-Some.name.now (op.OnFile file (action.SetLevel level)) c.from_residual.ensures.1
    (c.in_err-file.ensures.only (subst (λ (x : List ℕ). IsName x) (sym parts.0) are.name))

pub returns-clause-found : goal.returns-clause-found
returns-clause-found c = (
  c.in-Some.name.now,
  c.in-Some-level_of.level,
  record {
    name = c.in_ok-file.ensures.found.1;
    is_level = c.in-Some-level_of.ensures.level;
    are = c.in-Some.ensures.found ∙ ap (λ (t : List ℕ). c.in-Some.name.now ++ 32 ∷ t) c.in-Some-level_of.ensures.found;
  },
  ap (λ (x : List ℕ). op.OnFile x (action.SetLevel c.in-Some-level_of.level)) c.in_ok-file.ensures.found.0,
)

pub returns-clause-only : goal.returns-clause-only
returns-clause-only c = λ file level are.
    let parts = c.in-Some.ensures.only file (level_name level) (lacks-name 32 file refl are.name.all) are.are in
    let named = c.in_ok-file.ensures.found.0 ∙ parts.0 in
    let at = c.in-Some-level_of.ensures.only level are.is_level parts.1 in
    cc
