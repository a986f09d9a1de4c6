use Rattle.std.proofs.Common.{sym}
use Rattle.job_rules.specs.Kinds.{name_of}
use Rattle.operation_text.proofs.OpKinds.{lacks-kind}
use Rattle.operation_text.proofs.fields.start_fields.Goals as goal

pub returns-in_err-word-clause-only : goal.returns-in_err-word-clause-only
returns-in_err-word-clause-only c = λ kind job priority free fits is. absurd (c.in_err-word.ensures.only (name_of kind) _ (lacks-kind kind) is)

pub returns-in_err-kind-clause-only : goal.returns-in_err-kind-clause-only
returns-in_err-kind-clause-only c = λ kind job priority free fits is.
    let parts = c.in_ok-word.ensures.only (name_of kind) _ (lacks-kind kind) is in
    let found = c.in_err-kind.ensures.only kind (sym parts.0) in
    absurd cc

pub returns-in_err-named-clause-only : goal.returns-in_err-named-clause-only
returns-in_err-named-clause-only c = λ kind job priority free fits is.
    let parts = c.in_ok-word.ensures.only (name_of kind) _ (lacks-kind kind) is in
    absurd (c.in_err-named.ensures.only _ parts.1)

pub returns-in_err-job-clause-only : goal.returns-in_err-job-clause-only
returns-in_err-job-clause-only c = λ kind job priority free fits is.
    let parts = c.in_ok-word.ensures.only (name_of kind) _ (lacks-kind kind) is in
    let named = c.in_ok-named.ensures.only _ parts.1 in
    absurd (c.in_err-job.ensures.only job priority free fits named)

pub returns-clause-only : goal.returns-clause-only
returns-clause-only c = λ kind job priority free fits is.
    let parts = c.in_ok-word.ensures.only (name_of kind) _ (lacks-kind kind) is in
    let found = c.in_ok-kind.ensures.only kind (sym parts.0) in
    let named = c.in_ok-named.ensures.only _ parts.1 in
    let last = c.in_ok-job.ensures.only job priority free fits named in
    (cc, last.0, last.1)
