use Rattle.std.proofs.Common.{◌≡◌, subst, sym, ap, ◌∙◌, List, ℕ}
use Rattle.std.proofs.lemmas.Result.{IfOk-weaker}
use Rattle.scenario.specs.Words.{IsText}
use Rattle.operation_text.specs.Answers.{Answers}
use Rattle.operation_text.specs.NamedOps.{payload_text, FitsPayload}
use Rattle.operation_text.specs.declared.named_op.Payload.{Payload}
use Rattle.operation_text.specs.declared.named_op.Payload.TheVariants.{Text}
use Rattle.operation_text.proofs.OpKinds.{payload_by_kind, text_or_fill}
use Rattle.operation_text.proofs.payload.payload.Goals as goal

pub returns-in-Some-clause-found : goal.returns-in-Some-clause-found
returns-in-Some-clause-found c =
    IfOk-weaker c.text_payload.result _ _
    (λ (p : Payload) is.
    (c.in-Some.ensures.found ∙ ap payload_text (sym is.0), subst (λ (x : Payload). FitsPayload x) (sym is.0) is.1))
    c.text_payload.ensures.found

pub returns-in-Some-clause-only : goal.returns-in-Some-clause-only
returns-in-Some-clause-only c =
    payload_by_kind (λ p. FitsPayload p → c.args.data.now ≡ payload_text p → Answers c.text_payload.result p)
    (λ text fits is.
    let same = c.in-Some.ensures.only text is in
    subst (λ (x : List ℕ). IsText x → Answers c.text_payload.result (Text x)) same c.text_payload.ensures.only fits)
    (λ start len fits is. absurd (text_or_fill c.in-Some.words.now _ (sym c.in-Some.ensures.found ∙ is)))

pub returns-in-None-clause-only : goal.returns-in-None-clause-only
returns-in-None-clause-only c =
    payload_by_kind (λ p. FitsPayload p → c.args.data.now ≡ payload_text p → Answers c.fill_payload.result p)
    (λ text fits is. absurd (c.in-None.ensures.only text is))
    (λ start len fits is. c.fill_payload.ensures.only start len fits is)
