use Rattle.std.proofs.Common.{◌∙◌, ap, refl}
use Rattle.std.specs.Result.{result_ok}
use Rattle.std.proofs.lemmas.Fmt.{parse-decimal}
use Rattle.operation_text.specs.Decimals.{HasOneForm}
use Rattle.operation_text.proofs.DecimalTexts.{decimal-parsed, one_form-decimal}
use Rattle.operation_text.proofs.numbers.number.Goals as goal

pub returns-then-has_one_form-clause-found : goal.returns-then-has_one_form-clause-found
returns-then-has_one_form-clause-found c =
    rw c.ok.ensures.value (decimal-parsed c.args.text.now c.parse.result (c.if-has_one_form.ensures.0 refl) c.parse.ensures.value.0)

pub returns-then-has_one_form-clause-only : goal.returns-then-has_one_form-clause-only
returns-then-has_one_form-clause-only c = λ n small is.
    c.ok.ensures.value ∙ ap result_ok (parse-decimal 64 n c.args.text.now c.parse.result small small is c.parse.ensures.value.0)

pub returns-else-has_one_form-clause-only : goal.returns-else-has_one_form-clause-only
returns-else-has_one_form-clause-only c = λ n small is.
    let form : HasOneForm c.args.text.now = rw is (one_form-decimal n small) in
    let no = c.if-has_one_form.ensures.1 form in cc
