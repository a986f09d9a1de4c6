use Rattle.first_form.proofs.PlainTexts.{text_same}
use Rattle.first_form.proofs.laws.plain_text_is_whole_text.Goals as goal

pub returns : goal.returns
returns c = text_same
