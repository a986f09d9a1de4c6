use Rattle.whole_report.proofs.OneReport.{logs_told}
use Rattle.whole_report.proofs.laws.two_logs_have_two_texts.Goals as goal

pub returns : goal.returns
returns c = logs_told c.canonical_text_is_plain.ensures c.canonical_text_spells.ensures c.text_spells_one.ensures
