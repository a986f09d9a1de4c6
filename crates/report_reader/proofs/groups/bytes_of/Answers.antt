use Rattle.std.proofs.Common.{◌∙◌, inl, inr, rules}
use Rattle.report_reader.proofs.DecodedBytes.{bytes_decoded}
use Rattle.report_reader.proofs.WordsTold.{bytes_read, bytes_unread}
use Rattle.report_reader.proofs.groups.bytes_of.Goals as goal

pub returns-in-Ok-clause-only : goal.returns-in-Ok-clause-only
returns-in-Ok-clause-only c = λ bytes are is. bytes_read c.args.text.now c.in-Ok.bytes.items bytes c.in-Ok.ensures.ok are is

pub returns-in-Err-OddLength-clause-only : goal.returns-in-Err-OddLength-clause-only
returns-in-Err-OddLength-clause-only c = λ bytes are is.
    c.new.ensures.items ∙ elim c.in-Err-OddLength.ensures.err [
      | inl memory ↦ absurd cc
      | inr decoded ↦ bytes_unread c.args.text.now bytes _ decoded are is
    ]

pub returns-in-Err-InvalidStringLength-clause-only : goal.returns-in-Err-InvalidStringLength-clause-only
returns-in-Err-InvalidStringLength-clause-only c = λ bytes are is.
    c.new-in-Err-InvalidStringLength.ensures.items ∙ elim c.in-Err-InvalidStringLength.ensures.err [
      | inl memory ↦ absurd cc
      | inr decoded ↦ bytes_unread c.args.text.now bytes _ decoded are is
    ]

pub returns-in-Err-InvalidHexCharacter-clause-only : goal.returns-in-Err-InvalidHexCharacter-clause-only
returns-in-Err-InvalidHexCharacter-clause-only c = λ bytes are is.
    c.new-in-Err-InvalidHexCharacter.ensures.items ∙ elim c.in-Err-InvalidHexCharacter.ensures.err [
      | inl memory ↦ absurd cc
      | inr decoded ↦ bytes_unread c.args.text.now bytes _ decoded are is
    ]

pub returns-in-Ok-clause-fits : goal.returns-in-Ok-clause-fits
returns-in-Ok-clause-fits c = bytes_decoded c.args.text.now c.in-Ok.bytes.items c.in-Ok.ensures.ok
