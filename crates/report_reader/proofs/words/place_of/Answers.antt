use Rattle.std.proofs.Common.{◌∙◌, arith, refl}
use Rattle.std.specs.Fmt.{decimal}
use Rattle.scenario.specs.Ops.{drive_text}
use Rattle.report_reader.proofs.Cuts.{decimal_lacks}
use Rattle.report_reader.proofs.WordsTold.{drive_parts, place_is, place_spelled}
use Rattle.report_reader.proofs.words.place_of.Goals as goal

pub returns-clause-only : goal.returns-clause-only
returns-clause-only c = λ s fit is.
    let clean = drive_parts 58 s.drive (decimal_lacks 58 s.drive.node refl (omega (arith, fit.drive.nodes))) refl (decimal_lacks 58 s.drive.drive refl (omega (arith, fit.drive.drives))) in
    let parts = c.cut.ensures.at (drive_text s.drive) (decimal s.slot) clean (is ∙ place_spelled s) in
    c.new.ensures ∙ place_is c.drive_of.result c.slot_of.result s (c.drive_of.ensures.only s.drive fit.drive parts.0) (c.slot_of.ensures.slot s.slot fit.slot parts.1)
