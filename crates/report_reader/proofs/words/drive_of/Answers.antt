use Rattle.std.proofs.Common.{◌∙◌, arith, refl}
use Rattle.std.specs.Fmt.{decimal}
use Rattle.report_reader.proofs.Cuts.{decimal_lacks}
use Rattle.report_reader.proofs.WordsTold.{drive_is, drive_spelled}
use Rattle.report_reader.proofs.words.drive_of.Goals as goal

pub returns-clause-only : goal.returns-clause-only
returns-clause-only c = λ d fit is.
    let parts = c.cut.ensures.at (decimal d.node) (decimal d.drive) (decimal_lacks 47 d.node refl (omega (arith, fit.nodes))) (is ∙ drive_spelled d) in
    let node = c.u8_of.ensures d.node (omega (arith, fit.nodes)) parts.0 in
    let drive = c.u8_of-2.ensures d.drive (omega (arith, fit.drives)) parts.1 in
    c.new.ensures ∙ drive_is c.within.result c.within-2.result d
    (c.within.ensures.same (omega (arith, node, fit.some_node)) (omega (arith, node, fit.nodes)) ∙ node)
    (c.within-2.ensures.same (omega (arith, drive, fit.some_drive)) (omega (arith, drive, fit.drives)) ∙ drive)
