use Rattle.std.proofs.Common.{◌∙◌, sym, subst, arith}
use Rattle.std.specs.List.{AllByRecursion}
use Rattle.pulled_groups.specs.PullAnswers.{ShowsGroup}
use Rattle.read_path.specs.Segments.{parts_of}
use Rattle.read_path.proofs.decoding.bytes_shown.Goals as goal

pub returns-clause-shown : goal.returns-clause-shown
returns-clause-shown c = λ bytes within all.
    let stop = c.cut-range.ensures.stop in
    let groups = c.as_slice.ensures in
    c.from_vec.ensures
    ∙ c.in_ok-answer.ensures.shown bytes (omega (arith, stop, within)) (subst (AllByRecursion (ShowsGroup c.args.unit bytes)) (sym groups) all)
    ∙ (λ i. parts_of c.args.unit (c.cut-range.ensures.start i) (stop i) bytes (groups i))
