use Rattle.std.proofs.Common.{◌≡◌, ◌∙◌, ◌<◌, ◌+◌, ◌-◌, ◌++◌, min, length, replicate, sym, arith}
use Rattle.std.proofs.lemmas.Bool.{and_parts, ltb-true}
use Rattle.std.proofs.lemmas.List.{length-append}
use Rattle.plain_file.proofs.ReadRanges.{slice_padded}
use Rattle.plain_file.proofs.read.shown.Goals as goal

pub returns-clause-shown : goal.returns-clause-shown
returns-clause-shown g c = λ told holds.
    let has = rw c.in-Written.is at holds in
    let within : c.args.offset < c.in-Written.size =
    ltb-true c.args.offset c.in-Written.size ((and_parts _ _ (sym c.touches.ensures ∙ c.if-not-touches.false)).1) in
    let ends : c.min-stop.result ≡ min (c.args.offset + c.args.len) c.in-Written.size =
    rw (c.from.ensures, c.from-2.ensures) at c.min-stop.ensures in
    let zeros = replicate (c.args.stock.now.shape.unit - c.in-Written.size) 0 in
    let longer : length (told ++ zeros) ≡ length told + length zeros = length-append told zeros in
    c.in_ok-bytes.ensures.shown (told ++ zeros) has.2 (omega (arith, longer, has.0, ends))
    ∙ slice_padded told zeros c.args.offset c.args.len c.in-Written.size c.min-stop.result has.0 ends within
