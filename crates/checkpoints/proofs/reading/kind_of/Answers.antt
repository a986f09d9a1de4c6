use Rattle.std.proofs.Common.{◌≡◌, None, Some}
use Rattle.checkpoints.proofs.KindCodes.{none_has}
use Rattle.checkpoints.proofs.reading.kind_of.Goals as goal

pub unreachable-requires : goal.unreachable-requires
unreachable-requires c = none_has c.args.code c.requires (λ kind code. let found : c.of_code.result ≡ Some kind = c.of_code.ensures.only kind code in let none : c.of_code.result ≡ None = c.in-None.is in cc)
