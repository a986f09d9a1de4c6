use Rattle.earlier_copies.proofs.KeptBytes.{earlier_writes_keep_bytes}
use Rattle.earlier_copies.proofs.earlier_writes_keep_bytes.Goals as goal

pub returns : goal.returns
returns c = earlier_writes_keep_bytes
