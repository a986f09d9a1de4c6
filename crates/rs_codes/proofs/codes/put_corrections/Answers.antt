use Rattle.galois.proofs.HornersRule.{bytes_by_entry}
use Rattle.rs_codes.proofs.codes.put_corrections.Goals as goal

pub returns-clause-bytes : goal.returns-clause-bytes
returns-clause-bytes c = bytes_by_entry c.args.inputs.now c.type_inv.inputs
