use Rattle.std.proofs.Common.{◌∙◌, sym}
use Rattle.std.proofs.lemmas.Result.{err_from_is_err_and}
use Rattle.inode_codec.proofs.EarlierFields.{generation_fails, generation_free, generation_used}
use Rattle.inode_codec.proofs.reader.generation_of.Goals as goal

pub returns-in_err-generation : goal.returns-in_err-generation
returns-in_err-generation c =
    let p = err_from_is_err_and c.from_residual.result c.from_residual.ensures.1 in
    rw (p.1, p.2) (generation_fails c.args.earlier.now c.args.bytes.now c.in_err-generation.field-0.0 c.in_err-generation.ensures)

pub returns-then-is_used : goal.returns-then-is_used
returns-then-is_used c =
    rw c.broken.ensures (generation_used c.args.earlier.now c.args.bytes.now c.in_ok-generation.generation c.in_ok-generation.rest.now c.in_ok-generation.ensures (sym c.is_used.ensures ∙ c.if-is_used.true))

pub returns : goal.returns
returns c = generation_free c.args.earlier.now c.args.bytes.now c.in_ok-generation.generation c.in_ok-generation.rest.now c.in_ok-generation.ensures (sym c.is_used.ensures ∙ c.if-is_used.false)
