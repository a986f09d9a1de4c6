-- The file of this number is changed, and no other.
use Rattle.std.proofs.Common.{◌≡◌, ℕ, slice_get, slice_index_or, slice_set, sym, ap, ◌∙◌, arith}
use Rattle.std.proofs.lemmas.Option.{slice_get-get_or}
use Rattle.actor_operations.proofs.operation.play_on_file.Goals as goal

pub returns-clause-tells : goal.returns-clause-tells
returns-clause-tells g c =
    let at : c.from.result ≡ c.args.file = c.from.ensures in
    let within = c.requires.there in
    record {
      was = slice_index_or c.args.files.now c.from.result c.index-files-from.result;
      is = c.play_at.new.file;
      there = ap (slice_get c.args.files.now) (sym at) ∙ slice_get-get_or c.args.files.now c.from.result c.index-files-from.result (omega (arith, at, within));
      changed = ap (λ (n : ℕ). slice_set c.args.files.now n c.play_at.new.file) at;
      open_ = c.play_at.ensures.open;
      terms = c.play_at.ensures.terms;
      file_is = c.play_at.ensures.file;
      did = c.play_at.ensures.tells;
    }
