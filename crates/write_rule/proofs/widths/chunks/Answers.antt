use Rattle.std.proofs.Common.{rules, ◌≡◌, ℕ, List, [], subst, append-nil}
use Rattle.file_history.specs.WriteRule.{AreChunks}
use Rattle.write_rule.proofs.widths.chunks.Goals as goal

pub returns : goal.returns
returns c =
    let none : c.loop-left.left ≡ 0 = search rules in
    record {
      chunks = subst (λ (l : List ℕ). AreChunks c.args.units c.args.width l) (append-nil c.loop-left.chunks.items) (c.loop-left.invariant [] none);
    }
