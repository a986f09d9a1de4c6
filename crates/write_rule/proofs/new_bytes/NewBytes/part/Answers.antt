use Rattle.std.proofs.Common.{rules, ℕ, ◌++◌, List, [], drop, replicate}
use Rattle.std.specs.Vec.{vec_len}
use Rattle.write_rule.specs.NewBytes.{bytes_of}
use Rattle.write_rule.proofs.Windows.{four_sources, same_padded}
use Rattle.write_rule.proofs.new_bytes.NewBytes.part.Goals as goal

pub returns : goal.returns
returns c =
    let after : List ℕ = c.args.self.now.after.now in
    let payload : List ℕ = c.args.self.now.payload.now in
    let zeros : List ℕ = replicate c.args.self.now.gap 0 in
    let all = four_sources _ _ _ _ _ c.args.self.now.before.now zeros payload after c.args.start c.args.len _ _ _ _ _ _ _ _ (search rules)
    (c.in_ok-add.ensures.taken (zeros ++ (payload ++ after))) (c.in_ok-add_zeros.ensures.taken (payload ++ after))
    (c.in_ok-add-2.ensures.taken after) (c.in_ok-add-3.ensures.taken []) in
    record {
      part = same_padded c.resize.new.self.items c.add-3.new.self.bytes.items (drop c.args.start (bytes_of c.args.self.now)) c.args.len (vec_len c.add-3.new.self.bytes) all (search rules) (search rules);
    }
