use Rattle.std.proofs.Common.{rules, ◌≡◌, ℕ, ◌+◌, ◌-◌, ap, ◌∙◌, inr, arith}
use Rattle.file_history.specs.Bytes.{slice_of}
use Rattle.write_rule.proofs.NewBytesByPlace.{part_of}
use Rattle.write_rule.proofs.new_bytes.after_payload.Goals as goal

pub returns : goal.returns
returns c = record {
  part = λ file is ends.
      let low = c.requires.start in
      let ordered = c.requires.ordered in
      let most = c.requires.stop in
      let apart = c.if-start-stop.false in
      let skip : c.args.old.from + (c.args.start - c.args.old.from) ≡ c.args.start = omega (arith, low) in
      let len : c.args.stop - c.args.old.from - (c.args.start - c.args.old.from) ≡ c.args.stop - c.args.start = omega (arith, low, ordered) in
      part_of file c.args.old.bytes.now c.args.old.from (c.args.start - c.args.old.from) (c.args.stop - c.args.old.from - (c.args.start - c.args.old.from)) is
      (search rules) (inr (search (rules, skip)))
      ∙ ap (λ (n : ℕ). slice_of file n (c.args.stop - c.args.old.from - (c.args.start - c.args.old.from))) skip
      ∙ ap (slice_of file c.args.start) len;
}
