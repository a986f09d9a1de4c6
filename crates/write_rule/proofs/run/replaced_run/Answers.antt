use Rattle.std.proofs.Common.{rules, ℕ, ◌+◌, ◌-◌, ◌/◌, min, sym, ap, ◌∙◌}
use Rattle.inode_codec.specs.Inode.{units_for}
use Rattle.file_history.specs.Live.{is_filled_up}
use Rattle.write_rule.specs.Runs.{first_from}
use Rattle.write_rule.proofs.RunOfWidths.{run_found}
use Rattle.write_rule.proofs.run.replaced_run.Goals as goal

pub returns : goal.returns
returns c = record {
  run = λ l is widths size.
      run_found c.args.write.now.unit l c.args.write.now.offset c.args.write.now.len c.args.write.now.width c.args.widths.now _
      c.begun_by-stop.result.groups ((c.args.write.now.offset + c.args.write.now.len - 1) / c.from.result)
      is c.requires.some widths
      (ap (λ (u : ℕ). (c.args.write.now.offset + c.args.write.now.len - 1) / u) (search rules))
      (c.before_run-front.ensures.groups
      ∙ ap (λ (size : ℕ). first_from c.args.widths.now 0 (min (c.args.write.now.offset / c.args.write.now.unit) (units_for c.args.write.now.unit size))
      (is_filled_up c.args.write.now.unit size c.args.write.now.offset c.args.write.now.len c.args.write.now.width)) (sym size))
      c.begun_by-stop.ensures.groups
      (search rules) c.before_run-front.ensures.units (search rules) (search rules);
}
