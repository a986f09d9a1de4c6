use Rattle.std.proofs.Common.{◌≡◌, ◌<◌, ◌≤◌, ◌++◌, ◌∷◌, [], List, length, sym, subst, arith, rules, ◌∙◌, ap}
use Rattle.file_history.specs.declared.entry.FileEntry.{FileEntry}
use Rattle.report_blocks.proofs.FileFronts.{IsPlaced}
use Rattle.report_blocks.proofs.FileItems.{item_step, item_stop, items_levels, items_read}
use Rattle.std.proofs.Common.{drop, ◌+◌}
use Rattle.report_blocks.proofs.files.read_files.Goals as goal

pub returns-in-Err-clause-stopped : goal.returns-in-Err-clause-stopped
returns-in-Err-clause-stopped c =
    item_stop c.args.files.now c.loop-file.file-index c.file-item.result c.loop-file-test.true c.file-item.is c.loop-file.logs.items c.args.text.now c.loop-file.rest.now c.loop-file.invariant.1
    c.in-Err.stop c.in-Err.ensures.stopped

pub loop-file-preserved : goal.loop-file-preserved
loop-file-preserved c = (
  search rules,
  subst (λ (logs : List (List FileEntry)). IsPlaced c.args.files.now (drop (c.loop-file.file-index + 1) c.args.files.now) logs c.args.text.now c.in-Ok.read.1.now)
      (ap (λ (log : List FileEntry). c.loop-file.logs.items ++ log ∷ []) (sym c.from_vec.ensures) ∙ sym c.in_ok-push.ensures.items)
      (item_step c.args.files.now c.loop-file.file-index c.file-item.result c.loop-file-test.true c.file-item.is c.loop-file.logs.items c.args.text.now c.loop-file.rest.now c.loop-file.invariant.1
      c.in-Ok.read.0.items c.in-Ok.read.1.now c.read_file.ensures.level c.in-Ok.ensures.read),
)

pub returns-clause-read : goal.returns-clause-read
returns-clause-read c =
    items_read c.args.files.now c.loop-file.file-index (omega (arith, c.loop-file-test.false)) c.loop-file.logs.items c.args.text.now c.loop-file.rest.now c.loop-file.invariant.1

pub returns-clause-levels : goal.returns-clause-levels
returns-clause-levels c =
    items_levels c.args.files.now c.loop-file.file-index (omega (arith, c.loop-file-test.false)) c.loop-file.logs.items c.args.text.now c.loop-file.rest.now c.loop-file.invariant.1
