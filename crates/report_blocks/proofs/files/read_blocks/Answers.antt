use Rattle.std.proofs.Common.{codes, refl, sym, ◌∙◌}
use Rattle.report_reader.proofs.Parted.{nonempty}
use Rattle.report_blocks.specs.Blocks.{AreLogs, blocks_text}
use Rattle.report_blocks.specs.Fronts.{Fails}
use Rattle.report_blocks.proofs.Outcomes.{stops_too}
use Rattle.report_blocks.proofs.ReportFronts.{all_fit, all_read, board_stop, end_stop, engine_stop, fails, files_stop, left_over}
use Rattle.report_blocks.proofs.files.read_blocks.Goals as goal

pub returns-in-Err-clause-failed : goal.returns-in-Err-clause-failed
returns-in-Err-clause-failed c = fails c.args.files.now c.args.text.now c.in-Err.stop (board_stop c.args.files.now c.args.text.now c.in-Err.stop c.in-Err.ensures.stopped)

pub behind-requires : goal.behind-requires
behind-requires c = record { body = codes "engine 0"; is = refl; clean = refl }

pub returns-in_err-rest-clause-failed : goal.returns-in_err-rest-clause-failed
returns-in_err-rest-clause-failed c =
    let files = c.args.files.now in
    let text = c.args.text.now in
    let s = c.in_err-rest.field-0.0 in
    stops_too c.from_residual.result s (Fails (AreLogs files) (blocks_text files) text) c.from_residual.ensures.1
    (fails files text s (engine_stop files text c.in-Ok.read.0.items c.in-Ok.read.1.now c.in-Ok.ensures.read s c.in_err-rest.ensures.stopped))

pub returns-in-Err-read_files-clause-failed : goal.returns-in-Err-read_files-clause-failed
returns-in-Err-read_files-clause-failed c =
    let files = c.args.files.now in
    let text = c.args.text.now in
    fails files text c.in-Err-read_files.stop
    (files_stop files text c.in-Ok.read.0.items c.in-Ok.read.1.now c.in-Ok.ensures.read c.in_ok-rest.rest.now c.in_ok-rest.ensures.read c.in-Err-read_files.stop c.in-Err-read_files.ensures.stopped)

pub behind-requires-2 : goal.behind-requires-2
behind-requires-2 c = record { body = codes "end"; is = refl; clean = refl }

pub returns-in_err-rest-2-clause-failed : goal.returns-in_err-rest-2-clause-failed
returns-in_err-rest-2-clause-failed c =
    let files = c.args.files.now in
    let text = c.args.text.now in
    let s = c.in_err-rest-2.field-0.0 in
    stops_too c.from_residual-in_err-rest-2.result s (Fails (AreLogs files) (blocks_text files) text) c.from_residual-in_err-rest-2.ensures.1
    (fails files text s
    (end_stop files text c.in-Ok.read.0.items c.in-Ok.read.1.now c.in-Ok.ensures.read c.in_ok-rest.rest.now c.in_ok-rest.ensures.read c.in-Ok-read_files.ensures.levels c.in-Ok-read_files.read.0.items
    c.in-Ok-read_files.read.1.now c.in-Ok-read_files.ensures.read s c.in_err-rest-2.ensures.stopped))

pub returns-else-is_empty-clause-failed : goal.returns-else-is_empty-clause-failed
returns-else-is_empty-clause-failed c =
    let files = c.args.files.now in
    let text = c.args.text.now in
    left_over files text (c.in-Ok.read.0.items, c.in-Ok-read_files.read.0.items) c.in_ok-rest-2.rest.now c.in-Ok-read_files.ensures.levels
    (all_fit files text c.in-Ok.read.0.items c.in-Ok.read.1.now c.in-Ok.ensures.read c.in_ok-rest.rest.now c.in_ok-rest.ensures.read c.in-Ok-read_files.ensures.levels c.in-Ok-read_files.read.0.items
    c.in-Ok-read_files.read.1.now c.in-Ok-read_files.ensures.read)
    (all_read files text c.in-Ok.read.0.items c.in-Ok.read.1.now c.in-Ok.ensures.read c.in_ok-rest.rest.now c.in_ok-rest.ensures.read c.in-Ok-read_files.ensures.levels c.in-Ok-read_files.read.0.items
    c.in-Ok-read_files.read.1.now c.in-Ok-read_files.ensures.read c.in_ok-rest-2.rest.now c.in_ok-rest-2.ensures.read)
    (nonempty c.in_ok-rest-2.rest.now (sym c.is_empty.ensures ∙ c.if-is_empty.false))
