use Rattle.std.proofs.Common.{◌≡◌, ℕ, List, ap, ◌∙◌, subst, rules}
use Rattle.report.specs.FileLines.{file_line}
use Rattle.report.specs.Printed.{file_block}
use Rattle.report_reader.specs.Counts.{count_line}
use Rattle.report_reader.specs.Fits.{IsWide}
use Rattle.report_reader.specs.Lines.{IsFileEntry, lacks}
use Rattle.report_blocks.specs.Blocks.{IsLog}
use Rattle.report_blocks.specs.Fronts.{IsRead, Stops}
use Rattle.report_blocks.proofs.BlockFronts.{block_read, count_stop, lines_stop}
use Rattle.report_blocks.proofs.FileHeads.{head_lacks}
use Rattle.report_blocks.proofs.LogBlocks.{file_head, file_is, some_entry, some_entry-fits}
use Rattle.report_blocks.proofs.Outcomes.{stops_too}
use Rattle.report_blocks.proofs.blocks.read_file.Goals as goal

pub count_behind-requires : goal.count_behind-requires
count_behind-requires c =
    let head : c.as_str-2.result.now ≡ file_head c.args.file.now = search rules in
    ap (lacks 10) head ∙ head_lacks c.args.file.now c.as_str.ensures.name

pub returns-in_err-count-clause-stopped : goal.returns-in_err-count-clause-stopped
returns-in_err-count-clause-stopped c =
    let f = c.args.file.now in
    let head : c.as_str-2.result.now ≡ file_head f = search rules in
    stops_too c.from_residual-in_err-count.result c.in_err-count.field-0.0 (Stops (IsLog IsFileEntry) (file_block f) c.args.text.now) c.from_residual-in_err-count.ensures.1
    (count_stop IsFileEntry (file_line f.level) (file_head f) (file_block f) (file_is f) some_entry some_entry-fits c.args.text.now c.in_err-count.field-0.0
    (subst (λ (h : List ℕ). Stops IsWide (count_line h) c.args.text.now c.in_err-count.field-0.0) head c.in_err-count.ensures.stopped))

pub returns-in-Ok-clause-read : goal.returns-in-Ok-clause-read
returns-in-Ok-clause-read c =
    let f = c.args.file.now in
    let head : c.as_str-2.result.now ≡ file_head f = search rules in
    block_read IsFileEntry (file_line f.level) (file_head f) (file_block f) (file_is f) c.in_ok-count.count c.args.text.now c.in_ok-count.rest.now c.in-Ok.read.0.items c.in-Ok.read.1.now
    (subst (λ (h : List ℕ). IsRead IsWide (count_line h) c.args.text.now c.in_ok-count.count c.in_ok-count.rest.now) head c.in_ok-count.ensures.read) c.in-Ok.ensures.read

pub returns-clause-stopped : goal.returns-clause-stopped
returns-clause-stopped c =
    let f = c.args.file.now in
    let head : c.as_str-2.result.now ≡ file_head f = search rules in
    lines_stop IsFileEntry (file_line f.level) (file_head f) (file_block f) (file_is f) c.in_ok-count.count c.args.text.now c.in_ok-count.rest.now c.in-Err.stop
    (subst (λ (h : List ℕ). IsRead IsWide (count_line h) c.args.text.now c.in_ok-count.count c.in_ok-count.rest.now) head c.in_ok-count.ensures.read) c.in-Err.ensures.stopped
