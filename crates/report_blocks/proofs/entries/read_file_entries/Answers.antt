use Rattle.std.proofs.Common.{◌≡◌, ◌<◌, ◌++◌, ◌∷◌, [], List, length, sym, subst, rules}
use Rattle.file_history.specs.declared.entry.FileEntry.{FileEntry}
use Rattle.report.specs.FileLines.{file_line}
use Rattle.report_reader.specs.Lines.{IsFileEntry}
use Rattle.report_blocks.proofs.EntryLines.{AreSome, lines_end, lines_start, lines_step, lines_stop}
use Rattle.report_blocks.proofs.LogBlocks.{file_tells}
use Rattle.report_blocks.proofs.entries.read_file_entries.Goals as goal

pub entries-init : goal.entries-init
entries-init c = (
  search rules,
  subst (λ (xs : List FileEntry). AreSome IsFileEntry (file_line c.args.declared) c.args.count c.args.text.now xs c.args.text.now) (sym c.new-entries.ensures.items) (lines_start IsFileEntry (file_line c.args.declared) c.args.count c.args.text.now),
)

pub entries-preserved : goal.entries-preserved
entries-preserved c =
    let few : length c.entries.entries.items < c.args.count = search rules in (
      search rules,
      subst (λ (xs : List FileEntry). AreSome IsFileEntry (file_line c.args.declared) c.args.count c.args.text.now xs c.in-Ok.next.1.now) (sym c.in_ok-push.ensures.items)
          (lines_step IsFileEntry (file_line c.args.declared) c.args.count c.args.text.now c.entries.entries.items c.entries.rest.now c.in-Ok.next.0 c.in-Ok.next.1.now c.entries.invariant.1 few c.in-Ok.ensures.read),
    )

pub returns-in-Err-clause-stopped : goal.returns-in-Err-clause-stopped
returns-in-Err-clause-stopped c =
    let few : length c.entries.entries.items < c.args.count = search rules in
    lines_stop IsFileEntry (file_line c.args.declared) (file_tells c.args.declared c.w-width.ensures.level) c.args.count c.args.text.now c.entries.entries.items c.entries.rest.now c.in-Err.stop c.entries.invariant.1 few c.in-Err.ensures.stopped
