use Rattle.std.proofs.Common.{subst}
use Rattle.file_core.specs.FileView.{FileView, IsFile}
use Rattle.map_switches.proofs.ChangeLemmas.{refused_early}
use Rattle.file_core.specs.FileSwitches.{stale_by}
use Rattle.file_core.proofs.state.FileState.switch.Goals as goal

pub returns-in_default-clause-refused : goal.returns-in_default-clause-refused
returns-in_default-clause-refused g c =
    refused_early g.S.Slot.place_of g.S.Slot.faults (stale_by c.args.self.now c.args.change) c.args.change

pub returns-in_default-clause-file : goal.returns-in_default-clause-file
returns-in_default-clause-file g c = subst (λ (f : FileView g.row.S.Denot). IsFile g.S.Slot.place_of g.S.Slot.content g.S.Slot.len_of f) c.self.view_is c.self.invariant.0

pub returns-then-is_err-clause-refused : goal.returns-then-is_err-clause-refused
returns-then-is_err-clause-refused g c =
    refused_early g.S.Slot.place_of g.S.Slot.faults (stale_by c.args.self.now c.args.change) c.args.change

pub returns-in_default-prepare-clause-refused : goal.returns-in_default-prepare-clause-refused
returns-in_default-prepare-clause-refused g c =
    refused_early g.S.Slot.place_of g.S.Slot.faults (stale_by c.args.self.now c.args.change) c.args.change

pub returns-in_default-kept_by-clause-refused : goal.returns-in_default-kept_by-clause-refused
returns-in_default-kept_by-clause-refused g c =
    refused_early g.S.Slot.place_of g.S.Slot.faults (stale_by c.args.self.now c.args.change) c.args.change
