use Rattle.std.proofs.Common.{◌≡◌, ◌∙◌, List, drop, ap, subst}
use Rattle.domains.specs.declared.group.Group.{Group}
use Rattle.file_history.specs.declared.entry.FileEntry.{FileEntry}
use Rattle.file_core.specs.FileView.{FileView}
use Rattle.striped_groups.specs.StoredGroups.{GroupSlots}
use Rattle.map_switches.specs.Switches.{groups_of, last_generation}
use Rattle.file_core.specs.FileSwitches.{stale_by}
use Rattle.map_switches.proofs.ChangeLemmas.{behind}
use Rattle.file_core.proofs.GroupLookups.{groups_of as groups_of_file}
use Rattle.file_core.proofs.PreparedChanges.{basis_from, same_cause}
use Rattle.file_core.proofs.state.FileState.stale.Goals as goal

pub returns-clause-cause : goal.returns-clause-cause
returns-clause-cause g c =
    let inside = c.self.inside in
    let kept = c.self.invariant.0 in
    let groups = ap (λ (gs : List (GroupSlots g.row.S.Denot)). groups_of gs) c.deref.ensures.value
    ∙ groups_of_file g.S.Slot.place_of g.S.Slot.content g.S.Slot.len_of inside.shape _ _ inside.groups.items _ kept.slots in
    subst (λ (f : FileView g.row.S.Denot). c.cause_in.result ≡ stale_by f c.args.change.now) c.self.view_is
    (c.cause_in.ensures
    ∙ same_cause _ _ c.args.change.now.at _ _ _ _ _ _ _ _
    (behind c.entries-entries.result.now c.args.change.now.at c.min-at.result c.min-at.ensures ∙ ap (λ (l : List FileEntry). drop c.args.change.now.at l) c.entries-entries.ensures)
    (basis_from c.unit.result inside.shape.unit c.args.change.now.units c.end_of.result _ c.last_generation.result _ c.args.change.now.level
    c.unit.ensures.value (c.last_generation.ensures ∙ ap (λ (gs : List Group). last_generation gs) groups) c.end_of.ensures)
    c.as_slice.ensures c.requires.kept c.requires.places)
