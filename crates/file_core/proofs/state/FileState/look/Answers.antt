use Rattle.std.proofs.Common.{arith}
use Rattle.std.proofs.lemmas.List.{length-map}
use Rattle.file_core.specs.Notes.{told_of}
use Rattle.striped_groups.specs.StoredGroups.{stored_group}
use Rattle.file_core.proofs.GroupLookups.{few_groups}
use Rattle.file_core.proofs.state.FileState.look.Goals as goal

pub overflow_cast-result : goal.overflow_cast-result
overflow_cast-result g c =
    let inside = c.self.inside in
    let few = few_groups inside.shape inside.level (told_of inside.log.notes) _ _ _ c.self.invariant.0.slots in
    let long = length-map inside.groups.items (stored_group g.S.Slot.place_of g.S.Slot.content g.S.Slot.len_of) in
    let count = inside.groups.ok.0 in
    let is = c.len.ensures in
    omega (arith, few, long, count, is)
