use Rattle.std.proofs.Common.{◌≡◌, ◌∙◌, sym, ap, subst, Some}
use Rattle.std.specs.List.{slice_get}
use Rattle.domains.specs.declared.group.Group.{Group}
use Rattle.file_history.specs.Layout.{all_groups, group_list, layout_after}
use Rattle.file_core.specs.Notes.{told_of}
use Rattle.file_core.specs.FileView.{FileView, layout_of}
use Rattle.file_core.proofs.GroupLookups.{mapped_at, slice_get-front, slice_get_at}
use Rattle.file_core.proofs.state.FileState.group_at.Goals as goal

pub returns-clause-found : goal.returns-clause-found
returns-clause-found g c =
    let inside = c.self.inside in
    let l = layout_after inside.level (told_of inside.log.notes) in
    let stripe = c.in_ok-stripe.stripe.now in
    subst (λ (f : FileView g.row.S.Denot). slice_get (all_groups (layout_of f)) c.args.position ≡ Some c.group-2.result.now) c.self.view_is
    (slice_get-front l.groups (group_list l.inode) c.args.position _
    (mapped_at g.S.Slot.place_of g.S.Slot.content g.S.Slot.len_of inside.shape l _ inside.groups.items _ c.args.position stripe c.self.invariant.0.slots
    (slice_get_at _ inside.groups.items _ c.args.position stripe c.deref.ensures.value c.from-at.ensures c.in_ok-stripe.ensures.lookup.3)
    ∙ ap (λ (x : Group). Some x) (sym c.group-2.ensures)))
