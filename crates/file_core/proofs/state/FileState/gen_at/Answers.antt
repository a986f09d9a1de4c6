use Rattle.std.proofs.Common.{◌≡◌, sym, subst, Some}
use Rattle.std.specs.List.{slice_get}
use Rattle.file_core.specs.FileView.{FileView, layout_of}
use Rattle.file_core.proofs.GroupLookups.{mapped_at, slice_get_at}
use Rattle.file_core.proofs.state.FileState.gen_at.Goals as goal

pub returns-clause-found : goal.returns-clause-found
returns-clause-found g c =
    let inside = c.self.inside in
    let stripe = c.in_ok-stripe.stripe.now in (
      stripe.group,
      subst (λ (f : FileView g.row.S.Denot). slice_get (layout_of f).groups c.args.position ≡ Some stripe.group) c.self.view_is
          (mapped_at g.S.Slot.place_of g.S.Slot.content g.S.Slot.len_of inside.shape _ _ inside.groups.items _ c.args.position stripe c.self.invariant.0.slots
          (slice_get_at _ inside.groups.items _ c.args.position stripe c.deref.ensures.value c.from.ensures c.in_ok-stripe.ensures.lookup.3)),
      sym c.generation.ensures,
    )
