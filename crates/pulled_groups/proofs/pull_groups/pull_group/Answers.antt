use Rattle.std.proofs.Common.{◌≡◌, ◌∙◌, ℕ, Bool, List, length, sym, subst, ap, rules}
use Rattle.std.specs.List.{AllByRecursion}
use Rattle.striped_groups.specs.StoredGroups.{GroupSlots, stored_group}
use Rattle.pulled_groups.proofs.PullLemmas.{length_first_live, stored_same}
use Rattle.pulled_groups.proofs.pull_groups.pull_group.Goals as goal

pub read_where-requires-clause-flags : goal.read_where-requires-clause-flags
read_where-requires-clause-flags g c =
    let whole : length c.stripe.inside.slots.items ≡ length c.stripe.inside.group.places =
    subst (λ (s : GroupSlots g.row.S.Denot). length s.slots ≡ length s.group.places) (sym c.stripe.view_is) c.requires.may.whole in
    ap (λ (l : List Bool). length l) (c.deref.ensures.value ∙ c.in_ok-flags.ensures) ∙ length_first_live _ _ 0 _ ∙ sym whole

pub read_where-requires-clause-lengths : goal.read_where-requires-clause-lengths
read_where-requires-clause-lengths g c =
    let unit : c.args.len ≡ length c.deref_mut.result.now = search rules in
    let all = subst (λ (s : GroupSlots g.row.S.Denot). AllByRecursion (λ (x : g.row.S.Denot). g.S.Slot.len_of x ≡ c.args.len) s.slots) (sym c.stripe.view_is) c.requires.may.lengths in
    subst (λ (n : ℕ). AllByRecursion (λ (x : g.row.S.Denot). g.S.Slot.len_of x ≡ n) c.stripe.inside.slots.items) unit all

pub returns-in_err-read_where-clause-shown : goal.returns-in_err-read_where-clause-shown
returns-in_err-read_where-clause-shown g c =
    stored_same g.S.Slot.place_of g.S.Slot.content g.S.Slot.len_of c.stripe.inside.group c.read_where.new.slots.items c.stripe.inside.slots.items
    c.read_where.ensures.places c.read_where.ensures.contents c.read_where.ensures.same_lengths
    ∙ ap (stored_group g.S.Slot.place_of g.S.Slot.content g.S.Slot.len_of) c.stripe.view_is

pub returns-clause-shown : goal.returns-clause-shown
returns-clause-shown g c =
    stored_same g.S.Slot.place_of g.S.Slot.content g.S.Slot.len_of c.stripe.inside.group c.read_where.new.slots.items c.stripe.inside.slots.items
    c.read_where.ensures.places c.read_where.ensures.contents c.read_where.ensures.same_lengths
    ∙ ap (stored_group g.S.Slot.place_of g.S.Slot.content g.S.Slot.len_of) c.stripe.view_is
