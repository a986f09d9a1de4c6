use Rattle.std.proofs.Common.{◌≡◌, ℕ, ◌++◌, ◌∷◌, [], List, length, sym, ap, ◌∙◌}
use Rattle.map_changes.specs.ChangedMaps.{first_of}
use Rattle.map_switches.specs.Switches.{groups_of}
use Rattle.striped_groups.specs.StoredGroups.{GroupSlots}
use Rattle.map_switches.proofs.RepairedRuns.{IsAlone, alone, gone_one, groups_replaced, logged_one, no_group, one_group, stripe_is}
use Rattle.map_switches.proofs.exchanged.replace.Given.{Over}
use Rattle.map_switches.proofs.exchanged.replace.Goals as goal

pub unreachable-requires : goal.unreachable-requires
unreachable-requires g c =
    let gs = c.args.groups.now.items in
    let a = alone gs c.args.old.now c.in-Units.units c.args.fresh c.in-Units.is c.requires.units in
    no_group c.args.repaired _ c.in_default.is
    (c.requires.repaired ∙ logged_one gs c.args.old.now c.in-Units.units c.args.fresh c.args.next c.in-Units.is a)

pub exchange_units-requires-clause-whole : goal.exchange_units-requires-clause-whole
exchange_units-requires-clause-whole g c =
    let gs = c.args.groups.now.items in
    let a = alone gs c.args.old.now c.in-Units.units c.args.fresh c.in-Units.is c.requires.units in
    let first : _ = c.first_of-first.ensures.value
    ∙ ap (λ (x : List _ × List (GroupSlots g.row.S.Denot)). first_of x.0 (groups_of x.1)) (λ i. (c.as_slice.ensures i, c.deref.ensures.value i)) in
    a.whole ∙ sym (ap (λ (x : GroupSlots g.row.S.Denot). length x.slots) (stripe_is gs c.args.old.now c.in-Units.units c.first_of-first.result a first c.index_mut.result.now c.index_mut.ensures.value))

module _ (g : Over) (c : goal.After-from_vec g) where
  one : IsAlone c.args.groups.now.items c.args.old.now c.in-Units.units
  one = alone c.args.groups.now.items c.args.old.now c.in-Units.units c.args.fresh c.in-Units.is c.requires.units

  first : c.first_of-first.result ≡ first_of c.args.old.now (groups_of c.args.groups.now.items)
  first =
      c.first_of-first.ensures.value
      ∙ ap (λ (x : List ℕ × List (GroupSlots g.row.S.Denot)). first_of x.0 (groups_of x.1)) (λ i. (c.as_slice.ensures i, c.deref.ensures.value i))

pub returns-in-Some-clause-groups : goal.returns-in-Some-clause-groups
returns-in-Some-clause-groups g c =
    let gs = c.args.groups.now.items in
    let a = one g c in
    groups_replaced gs c.args.old.now c.in-Units.units c.first_of-first.result a (first g c) c.args.fresh c.args.next c.in-Some.group c.index_mut.result.now c.exchange_units.new.stripe
    c.in-Units.is c.index_mut.ensures.value
    (one_group c.args.repaired c.in-Some.group _ c.in-Some.is
    (c.requires.repaired ∙ logged_one gs c.args.old.now c.in-Units.units c.args.fresh c.args.next c.in-Units.is a))
    c.exchange_units.ensures.new c.requires.within

pub returns-in-Some-clause-gone : goal.returns-in-Some-clause-gone
returns-in-Some-clause-gone g c =
    let gs = c.args.groups.now.items in
    c.from_vec.ensures ∙ c.push_reserved.ensures.items
    ∙ ap (λ (l : List (GroupSlots g.row.S.Denot)). l ++ c.exchange_units.result ∷ []) c.requires.gone_room.no_groups
    ∙ gone_one gs c.args.old.now c.in-Units.units c.first_of-first.result (one g c) (first g c) c.args.fresh c.index_mut.result.now c.exchange_units.result c.in-Units.is c.index_mut.ensures.value
    c.exchange_units.ensures.old
