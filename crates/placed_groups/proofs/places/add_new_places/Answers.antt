use Rattle.std.proofs.Common.{◌≡◌, false, true, rules}
use Rattle.std.specs.List.{list_all}
use Rattle.placed_groups.specs.NewPlaces.{is_open}
use Rattle.placed_groups.proofs.NewPlaceLemmas.{marks_answer, none_if_closed, open_are_places}
use Rattle.placed_groups.proofs.places.add_new_places.Goals as goal

pub returns-then-not-are_open-clause-new : goal.returns-then-not-are_open-clause-new
returns-then-not-are_open-clause-new c =
    let closed : list_all (is_open c.args.shape c.args.usable.now) c.args.places.now ≡ false = search rules in
    λ now l usable taken. none_if_closed c.args.shape c.args.usable.now c.args.places.now c.are_open.ensures.cluster closed now l usable

pub add_all-requires : goal.add_all-requires
add_all-requires c =
    let open_all : list_all (is_open c.args.shape c.args.usable.now) c.args.places.now ≡ true = search rules in
    open_are_places c.args.shape c.args.usable.now c.args.places.now c.are_open.ensures.cluster open_all

pub returns-clause-new : goal.returns-clause-new
returns-clause-new c =
    let open_all : list_all (is_open c.args.shape c.args.usable.now) c.args.places.now ≡ true = search rules in
    marks_answer c.add_all.result c.args.shape c.args.usable.now c.args.places.now _ _ c.are_open.ensures.cluster open_all c.add_all.ensures.added c.add_all.ensures.accepts
