use Rattle.std.proofs.Common.{◌≡◌, false, rules}
use Rattle.stale_changes.specs.PlaceMarks.{is_marked}
use Rattle.stale_changes.proofs.MarkedPlaces.{accepted_step, marked_step, places_cons}
use Rattle.stale_changes.proofs.place_marks.PlaceMarks.+add_all.Goals as goal

pub returns-clause-added : goal.returns-clause-added
returns-clause-added t c =
    let here : is_marked c.args.self.now.keys c.place-item.result ≡ false = search rules in
    marked_step c.add_all.result c.args.places.now _ c.place-item.result _ _ _ (places_cons c.args.places.now c.place-item.result c.in-len1-up.len_at_least c.place-item.is)
    c.requires here c.in_ok-add.ensures.ok c.add_all.ensures.added

pub returns-clause-accepts : goal.returns-clause-accepts
returns-clause-accepts t c =
    accepted_step c.add_all.result c.args.places.now _ c.place-item.result _ _ (places_cons c.args.places.now c.place-item.result c.in-len1-up.len_at_least c.place-item.is)
    c.requires c.in_ok-add.ensures.ok c.add_all.ensures.accepts
