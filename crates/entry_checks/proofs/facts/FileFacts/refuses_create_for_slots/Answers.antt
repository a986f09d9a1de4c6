use Rattle.std.proofs.Common.{◌≡◌, ◌+◌, true, false, rules}
use Rattle.entry_checks.proofs.CreationLemmas.{no_room_if, room_lacks}
use Rattle.entry_checks.proofs.facts.FileFacts.refuses_create_for_slots.Goals as goal

pub returns-then-not-has_room : goal.returns-then-not-has_room
returns-then-not-has_room c =
    let short : c.has_room.result ≡ false = search rules in
    room_lacks c.args.self.now c.if-self.false c.args.need c.args.got c.args.drives.now c.has_room.result short c.has_room.ensures

pub returns : goal.returns
returns c =
    let enough : c.has_room.result ≡ true = search rules in
    let need_is : c.args.need ≡ c.args.self.now.requested.m + 1 = search rules in
    no_room_if c.args.self.now c.if-self.false c.args.need c.args.got c.args.drives.now c.has_room.result c.has_no_room.result enough need_is c.has_room.ensures c.has_no_room.ensures
