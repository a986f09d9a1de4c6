use Rattle.std.proofs.Common.{rules}
use Rattle.entry_causes.proofs.RoomLemmas.{has_room_if}
use Rattle.entry_causes.proofs.room.has_room.Goals as goal

pub returns : goal.returns
returns c now l usable same =
    has_room_if c.args.shape c.args.usable.now now l c.room_of-room.ensures.cluster usable c.args.level _ c.room_of-room.result same (search rules) c.room_of-room.ensures.value
