use Rattle.entry_causes.proofs.RoomLemmas.{too_few_if}
use Rattle.entry_causes.proofs.room.has_too_few.Goals as goal

pub returns : goal.returns
returns c now l usable same =
    too_few_if c.args.shape c.args.usable.now now l c.room_of-room.ensures.cluster usable c.args.level c.args.fault c.room_of-room.result c.is_told.result same
    c.room_of-room.ensures.value c.is_told.ensures
