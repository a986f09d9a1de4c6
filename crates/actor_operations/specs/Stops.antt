-- What the answers of paths are to a run.
use Rattle.std.specs.Prelude.{Result, Ok, Err}
use Rattle.board.specs.declared.board.Grow.{Grow}
use Rattle.board.specs.declared.board.Grow.TheVariants as grow
use Rattle.level_path.specs.declared.level_setting.LevelRefusal.{LevelRefusal}
use Rattle.level_path.specs.declared.level_setting.LevelRefusal.TheVariants as level
use Rattle.read_path.specs.declared.reading.ReadRefusal.{ReadRefusal}
use Rattle.read_path.specs.declared.reading.ReadRefusal.TheVariants as read
use Rattle.write_path.specs.declared.creation.CreateRefusal.{CreateRefusal}
use Rattle.write_path.specs.declared.creation.CreateRefusal.TheVariants as create
use Rattle.write_path.specs.declared.removal.RemoveRefusal.{RemoveRefusal}
use Rattle.write_path.specs.declared.removal.RemoveRefusal.TheVariants as remove
use Rattle.actor_operations.specs.declared.stop.Stop.{Stop}
use Rattle.actor_operations.specs.declared.stop.Stop.TheVariants as stop

-- how an operation ended: with its entry, or with the reason why it has none
abbrev pub Ended : Type 0
Ended = Result (Unit {0}) Stop

-- a refusal that is noted is an entry, and stops nothing
abbrev pub after_create : {T : Type 0} → Result T CreateRefusal → Ended
after_create (Ok done) = Ok tt
after_create (Err create.Exists) = Ok tt
after_create (Err (create.TooFew fault)) = Ok tt
after_create (Err (create.NoRoom told)) = Ok tt
after_create (Err create.LogFull) = Err stop.LogFull
after_create (Err create.NoMemory) = Err stop.NoMemory

abbrev pub after_removal : {T : Type 0} → Result T RemoveRefusal → Ended
after_removal (Ok done) = Ok tt
after_removal (Err remove.Absent) = Ok tt
after_removal (Err remove.LogFull) = Err stop.LogFull
after_removal (Err remove.NoMemory) = Err stop.NoMemory

abbrev pub after_read : {T : Type 0} → Result T ReadRefusal → Ended
after_read (Ok bytes) = Ok tt
after_read (Err read.Absent) = Ok tt
after_read (Err (read.Lost loss)) = Ok tt
after_read (Err read.LogFull) = Err stop.LogFull
after_read (Err read.NoMemory) = Err stop.NoMemory

abbrev pub after_level : {T : Type 0} → Result T LevelRefusal → Ended
after_level (Ok done) = Ok tt
after_level (Err level.Absent) = Ok tt
after_level (Err level.LogFull) = Err stop.LogFull
after_level (Err level.NoMemory) = Err stop.NoMemory

-- an order that changes nothing is noted too
abbrev pub after_order : {T : Type 0} → Result T Grow → Ended
after_order (Ok effect) = Ok tt
after_order (Err grow.LogFull) = Err stop.LogFull
after_order (Err grow.NoMemory) = Err stop.NoMemory
