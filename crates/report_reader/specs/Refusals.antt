-- The words of a refusal: why an operation was refused.
use Rattle.std.specs.Prelude.{codes, ◌≡◌, ℕ, List, [], ◌∷◌, ◌++◌}
use Rattle.std.specs.Fmt.{decimal}
use Rattle.domains.specs.Drive.{Drive}
use Rattle.domains.specs.declared.group.Lost.{Lost}
use Rattle.domains.specs.declared.room.TooFew.{TooFew}
use Rattle.file_history.specs.declared.entry.Refused.{Refused}
use Rattle.file_history.specs.declared.entry.Refused.TheVariants as refused
use Rattle.report.specs.Words.{drives_text}

abbrev pub too_few_rest : TooFew → List ℕ
too_few_rest t = decimal t.have ++ 32 ∷ decimal t.need

abbrev pub lost_rest : Lost → List ℕ
lost_rest l = decimal l.generation ++ 32 ∷ (decimal l.have ++ 32 ∷ decimal l.need)

abbrev pub no_room_rest : ℕ → ℕ → List Drive → List ℕ
no_room_rest need got drives = decimal need ++ 32 ∷ (decimal got ++ 32 ∷ drives_text drives)

-- the first word of the reason
abbrev pub reason_head : Refused → List ℕ
reason_head refused.CreateExists = codes "exists"
reason_head (refused.CreateTooFew fault) = codes "toofew"
reason_head (refused.CreateNoRoom need got drives) = codes "noroom"
reason_head refused.DeleteAbsent = codes "absent"
reason_head (refused.WriteAbsent offset len) = codes "absent"
reason_head (refused.WriteTooFew offset len fault) = codes "toofew"
reason_head (refused.WriteTooLong offset len count) = codes "toolong"
reason_head (refused.WriteLost offset len l) = codes "lost"
reason_head (refused.WriteNoRoom offset len need got drives) = codes "noroom"
reason_head (refused.ReadAbsent offset len) = codes "absent"
reason_head (refused.ReadLost offset len l) = codes "lost"
reason_head (refused.LevelAbsent level) = codes "absent"

-- what follows it behind a space, if anything does
abbrev pub reason_rest : Refused → List ℕ
reason_rest refused.CreateExists = []
reason_rest (refused.CreateTooFew fault) = too_few_rest fault
reason_rest (refused.CreateNoRoom need got drives) = no_room_rest need got drives
reason_rest refused.DeleteAbsent = []
reason_rest (refused.WriteAbsent offset len) = []
reason_rest (refused.WriteTooFew offset len fault) = too_few_rest fault
reason_rest (refused.WriteTooLong offset len count) = decimal count
reason_rest (refused.WriteLost offset len l) = lost_rest l
reason_rest (refused.WriteNoRoom offset len need got drives) = no_room_rest need got drives
reason_rest (refused.ReadAbsent offset len) = []
reason_rest (refused.ReadLost offset len l) = lost_rest l
reason_rest (refused.LevelAbsent level) = []

-- the refusal of a create
abbrev pub IsCreateRefusal : Refused → Type 0
IsCreateRefusal refused.CreateExists = Unit {0}
IsCreateRefusal (refused.CreateTooFew fault) = Unit {0}
IsCreateRefusal (refused.CreateNoRoom need got drives) = Unit {0}
IsCreateRefusal refused.DeleteAbsent = ⊥
IsCreateRefusal (refused.WriteAbsent offset len) = ⊥
IsCreateRefusal (refused.WriteTooFew offset len fault) = ⊥
IsCreateRefusal (refused.WriteTooLong offset len count) = ⊥
IsCreateRefusal (refused.WriteLost offset len l) = ⊥
IsCreateRefusal (refused.WriteNoRoom offset len need got drives) = ⊥
IsCreateRefusal (refused.ReadAbsent offset len) = ⊥
IsCreateRefusal (refused.ReadLost offset len l) = ⊥
IsCreateRefusal (refused.LevelAbsent level) = ⊥

-- the refusal of a write of this range
abbrev pub IsWriteRefusal : ℕ → ℕ → Refused → Type 0
IsWriteRefusal o n refused.CreateExists = ⊥
IsWriteRefusal o n (refused.CreateTooFew fault) = ⊥
IsWriteRefusal o n (refused.CreateNoRoom need got drives) = ⊥
IsWriteRefusal o n refused.DeleteAbsent = ⊥
IsWriteRefusal o n (refused.WriteAbsent offset len) = (o ≡ offset) × (n ≡ len)
IsWriteRefusal o n (refused.WriteTooFew offset len fault) = (o ≡ offset) × (n ≡ len)
IsWriteRefusal o n (refused.WriteTooLong offset len count) = (o ≡ offset) × (n ≡ len)
IsWriteRefusal o n (refused.WriteLost offset len l) = (o ≡ offset) × (n ≡ len)
IsWriteRefusal o n (refused.WriteNoRoom offset len need got drives) = (o ≡ offset) × (n ≡ len)
IsWriteRefusal o n (refused.ReadAbsent offset len) = ⊥
IsWriteRefusal o n (refused.ReadLost offset len l) = ⊥
IsWriteRefusal o n (refused.LevelAbsent level) = ⊥

-- the refusal of a read of this range
abbrev pub IsReadRefusal : ℕ → ℕ → Refused → Type 0
IsReadRefusal o n refused.CreateExists = ⊥
IsReadRefusal o n (refused.CreateTooFew fault) = ⊥
IsReadRefusal o n (refused.CreateNoRoom need got drives) = ⊥
IsReadRefusal o n refused.DeleteAbsent = ⊥
IsReadRefusal o n (refused.WriteAbsent offset len) = ⊥
IsReadRefusal o n (refused.WriteTooFew offset len fault) = ⊥
IsReadRefusal o n (refused.WriteTooLong offset len count) = ⊥
IsReadRefusal o n (refused.WriteLost offset len l) = ⊥
IsReadRefusal o n (refused.WriteNoRoom offset len need got drives) = ⊥
IsReadRefusal o n (refused.ReadAbsent offset len) = (o ≡ offset) × (n ≡ len)
IsReadRefusal o n (refused.ReadLost offset len l) = (o ≡ offset) × (n ≡ len)
IsReadRefusal o n (refused.LevelAbsent level) = ⊥

-- the reason of a refusal
abbrev pub reason_line : Refused → List ℕ
reason_line refused.CreateExists = codes "exists"
reason_line (refused.CreateTooFew fault) = codes "toofew" ++ 32 ∷ too_few_rest fault
reason_line (refused.CreateNoRoom need got drives) = codes "noroom" ++ 32 ∷ no_room_rest need got drives
reason_line refused.DeleteAbsent = codes "absent"
reason_line (refused.WriteAbsent offset len) = codes "absent"
reason_line (refused.WriteTooFew offset len fault) = codes "toofew" ++ 32 ∷ too_few_rest fault
reason_line (refused.WriteTooLong offset len count) = codes "toolong" ++ 32 ∷ decimal count
reason_line (refused.WriteLost offset len l) = codes "lost" ++ 32 ∷ lost_rest l
reason_line (refused.WriteNoRoom offset len need got drives) = codes "noroom" ++ 32 ∷ no_room_rest need got drives
reason_line (refused.ReadAbsent offset len) = codes "absent"
reason_line (refused.ReadLost offset len l) = codes "lost" ++ 32 ∷ lost_rest l
reason_line (refused.LevelAbsent level) = codes "absent"
