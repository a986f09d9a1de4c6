-- What the answers to plain operations say of the operations of a script.
use Rattle.std.proofs.Common.{◌≡◌, ℕ, true, false, List, length, refl, ap, sym, ◌∙◌, subst}
use Rattle.plain_file.specs.Plain.{AnswersPlain, RefusesPlain, is_placing}
use Rattle.file_history.specs.Refusals.{lacks_slots, is_no_room}
use Rattle.file_history.specs.declared.entry.FileEvent.{FileEvent}
use Rattle.file_history.specs.declared.entry.FileEvent.TheVariants.{Created, Deleted, Written, Shown, LevelSet, Placed, Dead, Barred, Cleared, Marked, Refused}
use Rattle.file_history.specs.declared.entry.Refused.{Refused as Refusal}
use Rattle.file_history.specs.declared.entry.Refused.TheVariants as refused
use Rattle.plain_file.specs.declared.op.PlainOp.{PlainOp}
use Rattle.plain_file.specs.declared.op.PlainOp.TheVariants as plain
use Rattle.scenario.specs.declared.op.Op.{Op}
use Rattle.scenario.specs.declared.op.Op.TheVariants as op
use Rattle.report.specs.Script.{AnswersOp, RefusesOp, IsWriteOf, is_operation_entry}

-- the operation of the script is this plain one
abbrev pub IsPlain : Op → PlainOp → Type 0
IsPlain (op.Create file) o = (file ≡ 0) × (o ≡ plain.Create)
IsPlain (op.WriteText file offset text) o = (file ≡ 0) × (offset ≡ 0) × (o ≡ plain.Write text)
IsPlain (op.Read file offset len) o = (file ≡ 0) × (o ≡ plain.Read offset len)
IsPlain (op.Fail drive) o = ⊥

create_is : (x : Op) (o : PlainOp) → IsPlain x o → o ≡ plain.Create → x ≡ op.Create 0
create_is (op.Create file) o h e = ap (λ (n : ℕ). op.Create n) h.0
create_is (op.WriteText file offset text) o h e = absurd (let d = sym h.2 ∙ e in cc)
create_is (op.Read file offset len) o h e = absurd (let d = sym h.1 ∙ e in cc)
create_is (op.Fail drive) o h e = absurd h

read_is : (x : Op) (o : PlainOp) (offset len : ℕ) → IsPlain x o → o ≡ plain.Read offset len → x ≡ op.Read 0 offset len
read_is (op.Create file) o offset len h e = absurd (let d = sym h.1 ∙ e in cc)
read_is (op.WriteText file start text) o offset len h e = absurd (let d = sym h.2 ∙ e in cc)
read_is (op.Read file start many) o offset len h e = let zero = h.0 in let d = sym h.1 ∙ e in cc
read_is (op.Fail drive) o offset len h e = absurd h

write_is : (x : Op) (o : PlainOp) (offset len : ℕ) → IsPlain x o → (offset ≡ 0) × (bytes : List ℕ) × (o ≡ plain.Write bytes) × (len ≡ length bytes)
    → IsWriteOf 0 offset len x
write_is (op.Create file) o offset len h w = absurd (let d = sym h.1 ∙ w.2 in cc)
write_is (op.WriteText file start text) o offset len h w =
    let d = sym h.2 ∙ w.2 in
    let same : text ≡ w.1 = cc in
    (h.0, h.1 ∙ sym w.0, ap length same ∙ sym w.3)
write_is (op.Read file start many) o offset len h w = absurd (let d = sym h.1 ∙ w.2 in cc)
write_is (op.Fail drive) o offset len h w = absurd h

refuses : (why : Refusal) (x : Op) (o : PlainOp) → IsPlain x o → RefusesPlain o why → RefusesOp 0 x why
refuses refused.CreateExists x o h a = create_is x o h a
refuses (refused.CreateTooFew fault) x o h a = create_is x o h a
refuses (refused.CreateNoRoom need got drives) x o h a = absurd a
refuses refused.DeleteAbsent x o h a = absurd a
refuses (refused.WriteAbsent offset len) x o h a = write_is x o offset len h a
refuses (refused.WriteTooFew offset len fault) x o h a = write_is x o offset len h a
refuses (refused.WriteTooLong offset len count) x o h a = absurd a
refuses (refused.WriteLost offset len lost) x o h a = write_is x o offset len h a
refuses (refused.WriteNoRoom offset len need got drives) x o h a = absurd a
refuses (refused.ReadAbsent offset len) x o h a = read_is x o offset len h a
refuses (refused.ReadLost offset len lost) x o h a = read_is x o offset len h a
refuses (refused.LevelAbsent level) x o h a = absurd a

-- what answers a plain operation answers the operation of the script
pub AnswersOp-plain : (event : FileEvent) (x : Op) (o : PlainOp) → IsPlain x o → AnswersPlain o event → AnswersOp 0 x event
AnswersOp-plain (Created inode) x o h a = create_is x o h a
AnswersOp-plain Deleted x o h a = absurd a
AnswersOp-plain (Written offset len size change) x o h a = write_is x o offset len h a
AnswersOp-plain (Shown offset len bytes) x o h a = read_is x o offset len h a
AnswersOp-plain (LevelSet level) x o h a = absurd a
AnswersOp-plain (Placed job change) x o h a = absurd a
AnswersOp-plain (Dead generation position) x o h a = absurd a
AnswersOp-plain (Barred job drives) x o h a = absurd a
AnswersOp-plain (Cleared job drives) x o h a = absurd a
AnswersOp-plain (Marked job count) x o h a = absurd a
AnswersOp-plain (Refused why) x o h a = refuses why x o h a

-- a plain operation is answered by its own entry
pub is_operation_entry-plain : (event : FileEvent) (o : PlainOp) → AnswersPlain o event → is_operation_entry event ≡ true
is_operation_entry-plain (Created inode) o a = refl
is_operation_entry-plain Deleted o a = refl
is_operation_entry-plain (Written offset len size change) o a = refl
is_operation_entry-plain (Shown offset len bytes) o a = refl
is_operation_entry-plain (LevelSet level) o a = refl
is_operation_entry-plain (Placed job change) o a = absurd a
is_operation_entry-plain (Dead generation position) o a = absurd a
is_operation_entry-plain (Barred job drives) o a = absurd a
is_operation_entry-plain (Cleared job drives) o a = absurd a
is_operation_entry-plain (Marked job count) o a = absurd a
is_operation_entry-plain (Refused why) o a = refl

-- no plain operation is refused for a lack of slots
room_of-plain : (why : Refusal) (o : PlainOp) → RefusesPlain o why → lacks_slots why ≡ false
room_of-plain refused.CreateExists o a = refl
room_of-plain (refused.CreateTooFew fault) o a = refl
room_of-plain (refused.CreateNoRoom need got drives) o a = absurd a
room_of-plain refused.DeleteAbsent o a = refl
room_of-plain (refused.WriteAbsent offset len) o a = refl
room_of-plain (refused.WriteTooFew offset len fault) o a = refl
room_of-plain (refused.WriteTooLong offset len count) o a = refl
room_of-plain (refused.WriteLost offset len lost) o a = refl
room_of-plain (refused.WriteNoRoom offset len need got drives) o a = absurd a
room_of-plain (refused.ReadAbsent offset len) o a = refl
room_of-plain (refused.ReadLost offset len lost) o a = refl
room_of-plain (refused.LevelAbsent level) o a = refl

pub is_no_room-plain : (event : FileEvent) (o : PlainOp) → AnswersPlain o event → is_no_room event ≡ false
is_no_room-plain (Created inode) o a = refl
is_no_room-plain Deleted o a = refl
is_no_room-plain (Written offset len size change) o a = refl
is_no_room-plain (Shown offset len bytes) o a = refl
is_no_room-plain (LevelSet level) o a = refl
is_no_room-plain (Placed job change) o a = refl
is_no_room-plain (Dead generation position) o a = refl
is_no_room-plain (Barred job drives) o a = refl
is_no_room-plain (Cleared job drives) o a = refl
is_no_room-plain (Marked job count) o a = refl
is_no_room-plain (Refused why) o a = room_of-plain why o a

-- the operation is no write
abbrev pub is_no_write : PlainOp → Type 0
is_no_write plain.Create = Unit {0}
is_no_write (plain.Write bytes) = ⊥
is_no_write (plain.Read offset len) = Unit {0}

-- where the operation is no write, the event places no groups
pub is_placing-plain : (event : FileEvent) (o : PlainOp) → is_no_write o → AnswersPlain o event → is_placing event ≡ false
is_placing-plain (Created inode) o idle a = refl
is_placing-plain Deleted o idle a = refl
is_placing-plain (Written offset len size change) o idle a = absurd (subst (λ (p : PlainOp). is_no_write p) a.2 idle)
is_placing-plain (Shown offset len bytes) o idle a = refl
is_placing-plain (LevelSet level) o idle a = refl
is_placing-plain (Placed job change) o idle a = absurd a
is_placing-plain (Dead generation position) o idle a = refl
is_placing-plain (Barred job drives) o idle a = refl
is_placing-plain (Cleared job drives) o idle a = refl
is_placing-plain (Marked job count) o idle a = refl
is_placing-plain (Refused why) o idle a = refl
