-- Why a write is refused, and what is noted of it.
use Rattle.std.specs.Prelude.{◌≡◌, ℕ, [], Result, Err}
use Rattle.board.specs.declared.board_view.View.{View}
use Rattle.domains.specs.declared.by.By.{By}
use Rattle.file_core.specs.FileView.{FileView, with_note}
use Rattle.file_core.specs.Notes.{noted}
use Rattle.file_history.specs.declared.entry.FileEvent.TheVariants.{Refused}
use Rattle.file_history.specs.declared.entry.Refused.{Refused as Refusal}
use Rattle.file_history.specs.declared.entry.Refused.TheVariants as refused
use Rattle.placement.specs.declared.refusal.NoRoom.{NoRoom as NoRoomTold}
use Rattle.slot_search.specs.HandSeats.{drives_at}
use Rattle.write_plans.specs.declared.plan.PlanRefusal.{PlanRefusal}
use Rattle.write_plans.specs.declared.plan.PlanRefusal.TheVariants as plan
use Rattle.write_plans.specs.declared.plan.WritePlan.{WritePlan}
use Rattle.file_writes.specs.declared.refusal.WriteRefusal.{WriteRefusal}
use Rattle.file_writes.specs.declared.refusal.WriteRefusal.TheVariants as write

-- the refusal is noted, and nothing else is changed
abbrev pub NotesWhy : {S : Type 0} → By → View → Refusal → FileView S → FileView S → Type 0
NotesWhy by view why x y = y ≡ with_note x (noted by view (Refused why) [])

-- the answer of a plan that is refused
abbrev pub no_plan : PlanRefusal → Result WritePlan PlanRefusal
no_plan refusal = Err refusal

-- a write that has no plan is refused with its cause, which is noted, or memory ran out
abbrev pub NotesNoPlan : {S : Type 0} → PlanRefusal → WriteRefusal → By → View → ℕ → ℕ → FileView S → FileView S → Type 0
NotesNoPlan plan.Absent answer by view offset len x y = (answer ≡ write.Absent) × NotesWhy by view (refused.WriteAbsent offset len) x y
NotesNoPlan (plan.TooFew fault) answer by view offset len x y = (answer ≡ write.TooFew fault) × NotesWhy by view (refused.WriteTooFew offset len fault) x y
NotesNoPlan (plan.TooLong count) answer by view offset len x y = (answer ≡ write.TooLong count) × NotesWhy by view (refused.WriteTooLong offset len count) x y
NotesNoPlan plan.NoMemory answer by view offset len x y = (answer ≡ write.NoMemory) × (y ≡ x)

-- a write that found no room is refused so, which is noted, or memory ran out
abbrev pub NotesNoRoom : {S : Type 0} → WriteRefusal → By → View → ℕ → ℕ → NoRoomTold → FileView S → FileView S → Type 0
NotesNoRoom write.Absent by view offset len told x y = ⊥
NotesNoRoom (write.TooFew fault) by view offset len told x y = ⊥
NotesNoRoom (write.TooLong count) by view offset len told x y = ⊥
NotesNoRoom (write.Lost lost) by view offset len told x y = ⊥
NotesNoRoom (write.NoRoom answered) by view offset len told x y =
    (answered ≡ told) × NotesWhy by view (refused.WriteNoRoom offset len told.need told.got (drives_at told.empty)) x y
NotesNoRoom write.LogFull by view offset len told x y = ⊥
NotesNoRoom write.NoMemory by view offset len told x y = y ≡ x
