-- What a play tells, by its answer.
use Rattle.std.proofs.Common.{◌≡◌, ℕ, ◌≤◌, List, length, Option, Result, Ok, Err, OnOk, refl}
use Rattle.std.specs.Result.{IsErrOf}
use Rattle.actor_operations.specs.declared.stop.Stop.{Stop}
use Rattle.actor_operations.specs.declared.stop.Stop.TheVariants as stop
use Rattle.fabric.specs.declared.fault.OpenFault.{OpenFault}
use Rattle.fabric.specs.declared.fault.OpenFault.TheVariants as open_fault
use Rattle.fabric.specs.declared.hand.Hand.{Hand}
use Rattle.file_cells.specs.declared.open_file.OpenFile.{OpenFile}
use Rattle.flex_io.specs.Faults.{HasRisen}
use Rattle.flex_io.specs.declared.fault.Fault.{Fault}
use Rattle.flex_io.specs.declared.fault.Fault.TheVariants as fault
use Rattle.flex_io.specs.declared.raw_place.RawPlace.{RawPlace}
use Rattle.returned_slots.specs.RackStates.{RackState}
use Rattle.striped_groups.specs.StoredGroups.{AllTell}
use Rattle.whole_scenario.specs.declared.whole.Scenario.{Scenario}
use Rattle.serial_play.specs.Outcomes.{EndsCells, PlayTells, fault_at_open, outcome_of}
use Rattle.serial_play.specs.PlayedRuns.{IsPlayableScenario, IsPlayed, IsStoppedFull}
use Rattle.serial_play.specs.RunEnds.{ReturnsSlots, order_of}
use Rattle.serial_play.specs.declared.logs.PlayFault.{PlayFault}
use Rattle.serial_play.specs.declared.logs.PlayFault.TheVariants as play
use Rattle.serial_play.specs.declared.logs.RunLogs.{RunLogs}
use Rattle.serial_play.proofs.EndedLogs.{full-run, serial-run}
use Rattle.serial_play.proofs.EndedSlots.{returns-slots}

module _ {S : Type 0} (place_of : S → RawPlace) (content : S → Option (List ℕ)) (len_of : S → ℕ) (s : Scenario) (playable : IsPlayableScenario s) (few : length s.files ≤ 65535)
    (files : List (OpenFile S)) (hand : Hand S) (logs : RunLogs) (before now : RackState) where
  abbrev Tells : Result RunLogs PlayFault → Type 0
  Tells = PlayTells (AllTell content) (λ (l : RunLogs). ReturnsSlots place_of content s l.board l.files before now) (HasRisen before.faults now.faults) s

  pub play-tells : {T U : Type 0} (played : Result T Stop) (put : Result U Fault) → OnOk played (IsPlayed place_of content len_of s (order_of s) files hand)
      → (IsErrOf played stop.LogFull → IsStoppedFull place_of content len_of s (order_of s) files hand)
      → EndsCells place_of content s.shape hand files logs.board logs.files put before now → Tells (outcome_of played put logs)
  play-tells (Ok done) (Err fault.Failed) ran full ends = ends.returns.fault refl
  play-tells (Ok done) (Err fault.NoMemory) ran full ends = tt
  play-tells (Err e) (Err fault.Failed) ran full ends = ends.returns.fault refl
  play-tells (Err e) (Err fault.NoMemory) ran full ends = tt
  play-tells (Ok done) (Ok put) ran full ends = (
    serial-run place_of content len_of s playable files hand logs.board logs.files ends.board_is ends.logs_are ran,
    returns-slots place_of content len_of s (order_of s) files hand ran few put logs.board logs.files before now ends,
  )
  play-tells (Err stop.LogFull) (Ok put) ran full ends =
      let stopped = full refl in (
        full-run place_of content len_of s playable files hand logs.board logs.files ends.board_is ends.logs_are stopped,
        returns-slots place_of content len_of s stopped.done files hand stopped.played few put logs.board logs.files before now ends,
      )
  play-tells (Err stop.NoMemory) (Ok put) ran full ends = tt

-- what is told of a part of a play is told of the whole
pub tells-later : (known Fails Fails2 : Type 0) (Leaves Leaves2 : RunLogs → Type 0) (s : Scenario) (result : Result RunLogs PlayFault) → ((l : RunLogs) → Leaves l → Leaves2 l)
    → (Fails → Fails2) → PlayTells known Leaves Fails s result → PlayTells known Leaves2 Fails2 s result
tells-later known Fails Fails2 Leaves Leaves2 s (Ok logs) leaves fails tells = (tells.0, leaves logs tells.1)
tells-later known Fails Fails2 Leaves Leaves2 s (Err (play.LogFull logs)) leaves fails tells = (tells.0, leaves logs tells.1)
tells-later known Fails Fails2 Leaves Leaves2 s (Err play.Rack) leaves fails tells = fails tells
tells-later known Fails Fails2 Leaves Leaves2 s (Err play.NoMemory) leaves fails tells = tt

abbrev pub failed : PlayFault → Result RunLogs PlayFault
failed e = Err e

-- the beginning failed
pub tells-open : (known Fails : Type 0) (Leaves : RunLogs → Type 0) (s : Scenario) (f : OpenFault) → (f ≡ open_fault.Rack → Fails) → PlayTells known Leaves Fails s (failed (fault_at_open f))
tells-open known Fails Leaves s open_fault.Rack fails = fails refl
tells-open known Fails Leaves s open_fault.NoMemory fails = tt
