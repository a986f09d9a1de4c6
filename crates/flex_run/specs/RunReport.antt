-- What the top call did.
use Rattle.std.specs.Prelude.{codes, ◌≡◌, ◌⊎◌, ℕ, false, List, [], ◌∷◌, map, Contains, Option, IsSome, IfSome, IsUtf8}
use Rattle.std.specs.List.{AllByRecursion}
use Rattle.std.specs.Io.KnownBytes.{Appends}
use Rattle.flex_io.specs.Inputs.{AppendsFront}
use Rattle.flex_io.specs.declared.raw_place.RawPlace.{RawPlace}
use Rattle.file_history.specs.Refusals.{is_no_room}
use Rattle.file_history.specs.declared.entry.FileEntry.{FileEntry}
use Rattle.scenario.specs.declared.scenario.Scenario.{Scenario}
use Rattle.scenario_reader.specs.Answers.{SpellsScenario}
use Rattle.scenario_rules.specs.declared.rule.BadScenario.{BadScenario}
use Rattle.first_form.specs.FirstForm.{IsFirstForm}
use Rattle.first_form.specs.Wholes.{whole_of}
use Rattle.report.specs.Script.{HasSerialEpochs}
use Rattle.report.specs.Legal.{IsLegalRunWhere}
use Rattle.report.specs.Printed.{printed}
use Rattle.report.specs.declared.logs.Logs.{Logs}
use Rattle.flex_run.specs.RefusedSources.{IsPlayed, IsPlayable, IsRefused, refusal_line}
use Rattle.flex_run.specs.RackStates.{RackState, GivesAndTakesAll}
use Rattle.flex_run.specs.RackFaults.{RackFailed}
use Rattle.flex_run.specs.RunReturns.{BringsBack}

-- no entry of a file is a refusal since drives had no slot left
abbrev pub HasRoomThroughout : Logs → Type 0
HasRoomThroughout logs =
    AllByRecursion (λ (log : List FileEntry). AllByRecursion (λ (e : FileEntry). is_no_room e.event ≡ false) log) logs.files

-- the logs are those of a legal run of the scenario that the input spells, in which actors took turns and no drive lacked a
-- slot; where it is known what slots hold, reads show the bytes of their files
pub record AreLogsOf (known : Type 0) (input : List ℕ) (logs : Logs) : Type 0 where
  pub played : IsPlayed input logs.scenario
  pub legal : IsLegalRunWhere known logs
  pub serial : HasSerialEpochs logs
  pub roomy : HasRoomThroughout logs

-- the rack gave each slot of the cluster once, as many came back, and where the rack tells what, it came back as the logs say
pub record LeavesRack (logs : Logs) (before now : RackState) : Type 0 where
  pub counts : GivesAndTakesAll logs.scenario.shape before now
  pub back : BringsBack before.back now.back logs

-- the text prints the logs of a legal run of the scenario that the input spells, which left the rack as these logs say
pub record IsReport (known : Type 0) (input text : List ℕ) (before now : RackState) : Type 0 where
  pub logs : Logs
  pub run : AreLogsOf known input logs
  pub prints : text ≡ printed logs
  pub rack : LeavesRack logs before now

-- the sink took the printed logs of a legal run of the scenario that the input spells, which left the rack as these logs say
pub record RanLegally (known : Type 0) (input : List ℕ) (taken_before taken_now : Option (List ℕ)) (before now : RackState) : Type 0 where
  pub logs : Logs
  pub run : AreLogsOf known input logs
  pub taken : Appends taken_before taken_now (printed logs)
  pub rack : LeavesRack logs before now

-- the status is this one, or that of a line that could not be written
abbrev pub IsOrUnwritten : ℕ → ℕ → Type 0
IsOrUnwritten status result = (result ≡ status) ⊎ (result ≡ 5) ⊎ (result ≡ 6)

-- the status is that of a scenario that was played, or was not since a device failed or memory ran out
abbrev pub IsRunStatus : ℕ → Type 0
IsRunStatus result = (result ≡ 4) ⊎ (result ≡ 8) ⊎ IsOrUnwritten 0 result

-- the statuses of a run that was refused before it took a slot
abbrev pub IsRefusalStatus : ℕ → Type 0
IsRefusalStatus result = (result ≡ 2) ⊎ (result ≡ 3) ⊎ (result ≡ 4) ⊎ (result ≡ 7)

-- a slot or the rack failed in the run of the scenario that the input spells
pub record FailsInRun {S : Type 0} (place_of : S → RawPlace) (faults : S → ℕ) (input : Option (List ℕ)) (before now : RackState) : Type 0 where
  pub scenario : Scenario
  pub played : IfSome input (λ i. IsPlayed i scenario)
  pub cause : RackFailed place_of faults scenario.shape before now

-- the lines that say why there is no report, each after its status; status 3 has a line for each refusal
abbrev pub fault_lines : List (ℕ × List ℕ)
fault_lines =
    (2, codes "fault words\n") ∷ (4, codes "fault read\n")
    ∷ (7, codes "fault long\n") ∷ (8, codes "fault rack\n") ∷ []

-- all lines that a run may write in place of a report
abbrev pub all_fault_lines : List (List ℕ)
all_fault_lines = codes "fault memory\n" ∷ map (λ (row : ℕ × List ℕ). row.1) fault_lines

-- the text is the line of a refusal, whose cause is there where the source tells its bytes
pub record IsRefusalLine (input : Option (List ℕ)) (text : List ℕ) : Type 0 where
  pub bad : BadScenario
  pub is : text ≡ refusal_line bad
  pub cause : IfSome input (λ i. IsRefused i bad)

-- the sink took the line of a refusal, whose cause is there where the source tells its bytes
pub record TookRefusal (input taken_before taken_now : Option (List ℕ)) : Type 0 where
  pub text : List ℕ
  pub line : IsRefusalLine input text
  pub taken : Appends taken_before taken_now text

-- the sink took a prefix of such a line or, where the source tells its bytes, of the report of the run
pub record TookPrefix (input : Option (List ℕ)) (before now : RackState) (taken_before taken_now : Option (List ℕ)) : Type 0 where
  pub text : List ℕ
  pub kind : Contains all_fault_lines text ⊎ IsRefusalLine input text ⊎ IfSome input (λ i. IsReport (IsSome before.back) i text before now)
  pub prefix : AppendsFront taken_before taken_now text
