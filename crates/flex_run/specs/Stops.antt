-- Why there is no report, and what is written in its place.
use Rattle.std.specs.Prelude.{codes, ◌≡◌, ◌⊎◌, ℕ, Bool, true, false, List, Result, Err, IsOk}
use Rattle.std.specs.Result.{IsErrAnd}
use Rattle.flex_run.specs.declared.stop.RunStop.{RunStop}
use Rattle.flex_run.specs.declared.stop.RunStop.TheVariants.{Words, Read, Long, Scenario, Rack, Memory}
use Rattle.flex_run.specs.RefusedSources.{IsPlayable, IsRefused, refusal_line}

-- the exit status
abbrev pub status_of : RunStop → ℕ
status_of Words = 2
status_of (Scenario bad) = 3
status_of Read = 4
status_of Memory = 6
status_of Long = 7
status_of Rack = 8

-- the line that says it
abbrev pub line_of : RunStop → List ℕ
line_of Words = codes "fault words\n"
line_of (Scenario bad) = refusal_line bad
line_of Read = codes "fault read\n"
line_of Memory = codes "fault memory\n"
line_of Long = codes "fault long\n"
line_of Rack = codes "fault rack\n"

-- the run was refused before it took a slot
abbrev pub is_early : RunStop → Bool
is_early Words = true
is_early (Scenario bad) = true
is_early Read = true
is_early Memory = false
is_early Long = true
is_early Rack = false

-- why a source is not read
abbrev pub IsReadStop : RunStop → Type 0
IsReadStop stop = (stop ≡ Read) ⊎ (stop ≡ Long) ⊎ (stop ≡ Memory)

-- the source may not be played
abbrev pub is_refusal : RunStop → Bool
is_refusal (Scenario bad) = true
is_refusal Words = false
is_refusal Read = false
is_refusal Memory = false
is_refusal Long = false
is_refusal Rack = false

-- a refusal has its cause in these bytes
abbrev pub HasCauseIn : List ℕ → RunStop → Type 0
HasCauseIn input (Scenario bad) = IsRefused input bad
HasCauseIn input Words = Unit {0}
HasCauseIn input Read = Unit {0}
HasCauseIn input Memory = Unit {0}
HasCauseIn input Long = Unit {0}
HasCauseIn input Rack = Unit {0}

-- why a text gives no scenario
abbrev pub IsTextStop : RunStop → Type 0
IsTextStop stop = (is_refusal stop ≡ true) ⊎ (stop ≡ Memory)

-- why a play gives no logs
abbrev pub IsPlayStop : RunStop → Type 0
IsPlayStop stop = (stop ≡ Rack) ⊎ (stop ≡ Memory)

-- what answers a source that gave too much
abbrev pub IsTooLong : {T : Type 0} → Result T RunStop → Type 0
IsTooLong result = (result ≡ Err Long) ⊎ (result ≡ Err Read) ⊎ (result ≡ Err Memory)

-- what answers a text that may be played
abbrev pub IsRunResult : {T : Type 0} → Result T RunStop → Type 0
IsRunResult result = IsOk result ⊎ (result ≡ Err Read) ⊎ (result ≡ Err Rack) ⊎ (result ≡ Err Memory)

-- what answers a text that may not be played
abbrev pub IsTextRefusal : {T : Type 0} → Result T RunStop → Type 0
IsTextRefusal result = IsErrAnd result (λ stop. is_refusal stop ≡ true) ⊎ (result ≡ Err Read) ⊎ (result ≡ Err Memory)
