-- Counts of faults.
use Rattle.std.specs.Prelude.{ℕ, ◌+◌, ◌-◌, ◌^◌, ◌≤◌, min, Result}
use Rattle.std.specs.Result.{IsErrOf}
use Rattle.flex_io.specs.declared.fault.Fault.{Fault}
use Rattle.flex_io.specs.declared.fault.Fault.TheVariants.{Failed}

-- a count that is kept in 64 bits rose, or stands at its end
abbrev pub HasRisen : ℕ → ℕ → Type 0
HasRisen before now = min (before + 1) (2 ^ 64 - 1) ≤ now

-- `Failed` is answered only where the count of faults rose
abbrev pub HasCause : {T : Type 0} → Result T Fault → ℕ → ℕ → Type 0
HasCause result before now = IsErrOf result Failed → HasRisen before now
