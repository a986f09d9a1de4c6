-- Which calls of a device in memory fail.
use Rattle.std.specs.Prelude.{ℕ, ◌+◌, ◌-◌, ◌^◌, ◌==◌, min, Bool, List, if◌then◌else◌}
use Rattle.std.specs.List.{list_any}

-- the numbers of the calls that fail, counted from 1; how many calls were made, and how many failed
pub record Calls : Type 0 where
  pub fails : List ℕ
  pub made : ℕ
  pub failed : ℕ

-- no call was made, and those of these numbers fail
abbrev pub planned : List ℕ → Calls
planned fails = record { fails = fails; made = 0; failed = 0 }

-- one more than a count that is kept in 64 bits and stops at its end
abbrev pub counted : ℕ → ℕ
counted count = min (count + 1) (2 ^ 64 - 1)

-- the number of the next call is one of those that fail
abbrev pub next_fails : Calls → Bool
next_fails calls = list_any (λ number. number == counted calls.made) calls.fails

-- the calls with one more, which failed or not as its number says
abbrev pub after_next : Calls → Calls
after_next calls = record calls {
  made = counted calls.made;
  failed = if next_fails calls then counted calls.failed else calls.failed;
}

-- what contracts see of a source in memory: the bytes left, and its calls
pub record Giving : Type 0 where
  pub left : List ℕ
  pub calls : Calls

-- what contracts see of a sink in memory: the bytes taken, and its calls
pub record Taking : Type 0 where
  pub bytes : List ℕ
  pub calls : Calls
