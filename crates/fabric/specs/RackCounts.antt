-- How many slots a rack gave, and how many came back.
use Rattle.std.specs.Prelude.{◌≡◌, ℕ, ◌+◌, ◌-◌, ◌%◌, ◌^◌, ◌≤◌, min}

-- the count rose by this number, modulo 2^64
abbrev pub RisesBy : ℕ → ℕ → ℕ → Type 0
RisesBy number before now = now % 2 ^ 64 ≡ (before + number) % 2 ^ 64

-- between the two moments as many slots came back as were taken, modulo 2^64
abbrev pub ComesBack : (takes_old puts_old takes_new puts_new : ℕ) → Type 0
ComesBack takes_old puts_old takes_new puts_new = (takes_new + puts_old) % 2 ^ 64 ≡ (takes_old + puts_new) % 2 ^ 64

-- a count that is kept in 64 bits rose by two, or stands at its end
abbrev pub HasRisenTwice : ℕ → ℕ → Type 0
HasRisenTwice before now = min (before + 2) (2 ^ 64 - 1) ≤ now
