-- What contracts see of a rack.
use Rattle.std.specs.Prelude.{◌≡◌, ℕ, ◌+◌, ◌^◌, ◌%◌, List, Option}
use Rattle.flex_io.specs.declared.rack.Returned.{Returned}

-- what came back to a rack, where it tells it, how many slots it gave and how many came back, each modulo 2^64, and how often
-- it failed
pub record RackState : Type 0 where
  pub back : Option (List Returned)
  pub takes : ℕ
  pub puts : ℕ
  pub faults : ℕ

abbrev pub rack_state : {R : Type 0} → (R → Option (List Returned)) → (R → ℕ) → (R → ℕ) → (R → ℕ) → R → RackState
rack_state back takes puts faults rack =
    record { back = back rack; takes = takes rack; puts = puts rack; faults = faults rack }

-- the count rose by this number, modulo 2^64
abbrev pub RisesBy : ℕ → ℕ → ℕ → Type 0
RisesBy number before now = now % 2 ^ 64 ≡ (before + number) % 2 ^ 64
