-- What a slot's calls do to what it tells.
use Rattle.std.specs.Prelude.{◌≡◌, ℕ, ◌+◌, ◌^◌, ◌%◌, List, Option, IsSome, IfSome, Result, MatchResult}

-- a content that was told is told still
abbrev pub StaysTold : Option (List ℕ) → Option (List ℕ) → Type 0
StaysTold before now = IsSome before → IsSome now

-- the content is these bytes, where it is told
abbrev pub Holds : Option (List ℕ) → List ℕ → Type 0
Holds content bytes = IfSome content (λ told. told ≡ bytes)

-- the count is one more at `Ok`, modulo 2^64, and as it was at `Err`
abbrev pub CountsOk : {T E : Type 0} → Result T E → ℕ → ℕ → Type 0
CountsOk result before now = MatchResult result (λ _. now ≡ (before + 1) % 2 ^ 64) (λ _. now ≡ before)
