-- What is read of a source and written to a sink.
use Rattle.std.specs.Prelude.{◌≡◌, ℕ, ◌<◌, ◌≤◌, List, ◌++◌, length, take, Option, IfSome}
use Rattle.std.specs.Io.KnownBytes.{Consumes, Appends, IsAtEnd}
use Rattle.flex_io.specs.declared.streams.Input.{Input}
use Rattle.flex_io.specs.declared.streams.Input.TheVariants.{Whole, TooLong}

-- some of the bytes left were taken, none skipped
abbrev pub ConsumesSome : Option (List ℕ) → Option (List ℕ) → Type 0
ConsumesSome before now = (bytes : List ℕ) × Consumes before now bytes

-- a piece of this length was taken and added to the bytes; where it is empty, none are left
pub record AddsPiece (before now : Option (List ℕ)) (old new : List ℕ) (count : ℕ) : Type 0 where
  pub piece : List ℕ
  pub taken : Consumes before now piece
  pub added : new ≡ old ++ piece
  pub size : length piece ≡ count
  pub at_end : count ≡ 0 → IsAtEnd now

-- a front of the bytes was appended
abbrev pub AppendsFront : Option (List ℕ) → Option (List ℕ) → List ℕ → Type 0
AppendsFront before now bytes = (count : ℕ) × (count ≤ length bytes) × Appends before now (take count bytes)

-- the bytes are all that were left, and no more than the limit
pub record IsWhole (before now : Option (List ℕ)) (limit : ℕ) (bytes : List ℕ) : Type 0 where
  pub all : IfSome before (λ left. left ≡ bytes)
  pub at_end : IsAtEnd now
  pub within : length bytes ≤ limit

-- the input is all bytes that were left, or more than the limit were left
abbrev pub IsInput : Option (List ℕ) → Option (List ℕ) → ℕ → Input → Type 0
IsInput before now limit (Whole bytes) = IsWhole before now limit bytes
IsInput before now limit TooLong = IfSome before (λ left. limit < length left)
