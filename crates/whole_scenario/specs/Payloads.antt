-- The bytes that a write brings.
use Rattle.std.specs.Prelude.{ℕ, zero, suc, ◌+◌, ◌*◌, ◌/◌, ◌%◌, List, [], ◌∷◌, ◌++◌}
use Rattle.operation_text.specs.declared.named_op.Payload.{Payload}
use Rattle.operation_text.specs.declared.named_op.Payload.TheVariants.{Text, Fill}

-- the byte of a pattern at a place
abbrev pub fill_byte : ℕ → ℕ → ℕ
fill_byte start place = (start + 7 * place + place / 251) % 256

-- the first bytes of the pattern from this start
abbrev pub pattern : ℕ → ℕ → List ℕ
pattern start zero = []
pattern start (suc n) = pattern start n ++ fill_byte start n ∷ []

-- the bytes that a payload stands for
abbrev pub bytes_of : Payload → List ℕ
bytes_of (Text text) = text
bytes_of (Fill start len) = pattern start len
