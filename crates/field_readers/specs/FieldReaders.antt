-- A grammar of fields as it is read from left to right, with the first field that is broken. Each field is a number with its
-- rule, its lowest value and the first value above its highest.
use Rattle.std.specs.Prelude.{◌≡◌, ℕ, zero, suc, ◌-◌, nat_le, nat_lt, ◌&&◌, if◌then◌else◌, Bool, List, [], ◌∷◌, length, take, drop, Result, Ok, Err}
use Rattle.std.specs.Int.{Width, byte_len, from_be_bytes}
use Rattle.field_readers.specs.declared.fault.Broken.{Broken}
use Rattle.field_readers.specs.declared.fault.Broken.TheVariants.{Ends, Field}
use Rattle.field_readers.specs.declared.fault.ReadFault.{ReadFault}
use Rattle.field_readers.specs.declared.fault.ReadFault.TheVariants as fault

infixl 10 ◌>>=◌
abbrev pub ◌>>=◌ : {W A B : Type 0} → Result A (Broken W) → (A → Result B (Broken W)) → Result B (Broken W)
(Ok x) >>= f = f x
(Err e) >>= f = Err e

-- a reader takes a value off the front of the bytes, or tells what is broken
abbrev pub Reader : Type 0 → Type 0 → Type 0
Reader W A = List ℕ → Result (A × List ℕ) (Broken W)

abbrev pub broken : {W : Type 0} → W → List ℕ → Broken W
broken what bytes = Field (length bytes) what

abbrev pub broken_fault : {W : Type 0} → W → List ℕ → ReadFault W
broken_fault what bytes = fault.Broken (broken what bytes)

-- the number and what is behind it, if it is within its limits
abbrev pub within : {W : Type 0} → W → ℕ → ℕ → List ℕ → ℕ × List ℕ → Result (ℕ × List ℕ) (Broken W)
within what low end bytes n = if nat_le low n.0 && nat_lt n.0 end then Ok n else Err (broken what bytes)

-- a field of one byte
abbrev pub byte : {W : Type 0} → W → ℕ → ℕ → Reader W ℕ
byte what low end [] = Err Ends
byte what low end (b ∷ rest) = within what low end (b ∷ rest) (b, rest)

-- a field of more bytes, the high one first
abbrev pub word : {W : Type 0} → Width → W → ℕ → ℕ → Reader W ℕ
word w what low end bytes =
    if nat_lt (length bytes) (byte_len w) then Err Ends
    else within what low end bytes (from_be_bytes w (take (byte_len w) bytes), drop (byte_len w) bytes)

-- a value that must pass a test, else this rule is broken where the value begins
abbrev pub checked : {W A : Type 0} → W → (A → Bool) → Reader W A → Reader W A
checked what passes read bytes = read bytes >>= λ a. if passes a.0 then Ok a else Err (broken what bytes)

-- a value and the one behind it, whose rule may depend on the first
abbrev pub both : {W A B : Type 0} → Reader W A → (A → Reader W B) → Reader W (A × B)
both first second bytes = first bytes >>= λ a. second a.0 a.1 >>= λ b. Ok ((a.0, b.0), b.1)

-- n values, each of which may depend on those before it
abbrev pub each : {W S A : Type 0} → (S → Reader W A) → (S → A → S) → ℕ → S → Reader W (List A)
each one after zero s bytes = Ok ([], bytes)
each one after (suc n) s bytes = one s bytes >>= λ a. each one after n (after s a.0) a.1 >>= λ b. Ok (a.0 ∷ b.0, b.1)

-- ---- what a reader of the code answers

-- what was returned, seen by view, is what reading gives, unless memory ran out
abbrev pub Fails : {W Y : Type 0} → ReadFault W → Result Y (Broken W) → Type 0
Fails fault.Memory read = Unit {0}
Fails (fault.Broken b) read = read ≡ Err b

abbrev pub Gives : {W X Y : Type 0} → (X → Y) → Result X (ReadFault W) → Result Y (Broken W) → Type 0
Gives view (Ok x) read = read ≡ Ok (view x)
Gives view (Err e) read = Fails e read

-- the offset of the first byte of what is broken, in bytes of this number
abbrev pub offset_of : {W : Type 0} → ℕ → Broken W → ℕ
offset_of bytes Ends = bytes
offset_of bytes (Field left what) = bytes - left
