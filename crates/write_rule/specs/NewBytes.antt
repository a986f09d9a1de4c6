-- The bytes of the groups that a write puts in place of a run.
use Rattle.std.specs.Prelude.{◌≡◌, ℕ, ◌+◌, ◌-◌, List, ◌++◌, length, take, drop, replicate}
use Rattle.file_history.specs.Bytes.{slice_of}
use Rattle.write_rule.specs.declared.new_bytes.NewBytes.{NewBytes}
use Rattle.write_rule.specs.declared.new_bytes.OldBytes.{OldBytes}

-- what stays of the old bytes around a payload of `len` bytes at `offset`: those from `from` on before it, the zeros between them and
-- the offset, and those behind it, up to `to`
pub record StaysAround (old : List ℕ) (from to offset len : ℕ) (b : NewBytes) : Type 0 where
  pub before : b.before.now ≡ slice_of old from (offset - from)
  pub gap : from + length b.before.now + b.gap ≡ offset
  pub payload : length b.payload.now ≡ len
  pub after : b.after.now ≡ slice_of old (offset + len) (to - (offset + len))

-- the bytes one after the other, before the zeros at the end
abbrev pub bytes_of : NewBytes → List ℕ
bytes_of b = b.before.now ++ (replicate b.gap 0 ++ (b.payload.now ++ b.after.now))

-- `len` bytes from `start` on, with zeros behind the last
abbrev pub padded_slice : List ℕ → ℕ → ℕ → List ℕ
padded_slice bytes start len = take len (drop start bytes ++ replicate len 0)

-- the bytes are the file's, from the first on, with zeros behind its last byte
abbrev pub IsPartOf : List ℕ → OldBytes → Type 0
IsPartOf file old = old.bytes.now ≡ padded_slice file old.from (length old.bytes.now)
