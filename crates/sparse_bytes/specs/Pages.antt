-- The bytes that pages hold.
use Rattle.std.specs.Prelude.{◌≡◌, ℕ, ◌+◌, ◌/◌, ◌%◌, ◌<◌, ◌≤◌, List, [], length, get_or, Option, None, Some, Vec}
use Rattle.std.specs.Ordering.{nat_cmp}
use Rattle.std.specs.BTreeMap.{BTreeMap, get}
use Rattle.sparse_bytes.specs.declared.sparse_bytes.SparseBytes.{SparseBytes}

-- the bytes of a page, none if it is absent
abbrev pub bytes_of : {Z : Type 0} → Option (Vec ℕ Z) → List ℕ
bytes_of None = []
bytes_of (Some page) = page.items

abbrev pub page_of : {Z : Type 0} → BTreeMap ℕ (Vec ℕ Z) → ℕ → List ℕ
page_of pages number = bytes_of (get nat_cmp pages number)

-- the byte at a place, zero past the end
abbrev pub byte_in : List ℕ → ℕ → ℕ
byte_in bytes i = get_or bytes i 0

-- the byte of a file at a place, in its page
abbrev pub byte_at : {Z : Type 0} → BTreeMap ℕ (Vec ℕ Z) → ℕ → ℕ
byte_at pages i = byte_in (page_of pages (i / 256)) (i % 256)

-- the pages hold these bytes, and zeros behind them
pub record Holds (s : SparseBytes) (bytes : List ℕ) : Type 0 where
  pub size_is : s.size ≡ length bytes
  pub each : (i : ℕ) → byte_at s.pages i ≡ byte_in bytes i

-- the bytes stand from this place on, and all others are as they were
pub record IsPut (old : ℕ → ℕ) (start : ℕ) (bytes : List ℕ) (new : ℕ → ℕ) : Type 0 where
  pub within : (i : ℕ) → i < length bytes → new (start + i) ≡ byte_in bytes i
  pub before : (i : ℕ) → i < start → new i ≡ old i
  pub behind : (i : ℕ) → start + length bytes ≤ i → new i ≡ old i

-- the bytes stand in this page from this place on, and the other pages are as they were
pub record IsPutInPage {Z : Type 0} (old : BTreeMap ℕ (Vec ℕ Z)) (number start : ℕ) (bytes : List ℕ) (new : BTreeMap ℕ (Vec ℕ Z)) : Type 0 where
  pub put : IsPut (byte_in (page_of old number)) start bytes (byte_in (page_of new number))
  pub others : (other : ℕ) → (other ≡ number → ⊥) → page_of new other ≡ page_of old other

-- these bytes stand from this place on
pub record IsShown (held : ℕ → ℕ) (start : ℕ) (bytes : List ℕ) : Type 0 where
  pub each : (i : ℕ) → i < length bytes → held (start + i) ≡ byte_in bytes i
