-- The field of 256 elements: bytes as polynomials over two elements, modulo x^8 + x^4 + x^3 + x^2 + 1.
use Rattle.std.specs.Prelude.{ℕ, zero, suc, ◌*◌, ◌<◌, ◌==◌, nat_lt, bit_xor, if◌then◌else◌}
use Rattle.std.specs.Int.{bit_at}

-- the number is an element of the field
abbrev pub IsByte : ℕ → Type 0
IsByte a = a < 256

-- the field sum of two bytes: the exclusive or of their bits
abbrev pub field_sum : ℕ → ℕ → ℕ
field_sum a b = bit_xor a b

-- a byte doubled: shifted left by one bit, with 0x11D added where a bit leaves the byte
unfoldable pub doubled : ℕ → ℕ
doubled a = if nat_lt (2 * a) 256 then 2 * a else field_sum (2 * a) 0x11D

-- a byte doubled i times
unfoldable pub doubled_times : ℕ → ℕ → ℕ
doubled_times zero a = a
doubled_times (suc i) a = doubled (doubled_times i a)

-- the sum, over the bits set in b below this place, of a doubled as many times as the bit's place says
unfoldable pub product_below : ℕ → ℕ → ℕ → ℕ
product_below zero a b = 0
product_below (suc i) a b =
    field_sum (if bit_at b i == 1 then doubled_times i a else 0) (product_below i a b)

-- the field product of two bytes: the sum, over the bits set in b, of a doubled as many times as the bit's place says
unfoldable pub field_product : ℕ → ℕ → ℕ
field_product a b = product_below 8 a b

-- a byte to a power
unfoldable pub field_power : ℕ → ℕ → ℕ
field_power x zero = 1
field_power x (suc d) = field_product x (field_power x d)
