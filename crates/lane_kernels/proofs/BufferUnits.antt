-- Units of one length that follow one another in a buffer.
use Rattle.std.proofs.Common.{◌≡◌, ℕ, zero, suc, ◌+◌, ◌*◌, ◌<◌, ◌≤◌, List, [], length, take, drop, get_or, sym, ap, ◌∙◌, refl, arith, zero-mul, suc-mul, drop-drop, length-drop, get_or-take, get_or-drop, length-take-le, mul-le-mul_right}
use Rattle.lane_kernels.specs.WeightedSums.{units_in}

pub length-units_in : (count len : ℕ) (bytes : List ℕ) → length (units_in count len bytes) ≡ count
length-units_in zero len bytes = refl
length-units_in (suc count) len bytes = ap suc (length-units_in count len (drop len bytes))

pub units_in-at : (count len : ℕ) (bytes : List ℕ) (i : ℕ) → i < count
    → get_or (units_in count len bytes) i [] ≡ take len (drop (i * len) bytes)
units_in-at zero len bytes i below = absurd (omega arith)
units_in-at (suc count) len bytes zero below = ap (λ (n : ℕ). take len (drop n bytes)) (sym (zero-mul len))
units_in-at (suc count) len bytes (suc i) below =
    units_in-at count len (drop len bytes) i (omega arith)
    ∙ ap (take len)
    (drop-drop (i * len) len bytes ∙ ap (λ (n : ℕ). drop n bytes) (omega (arith, suc-mul i len)))

-- a byte of a unit
pub unit_byte : (count len : ℕ) (bytes : List ℕ) (i k : ℕ) → i < count → k < len
    → get_or (get_or (units_in count len bytes) i []) k 0 ≡ get_or bytes (i * len + k) 0
unit_byte count len bytes i k below within =
    ap (λ (l : List ℕ). get_or l k 0) (units_in-at count len bytes i below) ∙ get_or-take len (drop (i * len) bytes) k 0 within
    ∙ get_or-drop (i * len) bytes k 0

-- a unit has its length
pub length-unit : (count len : ℕ) (bytes : List ℕ) (i : ℕ) → i < count → length bytes ≡ count * len
    → length (get_or (units_in count len bytes) i []) ≡ len
length-unit count len bytes i below whole =
    let rows : suc i * len ≤ count * len = mul-le-mul_right len below in
    ap (λ (l : List ℕ). length l) (units_in-at count len bytes i below)
    ∙ length-take-le len (drop (i * len) bytes) (omega (arith, length-drop (i * len) bytes, suc-mul i len, rows, whole))
