-- Units in one buffer: how many, how long, each one, and one more.
use Rattle.std.proofs.Common.{◌≡◌, ℕ, zero, suc, ◌+◌, ◌-◌, ◌*◌, ◌<◌, ◌≤◌, List, [], ◌∷◌, ◌++◌, length, take, drop, get_or, All, sym, ap, ap₂, subst, ◌∙◌, arith, zero-mul, suc-mul, mul-le-mul_right, length-drop, add-one, le_of_eq, zero-add, suc-add}
use Rattle.std.proofs.lemmas.List.{take-append-le, drop-append-le, take_all}
use Rattle.std.proofs.lemmas.List.Elements.{All-nil, All-cons, All-take, All-drop}
use Rattle.galois.specs.Field.{IsByte}
use Rattle.lane_kernels.proofs.BufferUnits.{length-units_in, units_in-at}
use Rattle.rs_codes.specs.Units.{UnitList, units_in}

-- units of this length
abbrev pub unit_list : ℕ → List (List ℕ) → UnitList
unit_list len units = record { unit_length = len; units = units }

-- a unit ends within the buffer
pub unit_within : (i count len total : ℕ) → i < count → total ≡ count * len → i * len + len ≤ total
unit_within i count len total below whole =
    let rows : suc i * len ≤ count * len = mul-le-mul_right len below in
    omega (arith, suc-mul i len, rows, whole)

-- one unit more
pub units_in-push : (count len : ℕ) (bytes new : List ℕ) → length bytes ≡ count * len → length new ≡ len
    → units_in (suc count) len (bytes ++ new) ≡ units_in count len bytes ++ new ∷ []
units_in-push zero len [] new whole unit = ap (λ (l : List ℕ). l ∷ []) (take_all len new (le_of_eq unit))
units_in-push zero len (b ∷ bytes) new whole unit = absurd (omega (arith, zero-mul len))
units_in-push (suc count) len bytes new whole unit =
    let rows : length bytes ≡ count * len + len = whole ∙ suc-mul count len in
    let first : len ≤ length bytes = omega arith in
    let rest : length (drop len bytes) ≡ count * len = omega (arith, length-drop len bytes) in
    ap₂ (λ (l : List ℕ) (ls : List (List ℕ)). l ∷ ls) (take-append-le len bytes new first)
    (ap (units_in (suc count) len) (drop-append-le len bytes new first)
    ∙ units_in-push count len (drop len bytes) new rest unit)

-- more units after those of a buffer
pub units_in-append : (count more len : ℕ) (bytes new : List ℕ) → length bytes ≡ count * len
    → units_in (count + more) len (bytes ++ new) ≡ units_in count len bytes ++ units_in more len new
units_in-append zero more len [] new whole = ap (λ (n : ℕ). units_in n len new) (zero-add more)
units_in-append zero more len (b ∷ bytes) new whole = absurd (omega (arith, zero-mul len))
units_in-append (suc count) more len bytes new whole =
    let rows : length bytes ≡ count * len + len = whole ∙ suc-mul count len in
    let first : len ≤ length bytes = omega arith in
    let rest : length (drop len bytes) ≡ count * len = omega (arith, length-drop len bytes) in
    ap (λ (n : ℕ). units_in n len (bytes ++ new)) (suc-add count more)
    ∙ ap₂ (λ (l : List ℕ) (ls : List (List ℕ)). l ∷ ls) (take-append-le len bytes new first)
    (ap (units_in (count + more) len) (drop-append-le len bytes new first)
    ∙ units_in-append count more len (drop len bytes) new rest)

-- what slicing the buffer at a unit gives
pub unit_read : (count len i start : ℕ) (buffer bytes : List ℕ) → buffer ≡ bytes → start ≡ i * len → i < count
    → take (start + len - start) (drop start buffer) ≡ get_or (units_in count len bytes) i []
unit_read count len i start buffer bytes same place below =
    ap₂ (λ (n : ℕ) (l : List ℕ). take n l) (omega arith) (ap₂ (λ (n : ℕ) (l : List ℕ). drop n l) place same)
    ∙ sym (units_in-at count len bytes i below)

-- the view of a buffer that one unit was appended to
pub pushed_view : (count len : ℕ) (old new bytes : List ℕ) (now : UnitList) → unit_list len (units_in count len old) ≡ now
    → new ≡ old ++ bytes → length old ≡ count * len → length bytes ≡ now.unit_length
    → unit_list len (units_in (count + 1) len new) ≡ unit_list now.unit_length (now.units ++ bytes ∷ [])
pushed_view count len old new bytes now view_is is_new whole unit =
    let A : UnitList → Type 0 = λ v. length bytes ≡ v.unit_length
    → unit_list len (units_in (count + 1) len new) ≡ unit_list v.unit_length (v.units ++ bytes ∷ []) in
    subst A view_is
    (λ fits. ap (unit_list len)
    (ap₂ (λ (n : ℕ) (l : List ℕ). units_in n len l) (add-one count) is_new ∙ units_in-push count len old bytes whole fits))
    unit

-- a buffer seen as units, from what is seen
pub units_of_view : (count len : ℕ) (bytes buffer : List ℕ) (now : UnitList) → unit_list len (units_in count len bytes) ≡ now
    → buffer ≡ bytes → units_in (length now.units) now.unit_length buffer ≡ now.units
units_of_view count len bytes buffer now view_is same =
    let A : UnitList → Type 0 = λ v. units_in (length v.units) v.unit_length buffer ≡ v.units in
    subst A view_is (ap₂ (λ (n : ℕ) (l : List ℕ). units_in n len l) (length-units_in count len bytes) same)

pub length_of_view : (count len : ℕ) (bytes buffer : List ℕ) (now : UnitList) → unit_list len (units_in count len bytes) ≡ now
    → buffer ≡ bytes → length bytes ≡ count * len → length buffer ≡ length now.units * now.unit_length
length_of_view count len bytes buffer now view_is same whole =
    let A : UnitList → Type 0 = λ v. length buffer ≡ length v.units * v.unit_length in
    subst A view_is
    (ap (λ (l : List ℕ). length l) same ∙ whole ∙ ap (λ (n : ℕ). n * len) (sym (length-units_in count len bytes)))

-- the units of a buffer of bytes are byte lists
pub units_in-bytes : (count len : ℕ) (bytes : List ℕ) → All IsByte bytes → All (λ unit. All IsByte unit) (units_in count len bytes)
units_in-bytes zero len bytes hbytes = All-nil (λ unit. All IsByte unit)
units_in-bytes (suc count) len bytes hbytes =
    All-cons (λ unit. All IsByte unit) (take len bytes) (units_in count len (drop len bytes)) (All-take IsByte len bytes hbytes)
    (units_in-bytes count len (drop len bytes) (All-drop IsByte len bytes hbytes))
