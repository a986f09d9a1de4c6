-- Units that stand in one buffer.
use Rattle.std.proofs.Common.{◌≡◌, Result, Ok, Err, IfOk, ℕ, zero, suc, ◌+◌, ◌*◌, ◌≤◌, List, [], ◌∷◌, ◌++◌, All, length, take, drop, refl, sym, ap, subst, ◌∙◌, arith}
use Rattle.std.specs.List.{AllByRecursion, flat_map}
use Rattle.std.proofs.Math.Nat.{zero-mul}
use Rattle.std.proofs.lemmas.List.{length-take, length-drop, take-append-drop}
use Rattle.galois.specs.Codeword.{IsCodeword}
use Rattle.lane_kernels.proofs.BufferUnits.{length-units_in}
use Rattle.rs_codes.specs.Units.{UnitList, units_in}
use Rattle.write_units.specs.GroupUnits.{AreUnitsFor}

next : (count len : ℕ) → suc count * len ≡ len + count * len
next count len = search arith

-- one after the other they are the buffer
pub joined_units : (count len : ℕ) (bytes : List ℕ) → length bytes ≡ count * len → flat_map (λ (u : List ℕ). u) (units_in count len bytes) ≡ bytes
joined_units zero len [] whole = refl
joined_units zero len (b ∷ bs) whole = let none = zero-mul len in absurd (omega (arith, whole, none))
joined_units (suc count) len bytes whole =
    let more = next count len in
    let rest = length-drop len bytes in
    ap (λ (l : List ℕ). take len bytes ++ l) (joined_units count len (drop len bytes) (omega (arith, whole, more, rest)))
    ∙ take-append-drop len bytes

-- and each has its length
pub lengths_in : (count len : ℕ) (bytes : List ℕ) → length bytes ≡ count * len → AllByRecursion (λ (u : List ℕ). length u ≡ len) (units_in count len bytes)
lengths_in zero len bytes whole = tt
lengths_in (suc count) len bytes whole =
    let more = next count len in
    let rest = length-drop len bytes in
    let taken = length-take len bytes in
    let low = at_most count len in
    (omega (arith, whole, more, taken, low), lengths_in count len (drop len bytes) (omega (arith, whole, more, rest)))
  where
    at_most : (count len : ℕ) → len ≤ len + count * len
    at_most count len = omega arith

all_equal : (P : List ℕ → Type 0) (units : List (List ℕ)) → All P units → AllByRecursion P units
all_equal P [] all = tt
all_equal P (u ∷ us) all = (all 0 [] (omega arith), all_equal P us (λ k d below. all (suc k) d (omega (arith, below))))

-- a codeword of these data units is one of units of their length
pub units_for : (unit n m : ℕ) (bytes : List ℕ) (units : List (List ℕ)) → 1 ≤ n → length bytes ≡ n * unit → IsCodeword n m units
    → take n units ≡ units_in n unit bytes → AreUnitsFor unit n m bytes units
units_for unit zero m bytes units some whole word halves = absurd (omega (arith, some))
units_for unit (suc n) m bytes [] some whole word halves = let many = word.count in absurd (omega (arith, many))
units_for unit (suc n) m bytes (u ∷ us) some whole word halves = record {
  codeword = word;
  lengths = subst (λ (k : ℕ). AllByRecursion (λ (x : List ℕ). length x ≡ k) (u ∷ us)) first (all_equal (λ (x : List ℕ). length x ≡ length u) (u ∷ us) word.equal);
  joined = ap (λ (l : List (List ℕ)). flat_map (λ (x : List ℕ). x) l) halves ∙ joined_units (suc n) unit bytes whole;
}
  where
    first : length u ≡ unit
    first = (subst (λ (l : List (List ℕ)). AllByRecursion (λ (x : List ℕ). length x ≡ unit) l) (sym halves) (lengths_in (suc n) unit bytes whole)).0

-- what is built of the buffer
pub built : (unit n m : ℕ) (bytes buffer : List ℕ) (input : UnitList) {E : Type 0} (r : Result UnitList E) → 1 ≤ n → length bytes ≡ n * unit → buffer ≡ bytes
    → input ≡ record { unit_length = unit; units = units_in n unit buffer } → IfOk r (λ (u : UnitList). IsCodeword n m u.units)
    → IfOk r (λ (u : UnitList). take n u.units ≡ input.units) → IfOk r (λ (u : UnitList). AreUnitsFor unit n m bytes u.units)
built unit n m bytes buffer input (Err e) some whole is input_is word front = tt
built unit n m bytes buffer input (Ok u) some whole is input_is word front =
    units_for unit n m bytes u.units some whole word (front ∙ ap (λ (l : UnitList). l.units) input_is ∙ ap (λ (b : List ℕ). units_in n unit b) is)

pub input_count : (unit n : ℕ) (buffer : List ℕ) (input : UnitList) → input ≡ record { unit_length = unit; units = units_in n unit buffer } → length input.units ≡ n
input_count unit n buffer input is = ap (λ (l : UnitList). length l.units) is ∙ length-units_in n unit buffer
