-- Any data are the data units of some codeword.
use Rattle.std.proofs.Common.{◌≡◌, ◌≢◌, ℕ, ◌+◌, ◌*◌, ◌<◌, ◌≤◌, List, [], All, AllPairs, length, get_or, map, take, sym, ap, ◌∙◌, refl, arith}
use Rattle.std.specs.List.{range_with_len}
use Rattle.std.proofs.lemmas.List.{ext_get_or, get_or-map, get_or-take, length-map, length-take-le}
use Rattle.std.proofs.lemmas.List.Elements.{All-from_get_or}
use Rattle.std.proofs.lemmas.List.FromFn.{get_or-map-range_with_len, get_or-range_with_len, length-map-range_with_len, length-range_with_len}
use Rattle.galois.specs.Codeword.{IsCodeword, unit_at}
use Rattle.galois.specs.Field.{IsByte}
use Rattle.galois.specs.Polynomial.{polynomial_value}
use Rattle.galois.proofs.Interpolants.{interpolated, interpolated-bytes, interpolated-takes, length-interpolated}
use Rattle.lane_kernels.proofs.BufferUnits.{length-unit, length-units_in, unit_byte}
use Rattle.rs_codes.specs.Units.{units_in}
use Rattle.write_units.specs.GroupUnits.{AreUnitsFor}
use Rattle.write_units.proofs.JoinedUnits.{units_for}

module _ (n m len : ℕ) (bytes : List ℕ) where
  -- the positions of the data units
  abbrev positions : List ℕ
  positions = range_with_len 0 n

  -- the bytes of the data units in a column
  abbrev data_column : ℕ → List ℕ
  data_column k = map (λ (i : ℕ). get_or bytes (i * len + k) 0) (range_with_len 0 n)

  -- the polynomial that takes them
  abbrev column_polynomial : ℕ → List ℕ
  column_polynomial k = interpolated positions (data_column k)

  -- its values, column by column, at a position
  abbrev unit_of : ℕ → List ℕ
  unit_of i = map (λ (k : ℕ). polynomial_value (column_polynomial k) i) (range_with_len 0 len)

  -- the codeword
  abbrev pub data_word : List (List ℕ)
  data_word = map unit_of (range_with_len 0 (n + m))

  word_long : length data_word ≡ n + m
  word_long = length-map-range_with_len unit_of 0 (n + m)

  word_at : (i : ℕ) → i < n + m → unit_at data_word i ≡ unit_of i
  word_at i below = get_or-map-range_with_len unit_of 0 (n + m) i i [] below (omega arith)

  unit_long : (i : ℕ) → length (unit_of i) ≡ len
  unit_long i = length-map-range_with_len (λ (k : ℕ). polynomial_value (column_polynomial k) i) 0 len

  unit_value : (i k : ℕ) → k < len → get_or (unit_of i) k 0 ≡ polynomial_value (column_polynomial k) i
  unit_value i k below = get_or-map-range_with_len (λ (j : ℕ). polynomial_value (column_polynomial j) i) 0 len k k 0 below (omega arith)

  column_long : (k : ℕ) → length (data_column k) ≡ n
  column_long k = length-map-range_with_len (λ (i : ℕ). get_or bytes (i * len + k) 0) 0 n

  column_at : (k i : ℕ) → i < n → get_or (data_column k) i 0 ≡ get_or bytes (i * len + k) 0
  column_at k i below = get_or-map-range_with_len (λ (j : ℕ). get_or bytes (j * len + k) 0) 0 n i i 0 below (omega arith)

  same_long : (k : ℕ) → length positions ≡ length (data_column k)
  same_long k = length-range_with_len 0 n ∙ sym (column_long k)

  module _ (some : 1 ≤ n) (few : n + m ≤ 256) (whole : length bytes ≡ n * len) (each : (j : ℕ) → IsByte (get_or bytes j 0)) where
    position_bytes : All IsByte positions
    position_bytes = All-from_get_or IsByte positions 0
        (λ i within. let long = length-range_with_len 0 n in let at = get_or-range_with_len 0 n i 0 (omega (arith, within, long)) in omega (arith, within, long, at, few))

    apart : AllPairs ◌≢◌ positions
    apart i j d before within same =
        let long = length-range_with_len 0 n in
        let first = get_or-range_with_len 0 n i d (omega (arith, before, within, long)) in
        let second = get_or-range_with_len 0 n j d (omega (arith, within, long)) in
        omega (arith, before, first, second, same)

    column_bytes : (k : ℕ) → All IsByte (data_column k)
    column_bytes k = All-from_get_or IsByte (data_column k) 0
        (λ i within. let long = column_long k in let at = column_at k i (omega (arith, within, long)) in let byte = each (i * len + k) in omega (arith, at, byte))

    -- at a data unit's position the polynomial takes its byte
    takes_data : (i k : ℕ) → i < n → polynomial_value (column_polynomial k) i ≡ get_or bytes (i * len + k) 0
    takes_data i k below =
        let long = length-range_with_len 0 n in
        let at : get_or positions i 0 ≡ i = (let here = get_or-range_with_len 0 n i 0 below in omega (arith, here)) in
        ap (polynomial_value (column_polynomial k)) (sym at)
        ∙ interpolated-takes positions (data_column k) position_bytes (column_bytes k) apart (same_long k) i (omega (arith, below, long))
        ∙ column_at k i below

    is_codeword : IsCodeword n m data_word
    is_codeword = record {
      count = word_long;
      equal = All-from_get_or (λ (unit : List ℕ). length unit ≡ length (unit_at data_word 0)) data_word []
          (λ i within. each_long i (omega (arith, within, word_long)) ∙ sym first_long);
      columns = λ k inside. (
        column_polynomial k,
        record {
          degree = length-interpolated positions (data_column k) (same_long k) ∙ length-range_with_len 0 n;
          bytes = interpolated-bytes positions (data_column k) position_bytes (column_bytes k);
          takes = λ i within.
              ap (λ (u : List ℕ). get_or u k 0) (word_at i (omega (arith, within, word_long))) ∙ unit_value i k (omega (arith, inside, first_long));
        },
      );
    }
      where
        each_long : (i : ℕ) → i < n + m → length (unit_at data_word i) ≡ len
        each_long i below = ap (λ (u : List ℕ). length u) (word_at i below) ∙ unit_long i

        first_long : length (unit_at data_word 0) ≡ len
        first_long = each_long 0 (omega (arith, some))

    -- its first units are the data
    front : take n data_word ≡ units_in n len bytes
    front = ext_get_or [] (take n data_word) (units_in n len bytes) (taken ∙ sym (length-units_in n len bytes))
        (λ i within. let below : i < n = omega (arith, within, taken) in
        get_or-take n data_word i [] below ∙ word_at i (omega (arith, below))
        ∙ ext_get_or 0 (unit_of i) (unit_at (units_in n len bytes) i) (unit_long i ∙ sym (length-unit n len bytes i below whole))
        (λ k inside. let column : k < len = let long = unit_long i in omega (arith, inside, long) in
        unit_value i k column ∙ takes_data i k below ∙ sym (unit_byte n len bytes i k below column)))
      where
        taken : length (take n data_word) ≡ n
        taken = length-take-le n data_word (omega (arith, word_long))

    pub are_units_for : AreUnitsFor len n m bytes data_word
    are_units_for = units_for len n m bytes data_word some whole is_codeword front
