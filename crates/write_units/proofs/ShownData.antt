-- The data units of a group that was pulled, as a part of the file.
use Rattle.std.proofs.Common.{◌≡◌, zero, suc, ◌∷◌, ℕ, ◌+◌, ◌*◌, ◌<◌, List, [], ◌++◌, length, take, drop, replicate, sym, ap, subst, ◌∙◌, arith, length-append}
use Rattle.std.specs.List.{AllByRecursion, flat_map}
use Rattle.std.proofs.Math.Nat.{zero-mul}
use Rattle.std.proofs.lemmas.List.{ext_get_or, get_or-take, get_or-drop}
use Rattle.pulled_groups.specs.PullAnswers.{ShowsGroup}
use Rattle.pulled_groups.specs.declared.pull_groups.PulledGroup.{PulledGroup}
use Rattle.rs_codes.specs.Units.{units_in}
use Rattle.write_rule.specs.NewBytes.{padded_slice}
use Rattle.write_rule.proofs.NewBytesByPlace.{at, padded_at, slice_at, slice_length}
use Rattle.write_units.proofs.JoinedUnits.{joined_units}

-- a slice of the bytes and zeros, as long as it was asked for, is a slice that is padded
slice_padded : (bytes out : List ℕ) (zeros start len : ℕ) → length out ≡ len → out ≡ take len (drop start (bytes ++ replicate zeros 0)) → out ≡ padded_slice bytes start len
slice_padded bytes out zeros start len long is =
    let other = slice_length bytes start len in
    ext_get_or 0 out (padded_slice bytes start len) (omega (arith, long, other))
    (λ j below.
    let here : j < len = omega (arith, below, long) in
    ap (λ (l : List ℕ). at l j) is ∙ get_or-take len (drop start (bytes ++ replicate zeros 0)) j 0 here
    ∙ get_or-drop start (bytes ++ replicate zeros 0) j 0 ∙ padded_at bytes zeros (start + j) ∙ sym (slice_at bytes start len j here))

-- the buffer of some units, of which this is known, is their part of the file
pub buffer_part : (bytes buffer : List ℕ) (units : List (List ℕ)) (count len start : ℕ) → length buffer ≡ count * len → units_in count len buffer ≡ units
    → flat_map (λ (u : List ℕ). u) units ≡ padded_slice bytes start (count * len) → buffer ≡ padded_slice bytes start (length buffer)
buffer_part bytes buffer units count len start whole in_units is =
    sym (joined_units count len buffer whole) ∙ ap (λ (l : List (List ℕ)). flat_map (λ (u : List ℕ). u) l) in_units ∙ is
    ∙ ap (λ (n : ℕ). padded_slice bytes start n) (sym whole)

all_take : (P : List ℕ → Type 0) (n : ℕ) (us : List (List ℕ)) → AllByRecursion P us → AllByRecursion P (take n us)
all_take P zero us all = tt
all_take P (suc n) [] all = tt
all_take P (suc n) (u ∷ us) all = (all.0, all_take P n us all.1)

next : (count len : ℕ) → (count + 1) * len ≡ len + count * len
next count len = search arith

flat_length : (unit : ℕ) (us : List (List ℕ)) → AllByRecursion (λ (u : List ℕ). length u ≡ unit) us → length (flat_map (λ (u : List ℕ). u) us) ≡ length us * unit
flat_length unit [] all = sym (zero-mul unit)
flat_length unit (u ∷ us) all =
    let rest = flat_length unit us all.1 in
    let here = all.0 in
    let whole = length-append u (flat_map (λ (u : List ℕ). u) us) in
    let more = next (length us) unit in
    omega (arith, rest, here, whole, more)

-- the data units of a group that was pulled are its part of the file
pub shown_data : (bytes : List ℕ) (p : PulledGroup) (units : List (List ℕ)) (len : ℕ) (shows : ShowsGroup p.have.unit_length bytes p)
    → units ≡ take p.group.n shows.word → length units ≡ p.group.n → len ≡ p.have.unit_length
    → flat_map (λ (u : List ℕ). u) units ≡ padded_slice bytes (p.start * len) (length units * len)
shown_data bytes p units len shows is many same =
    let unit = p.have.unit_length in
    let each = subst (λ (l : List (List ℕ)). AllByRecursion (λ (u : List ℕ). length u ≡ unit) l) (sym is) (all_take (λ (u : List ℕ). length u ≡ unit) p.group.n shows.word shows.lengths) in
    let long : length (flat_map (λ (u : List ℕ). u) units) ≡ p.group.n * unit = flat_length unit units each ∙ ap (λ (k : ℕ). k * unit) many in
    slice_padded bytes (flat_map (λ (u : List ℕ). u) units) shows.zeros (p.start * unit) (p.group.n * unit) long
    (ap (λ (l : List (List ℕ)). flat_map (λ (u : List ℕ). u) l) is ∙ shows.joined)
    ∙ ap (λ (k : ℕ). padded_slice bytes (p.start * unit) (k * unit)) (sym many)
    ∙ ap (λ (u : ℕ). padded_slice bytes (p.start * u) (length units * u)) (sym same)
