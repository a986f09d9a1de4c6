-- Units and bytes that a write covers.
use Rattle.std.proofs.Common.{◌≡◌, ℕ, ◌+◌, ◌-◌, ◌*◌, ◌/◌, ◌≤◌, List, [], ◌∷◌, length, map, take, drop, sym, ap, ◌∙◌, arith}
use Rattle.std.proofs.lemmas.Nat.{div-add-mod', mod_below, mul-le}
use Rattle.std.proofs.lemmas.List.{take_all, length-drop}
use Rattle.std.proofs.lemmas.List.Sums.{sum_by-cons, sum_by-take-drop}
use Rattle.domains.specs.declared.group.Group.{Group}
use Rattle.inode_codec.specs.Inode.{data_units, units_for}
use Rattle.file_history.specs.WriteRule.{AreChunks}

-- groups that share a number of units have as many in all
pub chunks : (gs : List Group) (count width : ℕ) → AreChunks count width (map (λ (g : Group). g.n) gs) → data_units gs ≡ count
chunks [] count width are = sym are
chunks (g ∷ []) count width are = let units = sum_by-cons (λ (k : Group). k.n) g [] in let same = are.0 in omega (arith, units, same)
chunks (g ∷ h ∷ gs) count width are =
    let units = sum_by-cons (λ (k : Group). k.n) g (h ∷ gs) in
    let same = are.0 in
    let below = are.1 in
    let rest = chunks (h ∷ gs) (count - g.n) width are.2 in
    omega (arith, units, same, below, rest)

-- the units of a file have its bytes
pub units_hold : (unit size : ℕ) → 1 ≤ unit → size ≤ units_for unit size * unit
units_hold unit size wide =
    let parts = div-add-mod' (size + (unit - 1)) unit in
    let rest = mod_below (size + (unit - 1)) unit (omega (arith, wide)) in
    omega (arith, parts, rest, wide)

-- the last unit of a write has its last byte
pub last_holds : (unit offset len : ℕ) → 1 ≤ unit → 1 ≤ len → offset + len ≤ ((offset + len - 1) / unit + 1) * unit
last_holds unit offset len wide some =
    let parts = div-add-mod' (offset + len - 1) unit in
    let rest = mod_below (offset + len - 1) unit (omega (arith, wide)) in
    let more = one_unit ((offset + len - 1) / unit) unit in
    omega (arith, parts, rest, wide, some, more)
  where
    one_unit : (n unit : ℕ) → (n + 1) * unit ≡ n * unit + unit
    one_unit n unit = grind arith

-- the bytes of a number of units, in two parts
pub reach : (m a b unit bytes : ℕ) → bytes ≤ m * unit → m ≤ a + b → bytes ≤ a * unit + b * unit
reach m a b unit bytes fits most =
    let whole = mul-le m unit (a + b) unit most (omega arith) in
    let parts = two_parts a b unit in
    omega (arith, whole, parts, fits)
  where
    two_parts : (a b unit : ℕ) → (a + b) * unit ≡ a * unit + b * unit
    two_parts a b unit = grind arith

-- a run that goes to the end has the units behind those before it
pub to_end : (gs : List Group) (first count : ℕ) → first + count ≡ length gs → data_units (take first gs) + data_units (take count (drop first gs)) ≡ data_units gs
to_end gs first count all =
    let long = length-drop first gs in
    ap (λ (l : List Group). data_units (take first gs) + data_units l) (take_all count (drop first gs) (omega (arith, long, all)))
    ∙ sum_by-take-drop (λ (g : Group). g.n) gs first
