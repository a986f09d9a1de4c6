-- The numbers of a write's run are small.
use Rattle.std.proofs.Common.{◌≡◌, ℕ, zero, suc, ◌+◌, ◌-◌, ◌*◌, ◌/◌, ◌^◌, ◌<◌, ◌≤◌, max, List, [], ◌∷◌, take, drop, refl, arith}
use Rattle.std.proofs.lemmas.List.Sums.{sum_by-cons}
use Rattle.std.proofs.lemmas.Nat.{div_below}
use Rattle.domains.specs.declared.group.Group.{Group}
use Rattle.inode_codec.specs.Inode.{IsInode, data_units, units_for}
use Rattle.file_history.specs.Layout.{Layout}
use Rattle.file_history.specs.Stored.{inode_of}
use Rattle.write_rule.specs.Runs.{last_unit, run_of}
use Rattle.write_rule.specs.WriteRuns.{IsRunOfWrite}
use Rattle.write_rule.specs.declared.run.ReplacedRun.{ReplacedRun}

units_cons : (g : Group) (gs : List Group) → data_units (g ∷ gs) ≡ g.n + data_units gs
units_cons g gs = sum_by-cons (λ (g : Group). g.n) g gs

front_within : (k : ℕ) (gs : List Group) → data_units (take k gs) ≤ data_units gs
front_within zero gs = omega arith
front_within (suc k) [] = omega arith
front_within (suc k) (g ∷ gs) =
    let less = front_within k gs in
    let some = units_cons g (take k gs) in
    let all = units_cons g gs in
    omega (arith, less, some, all)

parted : (k : ℕ) (gs : List Group) → data_units (take k gs) + data_units (drop k gs) ≡ data_units gs
parted zero gs = omega arith
parted (suc k) [] = refl
parted (suc k) (g ∷ gs) =
    let rest = parted k gs in
    let some = units_cons g (take k gs) in
    let all = units_cons g gs in
    omega (arith, rest, some, all)

-- the run ends within the map
pub run_within : (gs : List Group) (first count : ℕ) → data_units (take first gs) + data_units (run_of gs first count) ≤ data_units gs
run_within gs first count = let whole = parted first gs in let less = front_within count (drop first gs) in omega (arith, whole, less)

-- a quotient of small numbers is small
small_div : (n k : ℕ) → 1 ≤ k → n < 2 ^ 33 → n / k < 2 ^ 33
small_div n k some small = div_below n k (2 ^ 33) some (wider k some)
  where
    wider : (k : ℕ) → 1 ≤ k → n < 2 ^ 33 * k
    wider k some = omega (arith, some, small)

pub new_units_small : (unit : ℕ) (l : Layout) (offset len width : ℕ) (run : ReplacedRun) → IsInode (inode_of unit l) → IsRunOfWrite unit l offset len width run
    → offset + len < 2 ^ 32 → run.new_units < 2 ^ 63
new_units_small unit l offset len width run valid is within =
    let some = valid.least_unit in
    let most = valid.most_unit in
    let size = valid.size in
    let sum : data_units l.groups ≡ units_for unit l.size = valid.sum in
    let last : last_unit unit offset len < 2 ^ 33 = small_div (offset + len - 1) unit (omega (arith, some)) (omega (arith, within)) in
    let all : units_for unit l.size < 2 ^ 33 = small_div (l.size + (unit - 1)) unit (omega (arith, some)) (omega (arith, size, most)) in
    let ends = run_within l.groups run.first run.count in
    let covers = is.affected.covers in
    let new = is.new_units in
    small (last_unit unit offset len) (data_units (take run.first l.groups)) (data_units (run_of l.groups run.first run.count)) _ (data_units l.groups) last
    (omega (arith, sum, all)) ends run.new_units new covers
  where
    small : (last front units new all : ℕ) → last < 2 ^ 33 → all < 2 ^ 33 → front + units ≤ all → (told : ℕ) → told ≡ new
        → front + new ≡ max (last + 1) (front + units) → told < 2 ^ 63
    small last front units new all low high within told is covers = omega (arith, low, high, within, is, covers)
