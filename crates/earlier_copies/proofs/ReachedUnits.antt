-- How many units hold the bytes up to the end of a write.
use Rattle.std.proofs.Common.{◌≡◌, ℕ, ◌+◌, ◌-◌, ◌*◌, ◌≤◌, arith}
use Rattle.std.proofs.lemmas.Nat.{div-add-mod', div_below, le-div, mod_below}
use Rattle.inode_codec.specs.Inode.{units_for}
use Rattle.write_rule.specs.Runs.{last_unit}

more_units : (n unit : ℕ) → (n + 1) * unit ≡ n * unit + unit
more_units n unit = grind arith

-- a write of a byte or more reaches the last of them
pub reached_units : (unit offset len : ℕ) → 1 ≤ unit → 1 ≤ len → units_for unit (offset + len) ≡ last_unit unit offset len + 1
reached_units unit offset len wide some =
    let b : ℕ = last_unit unit offset len in
    let parts = div-add-mod' (offset + len - 1) unit in
    let rest = mod_below (offset + len - 1) unit (omega (arith, wide)) in
    let one = more_units b unit in
    let two = more_units (b + 1) unit in
    let least = le-div (b + 1) (offset + len + (unit - 1)) unit (omega (arith, wide)) (omega (arith, one, parts, some, wide)) in
    let most = div_below (offset + len + (unit - 1)) unit (b + 1 + 1) (omega (arith, wide)) (omega (arith, one, two, parts, rest, some, wide)) in
    omega (arith, least, most)
