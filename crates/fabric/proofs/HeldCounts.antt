-- What a hand holds is known modulo 2^64.
use Rattle.std.proofs.Common.{◌≡◌, ℕ, ◌+◌, ◌-◌, ◌%◌, ◌^◌, true, ap, arith}
use Rattle.domains.specs.Counts.{one_if}
use Rattle.domains.specs.Shape.{Shape, is_of}
use Rattle.domains.specs.Drive.{Drive, same_drive}
use Rattle.domains.proofs.DriveLemmas.{same_drive-self}
use Rattle.fabric.specs.Accounts.{Holds, Loses}
use Rattle.fabric.specs.declared.hand.Hand.{Hand}

module _ {S : Type 0} where
  -- a hand that holds m slots holds each n that is m modulo 2^64
  pub Holds-modulo : (shape : Shape) (d : Drive) (m n : ℕ) (hand : Hand S) → m % 2 ^ 64 ≡ n % 2 ^ 64 → Holds shape d m hand → Holds shape d n hand
  Holds-modulo shape d m n hand same holds = let sum = holds.sum in record { pool = holds.pool; pool_is = holds.pool_is; sum = omega (arith, same, sum) }

  -- a hand that held none of the drive's slots and released one holds 2^64 - 1: it released what another drew
  pub Loses-none : (shape : Shape) (d : Drive) (old new : Hand S) → is_of shape d ≡ true → Loses shape d old new → Holds shape d 0 old → Holds shape d (2 ^ 64 - 1) new
  Loses-none shape d old new of loses holds =
      let one : one_if (same_drive d d) ≡ 1 = ap one_if (same_drive-self d) in
      loses d (2 ^ 64 - 1) of (Holds-modulo shape d 0 (2 ^ 64 - 1 + one_if (same_drive d d)) old (omega (arith, one)) holds)
