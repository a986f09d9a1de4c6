-- What the turns of a read or a write come to together.
use Rattle.std.proofs.Common.{ℕ, ◌+◌, ◌-◌, ◌<◌, ◌≤◌, List, ◌++◌, Option, None, Some, IfSome, length, take, drop, sym, ap, subst, ◌∙◌, arith, length-append, length-drop, take_all}
use Rattle.std.proofs.Math.Seq.{take-add}
use Rattle.std.proofs.KnownBytes.{Appends-trans}
use Rattle.std.specs.Io.KnownBytes.{Consumes, Appends}

-- the bytes were read, one at least a turn, and are no more than the limit; the faults did not fall
pub record IsReadSoFar (before now : Option (List ℕ)) (faults_before faults_now : ℕ) (bytes : List ℕ) (turn limit : ℕ) : Type 0 where
  pub consumed : Consumes before now bytes
  pub taken : turn ≤ length bytes
  pub within : length bytes ≤ limit
  pub faults : faults_before ≤ faults_now

-- where more bytes than the limit were read, more were left
pub Consumes-long : (before now : Option (List ℕ)) (bytes : List ℕ) (limit : ℕ) → Consumes before now bytes → limit < length bytes
    → IfSome before (λ left. limit < length left)
Consumes-long None now bytes limit h long = tt
Consumes-long (Some left) None bytes limit h long = absurd h
Consumes-long (Some left) (Some rest) bytes limit h long = omega (arith, ap length h, length-append bytes rest)

-- the bytes up to `at`, and then some of the rest, are a longer prefix
pub Appends-front : (first before now : Option (List ℕ)) (bytes : List ℕ) (at count : ℕ) → Appends first before (take at bytes)
    → Appends before now (take count (take (length bytes - at) (drop at bytes))) → Appends first now (take (at + count) bytes)
Appends-front first before now bytes at count done more =
    let rest = take_all (length bytes - at) (drop at bytes) (omega (arith, length-drop at bytes)) in
    subst (Appends first now) (ap (λ l. take at bytes ++ take count l) rest ∙ sym (take-add at count bytes)) (Appends-trans first before now _ _ done more)
