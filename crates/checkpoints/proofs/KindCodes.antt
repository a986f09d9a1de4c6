-- The codes of the kinds, and their phases.
use Rattle.std.proofs.Common.{◌≡◌, ℕ, zero, suc, ◌<◌, List, [], ◌∷◌, length, IsSome, refl, arith}
use Rattle.job_rules.specs.Kinds.{code_of, phase_in, phases_of}
use Rattle.job_rules.specs.declared.kind.JobKind.{JobKind}
use Rattle.job_rules.specs.declared.kind.JobKind.TheVariants.{FlexProtect, AutoBalance, SetProtectPlus, Collect, MultiScan, Upgrade, IntegrityScan, MediaScan, SmartPools, SyncCopy}
use Rattle.job_rules.specs.declared.phase.Phase.{Phase}
use Rattle.checkpoints.specs.CheckpointFields.{phase_count}

-- each number below ten is the code of a kind
pub none_has : (n : ℕ) → n < 10 → ((kind : JobKind) → code_of kind ≡ n → ⊥) → ⊥
none_has n few none =
    let a : 0 ≡ n → ⊥ = none FlexProtect in
    let b : 1 ≡ n → ⊥ = none AutoBalance in
    let c : 2 ≡ n → ⊥ = none SetProtectPlus in
    let d : 3 ≡ n → ⊥ = none Collect in
    let e : 4 ≡ n → ⊥ = none MultiScan in
    let f : 5 ≡ n → ⊥ = none Upgrade in
    let g : 6 ≡ n → ⊥ = none IntegrityScan in
    let h : 7 ≡ n → ⊥ = none MediaScan in
    let i : 8 ≡ n → ⊥ = none SmartPools in
    let j : 9 ≡ n → ⊥ = none SyncCopy in
    omega arith

-- a kind has the phases below their count
pub phase-below : (phases : List Phase) (n : ℕ) → IsSome (phase_in phases n) → n < length phases
phase-below [] n some = absurd cc
phase-below (p ∷ ps) zero some = omega arith
phase-below (p ∷ ps) (suc n) some = let below : n < length ps = phase-below ps n some in omega arith

pub below-phase : (phases : List Phase) (n : ℕ) → n < length phases → IsSome (phase_in phases n)
below-phase [] n below = absurd (omega arith)
below-phase (p ∷ ps) zero below = refl
below-phase (p ∷ ps) (suc n) below = below-phase ps n (omega arith)

pub count-phases : (kind : JobKind) → phase_count (code_of kind) ≡ length (phases_of kind)
count-phases FlexProtect = refl
count-phases AutoBalance = refl
count-phases SetProtectPlus = refl
count-phases Collect = refl
count-phases MultiScan = refl
count-phases Upgrade = refl
count-phases IntegrityScan = refl
count-phases MediaScan = refl
count-phases SmartPools = refl
count-phases SyncCopy = refl
