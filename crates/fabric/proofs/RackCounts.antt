-- Counts of slots that a rack gave and took back.
use Rattle.std.proofs.Common.{◌≡◌, ◌⊎◌, Result, Ok, Err, ℕ, ◌+◌, ◌*◌, ◌%◌, ◌^◌, ◌≤◌, sym, ap, subst, ◌∙◌, inl, inr, arith}
use Rattle.std.proofs.Math.Nat.{mod-add-mod}
use Rattle.std.proofs.lemmas.Bool.{true≢false}
use Rattle.std.specs.Prelude.{IsOk, OnOk}
use Rattle.std.specs.Result.{IsErrOf, result_and}
use Rattle.flex_io.specs.Faults.{HasCause, HasRisen}
use Rattle.flex_io.specs.declared.fault.Fault.{Fault}
use Rattle.flex_io.specs.declared.fault.Fault.TheVariants.{Failed}
use Rattle.fabric.specs.RackCounts.{ComesBack, HasRisenTwice, RisesBy}

pub RisesBy-same : (number other before now : ℕ) → number ≡ other → RisesBy number before now → RisesBy other before now
RisesBy-same number other before now same = subst (λ (n : ℕ). RisesBy n before now) same

-- a count rose, and then rose by more
pub RisesBy-then : (first more old mid new : ℕ) → RisesBy first old mid → RisesBy more mid new → RisesBy (first + more) old new
RisesBy-then first more old mid new rises then =
    then ∙ sym (mod-add-mod mid (2 ^ 64) more) ∙ ap (λ (n : ℕ). (n + more) % 2 ^ 64) rises ∙ mod-add-mod (old + first) (2 ^ 64) more
    ∙ ap (λ (n : ℕ). n % 2 ^ 64) (let same : old + first + more ≡ old + (first + more) = omega arith in same)

-- once more the number
pub times_more : (times number : ℕ) → times * number + number ≡ (times + 1) * number
times_more times number = grind arith

-- n slots were taken; then others were, and came back; and then n came back
ComesBack-all : (n takes_old puts_old takes_mid puts_mid takes_then puts_then takes_new puts_new : ℕ) → RisesBy n takes_old takes_mid → puts_mid ≡ puts_old
    → ComesBack takes_mid puts_mid takes_then puts_then → takes_new ≡ takes_then → RisesBy n puts_then puts_new → ComesBack takes_old puts_old takes_new puts_new
ComesBack-all n takes_old puts_old takes_mid puts_mid takes_then puts_then takes_new puts_new taken none back same put =
    let left : (takes_new + puts_old) % 2 ^ 64 ≡ (takes_then + puts_mid) % 2 ^ 64 = ap (λ (t : ℕ). (t + puts_old) % 2 ^ 64) same ∙ ap (λ (p : ℕ). (takes_then + p) % 2 ^ 64) (sym none) in
    let mid : (takes_mid + puts_then) % 2 ^ 64 ≡ (takes_old + n + puts_then) % 2 ^ 64 =
    sym (mod-add-mod takes_mid (2 ^ 64) puts_then) ∙ ap (λ (t : ℕ). (t + puts_then) % 2 ^ 64) taken ∙ mod-add-mod (takes_old + n) (2 ^ 64) puts_then in
    let turned : takes_old + n + puts_then ≡ puts_then + n + takes_old = omega arith in
    let right : (puts_then + n + takes_old) % 2 ^ 64 ≡ (puts_new + takes_old) % 2 ^ 64 =
    sym (mod-add-mod (puts_then + n) (2 ^ 64) takes_old) ∙ ap (λ (p : ℕ). (p + takes_old) % 2 ^ 64) (sym put) ∙ mod-add-mod puts_new (2 ^ 64) takes_old in
    let last : puts_new + takes_old ≡ takes_old + puts_new = omega arith in
    left ∙ back ∙ mid ∙ ap (λ (k : ℕ). k % 2 ^ 64) turned ∙ right ∙ ap (λ (k : ℕ). k % 2 ^ 64) last

HasRisenTwice-steps : (old mid new : ℕ) → HasRisen old mid → HasRisen mid new → HasRisenTwice old new
HasRisenTwice-steps old mid new first second = omega (arith, first, second)

HasRisenTwice-around : (old mid new last : ℕ) → old ≤ mid → new ≤ last → HasRisenTwice mid new → HasRisenTwice old last
HasRisenTwice-around old mid new last before after twice = omega (arith, before, after, twice)

HasRisen-after : (old mid new : ℕ) → old ≤ mid → HasRisen mid new → HasRisen old new
HasRisen-after old mid new before rises = omega (arith, before, rises)

on_ok : {T E A : Type 0} (result : Result T E) → IsOk result → OnOk result A → A
on_ok (Ok x) ok known = known
on_ok (Err e) ok known = absurd (true≢false (sym ok))

HasRisen-before : (old mid new : ℕ) → HasRisen old mid → mid ≤ new → HasRisen old new
HasRisen-before old mid new rises after = omega (arith, rises, after)

-- n slots were taken before the rack failed, and were put back after it
pub comes_back : {T : Type 0} (put : Result T Fault) (n takes_old puts_old faults_old takes_mid puts_mid faults_mid takes_then puts_then faults_then takes_new puts_new faults_new : ℕ)
    → RisesBy n takes_old takes_mid → puts_mid ≡ puts_old → faults_old ≤ faults_mid
    → ComesBack takes_mid puts_mid takes_then puts_then ⊎ HasRisenTwice faults_mid faults_then → HasRisen faults_mid faults_then
    → takes_new ≡ takes_then → OnOk put (RisesBy n puts_then puts_new) → HasCause put faults_then faults_new → faults_then ≤ faults_new
    → IsOk put ⊎ IsErrOf put Failed
    → ComesBack takes_old puts_old takes_new puts_new ⊎ HasRisenTwice faults_old faults_new
comes_back put n takes_old puts_old faults_old takes_mid puts_mid faults_mid takes_then puts_then faults_then takes_new puts_new faults_new taken none before (inr twice) failed same all cause after how =
    inr (HasRisenTwice-around faults_old faults_mid faults_then faults_new before after twice)
comes_back put n takes_old puts_old faults_old takes_mid puts_mid faults_mid takes_then puts_then faults_then takes_new puts_new faults_new taken none before (inl back) failed same all cause after (inr lost) =
    inr (HasRisenTwice-steps faults_old faults_then faults_new (HasRisen-after faults_old faults_mid faults_then before failed) (cause lost))
comes_back put n takes_old puts_old faults_old takes_mid puts_mid faults_mid takes_then puts_then faults_then takes_new puts_new faults_new taken none before (inl back) failed same all cause after (inl ok) =
    inl (ComesBack-all n takes_old puts_old takes_mid puts_mid takes_then puts_then takes_new puts_new taken none back same (on_ok put ok all))

-- slots were put back, and then more
puts_then : {T : Type 0} (first then : Result T Fault) (n more puts_old puts_mid puts_new faults_old faults_mid faults_new : ℕ)
    → OnOk first (RisesBy n puts_old puts_mid) → HasCause first faults_old faults_mid → faults_old ≤ faults_mid
    → OnOk then (RisesBy more puts_mid puts_new) → HasCause then faults_mid faults_new → faults_mid ≤ faults_new
    → OnOk (result_and first then) (RisesBy (n + more) puts_old puts_new) × HasCause (result_and first then) faults_old faults_new
puts_then (Ok x) (Ok y) n more puts_old puts_mid puts_new faults_old faults_mid faults_new all cause before rest cause_then after =
    (RisesBy-then n more puts_old puts_mid puts_new all rest, λ failed. HasRisen-after faults_old faults_mid faults_new before (cause_then failed))
puts_then (Ok x) (Err e) n more puts_old puts_mid puts_new faults_old faults_mid faults_new all cause before rest cause_then after =
    (tt, λ failed. HasRisen-after faults_old faults_mid faults_new before (cause_then failed))
puts_then (Err e) then n more puts_old puts_mid puts_new faults_old faults_mid faults_new all cause before rest cause_then after =
    (tt, λ failed. HasRisen-before faults_old faults_mid faults_new (cause failed) after)

-- which is what both outcomes together say
pub puts_both : {T : Type 0} (first then both : Result T Fault) (n more all puts_old puts_mid puts_new faults_old faults_mid faults_new : ℕ) → both ≡ result_and first then → n + more ≡ all
    → OnOk first (RisesBy n puts_old puts_mid) → HasCause first faults_old faults_mid → faults_old ≤ faults_mid
    → OnOk then (RisesBy more puts_mid puts_new) → HasCause then faults_mid faults_new → faults_mid ≤ faults_new
    → OnOk both (RisesBy all puts_old puts_new) × HasCause both faults_old faults_new
puts_both first then both n more all puts_old puts_mid puts_new faults_old faults_mid faults_new is count put cause before put_then cause_then after =
    subst (λ r. OnOk r (RisesBy all puts_old puts_new) × HasCause r faults_old faults_new) (sym is)
    (subst (λ k. OnOk (result_and first then) (RisesBy k puts_old puts_new) × HasCause (result_and first then) faults_old faults_new) count
    (puts_then first then n more puts_old puts_mid puts_new faults_old faults_mid faults_new put cause before put_then cause_then after))

-- which fault an `Err` has
pub fault_is : {T E : Type 0} (fault other : E) → IsErrOf {T = T} (Err fault) other → fault ≡ other
fault_is {T} {E} fault other is = ap (fault_or fault) is
  where
    fault_or : E → Result T E → E
    fault_or default (Ok x) = default
    fault_or default (Err e) = e
