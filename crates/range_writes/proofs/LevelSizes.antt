-- A group of a plan has a size that codewords may have.
use Rattle.std.proofs.Common.{◌≡◌, ℕ, zero, suc, ◌+◌, ◌≤◌, ◌<◌, List, [], ◌∷◌, length, map, get_or, subst, arith, lit≤}
use Rattle.std.specs.List.{AllByRecursion}
use Rattle.domains.specs.Level.{IsLevel, Level, named_levels}
use Rattle.rs_codes.specs.Codes.{IsCodeSize}

of_contained : {A : Type 0} (P : A → Type 0) (xs : List A) (k : ℕ) (x : A) → AllByRecursion P xs → k < length xs → get_or xs k x ≡ x → P x
of_contained P [] k x all below is = absurd (omega (arith, below))
of_contained P (y ∷ ys) zero x all below is = subst P is all.0
of_contained P (y ∷ ys) (suc k) x all below is = of_contained P ys k x all.1 (omega (arith, below)) is

abbrev IsSmall : Level → Type 0
IsSmall l = (l.w ≤ 16) × (1 ≤ l.m) × (l.m ≤ 7) × (l.w + l.m ≤ 20)

small : (level : Level) → IsLevel level → IsSmall level
small level is =
    of_contained IsSmall (map (λ (named : Level × List ℕ). named.0) named_levels) is.0 level
    ((lit≤ tt, lit≤ tt, lit≤ tt, lit≤ tt), ((lit≤ tt, lit≤ tt, lit≤ tt, lit≤ tt), ((lit≤ tt, lit≤ tt, lit≤ tt, lit≤ tt), ((lit≤ tt, lit≤ tt, lit≤ tt, lit≤ tt), ((lit≤ tt, lit≤ tt, lit≤ tt, lit≤ tt), ((lit≤ tt, lit≤ tt, lit≤ tt, lit≤ tt), ((lit≤ tt, lit≤ tt, lit≤ tt, lit≤ tt), ((lit≤ tt, lit≤ tt, lit≤ tt, lit≤ tt), ((lit≤ tt, lit≤ tt, lit≤ tt, lit≤ tt), ((lit≤ tt, lit≤ tt, lit≤ tt, lit≤ tt), ((lit≤ tt, lit≤ tt, lit≤ tt, lit≤ tt), ((lit≤ tt, lit≤ tt, lit≤ tt, lit≤ tt), ((lit≤ tt, lit≤ tt, lit≤ tt, lit≤ tt), ((lit≤ tt, lit≤ tt, lit≤ tt, lit≤ tt), ((lit≤ tt, lit≤ tt, lit≤ tt, lit≤ tt), ((lit≤ tt, lit≤ tt, lit≤ tt, lit≤ tt), tt))))))))))))))))
    is.1 is.2

pub code_sizes : (level : Level) (width : ℕ) (ns : List ℕ) → IsLevel level → width ≤ level.w → AllByRecursion (λ (n : ℕ). (1 ≤ n) × (n ≤ width)) ns
    → AllByRecursion (λ (n : ℕ). IsCodeSize n level.m) ns
code_sizes level width [] is narrow all = tt
code_sizes level width (n ∷ ns) is narrow all =
    let few = small level is in
    let a = few.0 in
    let b = few.1 in
    let c = few.2 in
    let d = few.3 in
    let some = all.0.0 in
    let most = all.0.1 in (
      record {
        some_data = some;
        most_data = omega (arith, most, narrow, a);
        some_correction = b;
        most_correction = c;
        most = omega (arith, most, narrow, d);
      },
      code_sizes level width ns is narrow all.1,
    )
