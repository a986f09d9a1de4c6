-- The data of several groups, one after the other.
use Rattle.std.proofs.Common.{◌≡◌, ℕ, ◌-◌, ◌≤◌, List, [], ◌∷◌, ◌++◌, length, take, drop, get_or, sym, subst, arith}
use Rattle.std.specs.List.{AllByRecursion}
use Rattle.std.proofs.lemmas.List.{take_all}
use Rattle.pulled_groups.specs.PullAnswers.{CanDecode, ShowsGroup}
use Rattle.pulled_groups.specs.declared.pull_groups.PulledGroup.{PulledGroup}
use Rattle.write_units.specs.GroupUnits.{IsOldGroup}
use Rattle.write_units.specs.declared.old_data.OldGroup.{OldGroup}

-- what holds of a list holds of its first element and of the rest
parted : {A : Type 0} (P : A → Type 0) (xs : List A) (x : A) → 1 ≤ length xs → x ≡ get_or xs 0 x → AllByRecursion P xs
    → P x × AllByRecursion P (take (length xs - 1) (drop 1 xs))
parted P [] x some is all = absurd (omega (arith, some))
parted P (y ∷ ys) x some is all =
    (subst P (sym is) all.0, subst (AllByRecursion P) (sym (take_all (length (y ∷ ys) - 1) ys (omega arith))) all.1)

with_last : {A : Type 0} (P : A → Type 0) (xs : List A) (x : A) → AllByRecursion P xs → P x → AllByRecursion P (xs ++ x ∷ [])
with_last P [] x all one = (one, tt)
with_last P (y ∷ ys) x all one = (all.0, with_last P ys x all.1 one)

-- the data of one more group
pub one_more : (unit : ℕ) (pulled : List PulledGroup) (p : PulledGroup) (olds now new : List OldGroup) (o : OldGroup) → 1 ≤ length pulled → p ≡ get_or pulled 0 p
    → AllByRecursion (CanDecode unit) pulled → ((bytes : List ℕ) → ShowsGroup p.have.unit_length bytes p → IsOldGroup bytes o) → now ≡ olds ++ o ∷ []
    → ((bytes : List ℕ) → AllByRecursion (ShowsGroup unit bytes) (take (length pulled - 1) (drop 1 pulled)) → AllByRecursion (IsOldGroup bytes) now → AllByRecursion (IsOldGroup bytes) new)
    → (bytes : List ℕ) → AllByRecursion (ShowsGroup unit bytes) pulled → AllByRecursion (IsOldGroup bytes) olds → AllByRecursion (IsOldGroup bytes) new
one_more unit pulled p olds now new o some is decodes one added rest bytes shows before =
    let parts = parted (ShowsGroup unit bytes) pulled p some is shows in
    let decode = (parted (CanDecode unit) pulled p some is decodes).0 in
    rest bytes parts.1
    (subst (AllByRecursion (IsOldGroup bytes)) (sym added)
    (with_last (IsOldGroup bytes) olds o before (one bytes (subst (λ (n : ℕ). ShowsGroup n bytes p) (sym decode.unit_is) parts.0))))
