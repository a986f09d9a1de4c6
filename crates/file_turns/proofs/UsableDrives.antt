-- A set from which drives are removed one by one.
use Rattle.std.proofs.Common.{◌≡◌, ℕ, ◌+◌, Bool, true, false, ◌&&◌, ◌||◌, not, refl, sym, ap, ◌∙◌}
use Rattle.std.proofs.lemmas.Bool.{and_from, and_right}
use Rattle.domains.specs.Drive.{Drive, IsDrive, same_drive}
use Rattle.domains.specs.DriveSet.{has}
use Rattle.domains.specs.declared.drive_set.DriveSet.{DriveSet}
use Rattle.domains.proofs.DriveLemmas.{same_drive-eq}
use Rattle.file_heads.proofs.DriveSetUnion.{before-all, before-more, before-none, drive_at, is_before}

-- a drive that is one of the set is removed
pub removed_in : (old drives : DriveSet) (x d : Drive) → has drives x ≡ true → not (same_drive d x) && has old d ≡ has old d && not (has drives d && same_drive d x)
removed_in old drives x d there =
    elim (same_drive d x) as (λ b. same_drive d x ≡ b → not b && has old d ≡ has old d && not (has drives d && b)) [
      | true ↦ λ same. gone (has old d) (has drives d) (ap (has drives) (same_drive-eq d x same) ∙ there)
      | false ↦ λ same. stays (has old d) (has drives d)
    ] refl
  where
    gone : (a b : Bool) → b ≡ true → not true && a ≡ a && not (b && true)
    gone true true h = refl
    gone false true h = refl
    gone true false h = h
    gone false false h = refl

    stays : (a b : Bool) → not false && a ≡ a && not (b && false)
    stays true true = refl
    stays true false = refl
    stays false true = refl
    stays false false = refl

pub stays_out : (old drives : DriveSet) (x d : Drive) → has drives x ≡ false → has old d ≡ has old d && not (has drives d && same_drive d x)
stays_out old drives x d none =
    elim (same_drive d x) as (λ b. same_drive d x ≡ b → has old d ≡ has old d && not (has drives d && b)) [
      | true ↦ λ same. kept (has old d) (has drives d) (ap (has drives) (same_drive-eq d x same) ∙ none)
      | false ↦ λ same. stays (has old d) (has drives d)
    ] refl
  where
    kept : (a b : Bool) → b ≡ false → a ≡ a && not (b && true)
    kept true false h = refl
    kept false false h = refl
    kept true true h = h
    kept false true h = refl

    stays : (a b : Bool) → a ≡ a && not (b && false)
    stays true true = refl
    stays true false = refl
    stays false true = refl
    stays false false = refl

either : (u b c : Bool) → (u && not b) && not c ≡ u && not (b || c)
either true true c = refl
either true false c = refl
either false b c = refl

-- the drives of the set are removed up to this rank
abbrev pub removed_before : DriveSet → DriveSet → ℕ → Drive → Bool
removed_before old drives rank d = has old d && not (is_before drives rank d)

pub removed-none : (old drives : DriveSet) (d : Drive) → has old d ≡ removed_before old drives 0 d
removed-none old drives d = and-true (has old d) ∙ ap (λ b. has old d && not b) (before-none drives d false)
  where
    and-true : (a : Bool) → a ≡ a && not false
    and-true true = refl
    and-true false = refl

pub removed-more : (old drives : DriveSet) (rank : ℕ) (d : Drive) → IsDrive d
    → removed_before old drives rank d && not (has drives d && same_drive d (drive_at rank)) ≡ removed_before old drives (rank + 1) d
removed-more old drives rank d is =
    either (has old d) (is_before drives rank d) (has drives d && same_drive d (drive_at rank))
    ∙ ap (λ b. has old d && not b) (before-more drives rank d false is)

pub removed-all : (old drives : DriveSet) (d : Drive) → IsDrive d → removed_before old drives 512 d ≡ has old d && not (has drives d)
removed-all old drives d is = ap (λ b. has old d && not b) (before-all drives d false is)
