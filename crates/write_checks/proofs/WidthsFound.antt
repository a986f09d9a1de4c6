-- How wide new groups are.
use Rattle.std.proofs.Common.{◌≡◌, ℕ, zero, suc, ◌+◌, ◌-◌, ◌≤◌, ◌<◌, min, nat_le, Bool, true, false, if◌then◌else◌, List, [], ◌∷◌, length, map, get_or, Option, None, Some, sym, ap, subst, arith, lit≤}
use Rattle.std.specs.List.{AllByRecursion}
use Rattle.std.proofs.lemmas.Bool.{leb-true}
use Rattle.domains.specs.Drive.{Drive}
use Rattle.domains.specs.DriveSet.{has}
use Rattle.domains.specs.Level.{Level, IsLevel, named_levels}
use Rattle.domains.specs.Room.{room_of, width_of}
use Rattle.domains.specs.Shape.{Shape, IsShape}
use Rattle.domains.specs.declared.drive_set.DriveSet.{DriveSet}
use Rattle.file_history.specs.World.{Moment}
use Rattle.file_history.specs.Layout.{Layout}
use Rattle.file_history.specs.Refusals.{width_at}
use Rattle.placed_groups.specs.NewPlaces.{IsUsableSet}
use Rattle.entry_causes.proofs.RoomLemmas.{room_is}

abbrev or_else : {A : Type 0} → A → Option A → A
or_else d None = d
or_else d (Some x) = x

abbrev wide_by : Level → ℕ → Option ℕ
wide_by level room = if nat_le (level.m + 1) room then Some (min level.w (room - level.m)) else None

of_contained : {A : Type 0} (P : A → Type 0) (xs : List A) (k : ℕ) (x : A) → AllByRecursion P xs → k < length xs → get_or xs k x ≡ x → P x
of_contained P [] k x all below is = absurd (omega (arith, below))
of_contained P (y ∷ ys) zero x all below is = subst P is all.0
of_contained P (y ∷ ys) (suc k) x all below is = of_contained P ys k x all.1 (omega (arith, below)) is

some_data : (level : Level) → IsLevel level → 1 ≤ level.w
some_data level is =
    of_contained (λ (l : Level). 1 ≤ l.w) (map (λ (named : Level × List ℕ). named.0) named_levels) is.0 level
    (lit≤ tt, (lit≤ tt, (lit≤ tt, (lit≤ tt, (lit≤ tt, (lit≤ tt, (lit≤ tt, (lit≤ tt, (lit≤ tt, (lit≤ tt, (lit≤ tt, (lit≤ tt, (lit≤ tt, (lit≤ tt, (lit≤ tt, (lit≤ tt, tt)))))))))))))))) is.1 is.2

-- a new group has a data unit
pub some_wide : (level : Level) (shape : Shape) (p : Drive → Bool) (q : ℕ) → IsLevel level → level.m + 1 ≤ room_of level shape p → width_of level shape p ≡ Some q → 1 ≤ q
some_wide level shape p q is enough found = chosen (nat_le (level.m + 1) (room_of level shape p)) (some_data level is) found
  where
    chosen : (b : Bool) → 1 ≤ level.w → (if b then Some (min level.w (room_of level shape p - level.m)) else None) ≡ Some q → 1 ≤ q
    chosen false some is = absurd (none is)
      where
        none : None ≡ Some q → ⊥
        none h = cc
    chosen true some is = least level.w (room_of level shape p) level.m q some enough (ap (or_else 0) is)
      where
        least : (w room m q : ℕ) → 1 ≤ w → m + 1 ≤ room → min w (room - m) ≡ q → 1 ≤ q
        least w room m q some enough is = omega (arith, some, enough, is)

-- the width that the usable drives allow is that of the moment
pub width_is : (shape : Shape) (usable : DriveSet) (now : Moment) (l : Layout) (level : Level) → IsShape shape → IsUsableSet shape usable now l → l.requested ≡ level
    → width_of level shape (has usable) ≡ width_at now l
width_is shape usable now l level cluster is same =
    let room = room_is shape usable now l cluster is level same in
    λ i. wide_by (sym same i) (room i)

-- drives that have no room for a group allow no width
pub no_width : (level : Level) (shape : Shape) (p : Drive → Bool) → (level.m + 1 ≤ room_of level shape p → ⊥) → width_of level shape p ≡ None
no_width level shape p short = chosen (nat_le (level.m + 1) (room_of level shape p)) (λ so. short (leb-true (level.m + 1) (room_of level shape p) so))
  where
    chosen : (b : Bool) → (b ≡ true → ⊥) → (if b then Some (min level.w (room_of level shape p - level.m)) else None) ≡ None
    chosen false none = λ i. None
    chosen true none = absurd (none (λ i. true))
