-- How wide new groups are, as the code finds it.
use Rattle.std.proofs.Common.{◌≡◌, ℕ, zero, suc, ◌+◌, ◌-◌, ◌≤◌, ◌<◌, min, nat_le, Bool, true, false, ◌&&◌, not, if◌then◌else◌, List, [], ◌∷◌, length, map, get_or, Option, None, Some, inl, inr, sym, ap, subst, ◌∙◌, arith, lit≤}
use Rattle.std.specs.List.{AllByRecursion}
use Rattle.std.proofs.lemmas.Bool.{cases_lt}
use Rattle.domains.specs.Drive.{Drive, IsDrive}
use Rattle.domains.specs.DriveSet.{has}
use Rattle.domains.specs.Level.{Level, IsLevel, named_levels}
use Rattle.domains.specs.Room.{room_of, width_of}
use Rattle.domains.specs.Shape.{Shape, IsShape}
use Rattle.domains.specs.declared.drive_set.DriveSet.{DriveSet}
use Rattle.domains.specs.declared.room.TooFew.{TooFew}
use Rattle.board.specs.declared.board_view.View.{View}
use Rattle.file_history.specs.Refusals.{HasTooFew, room_at, width_at}
use Rattle.file_core.specs.FileView.{FileView, layout_of, now_of}
use Rattle.file_core.specs.Looks.{IsLook}
use Rattle.file_core.specs.declared.looks.Look.{Look}
use Rattle.file_turns.proofs.FileRoom.{room_is, usable_is}

abbrev wide_by : Level → ℕ → Option ℕ
wide_by level room = if nat_le (level.m + 1) room then Some (min level.w (room - level.m)) else None

abbrev or_else : {A : Type 0} → A → Option A → A
or_else d None = d
or_else d (Some x) = x

module _ {S : Type 0} (x : FileView S) (view : View) (look : Look) (count : ℕ) (usable : DriveSet) (cluster : IsShape x.shape) (looks : IsLook (layout_of x) count look)
    (made : (d : Drive) → IsDrive d → has usable d ≡ (has view.up d && not (has look.barred d))) (shape : Shape) (same : shape ≡ x.shape) where
  room_found : room_of look.level shape (has usable) ≡ room_at (now_of x view) (layout_of x)
  room_found = (λ i. room_of (looks.level i) (same i) (has usable)) ∙ room_is x view (has usable) (usable_is x view look count usable cluster looks made)

  -- the width that the code finds is that of the moment
  pub width_found : (q : ℕ) → width_of look.level shape (has usable) ≡ Some q → width_at (now_of x view) (layout_of x) ≡ Some q
  width_found q is = sym moved ∙ is
    where
      moved : width_of look.level shape (has usable) ≡ width_at (now_of x view) (layout_of x)
      moved = λ i. wide_by (looks.level i) (room_found i)

  -- they have no room for a group at the requested level
  pub too_few : (fault : TooFew) → fault.have ≡ room_of look.level shape (has usable) → fault.need ≡ look.level.m + 1
      → (look.level.m + 1 ≤ room_of look.level shape (has usable) → ⊥) → HasTooFew (now_of x view) (layout_of x) fault
  too_few fault have need none = record {
    have = have ∙ room_found;
    need = need ∙ ap (λ (l : Level). l.m + 1) looks.level;
    short = below fault.have fault.need (λ enough. none (omega (arith, enough, have, need)));
  }
    where
      below : (have need : ℕ) → (need ≤ have → ⊥) → have < need
      below have need none = elim (cases_lt have need) [
        | inl short ↦ short
        | inr enough ↦ absurd (none enough)
      ]

of_contained : {A : Type 0} (P : A → Type 0) (xs : List A) (k : ℕ) (x : A) → AllByRecursion P xs → k < length xs → get_or xs k x ≡ x → P x
of_contained P [] k x all below is = absurd (omega (arith, below))
of_contained P (y ∷ ys) zero x all below is = subst P is all.0
of_contained P (y ∷ ys) (suc k) x all below is = of_contained P ys k x all.1 (omega (arith, below)) is

some_data : (level : Level) → IsLevel level → 1 ≤ level.w
some_data level is =
    of_contained (λ (l : Level). 1 ≤ l.w) (map (λ (named : Level × List ℕ). named.0) named_levels) is.0 level
    (lit≤ tt, (lit≤ tt, (lit≤ tt, (lit≤ tt, (lit≤ tt, (lit≤ tt, (lit≤ tt, (lit≤ tt, (lit≤ tt, (lit≤ tt, (lit≤ tt, (lit≤ tt, (lit≤ tt, (lit≤ tt, (lit≤ tt, (lit≤ tt, tt)))))))))))))))) is.1 is.2

-- a new group has a data unit
pub some_wide : (level : Level) (shape : Shape) (p : Drive → Bool) (q : ℕ) → IsLevel level → level.m + 1 ≤ room_of level shape p → width_of level shape p ≡ Some q → 1 ≤ q
some_wide level shape p q is enough found = chosen (nat_le (level.m + 1) (room_of level shape p)) (some_data level is) found
  where
    chosen : (b : Bool) → 1 ≤ level.w → (if b then Some (min level.w (room_of level shape p - level.m)) else None) ≡ Some q → 1 ≤ q
    chosen false some is = absurd (none is)
      where
        none : None ≡ Some q → ⊥
        none h = cc
    chosen true some is = least level.w (room_of level shape p) level.m q some enough (ap (or_else 0) is)
      where
        least : (w room m q : ℕ) → 1 ≤ w → m + 1 ≤ room → min w (room - m) ≡ q → 1 ≤ q
        least w room m q some enough is = omega (arith, some, enough, is)
