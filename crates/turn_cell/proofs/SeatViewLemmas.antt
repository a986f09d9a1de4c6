-- What a crate above sees of a seat: its number, and whether it is in a turn.
use Rattle.std.proofs.Common.{◌≡◌, ℕ, true, ◌&&◌, List, [], ◌∷◌, Option, refl, ap}
use Rattle.turn_cell.specs.declared.view.Hold.{Hold}
use Rattle.turn_cell.specs.declared.view.Hold.TheVariants.{Free, Waits, Has}
use Rattle.turn_cell.specs.declared.view.View.{View}
use Rattle.turn_cell.specs.Seats.{is_empty}
use Rattle.turn_cell.specs.Views.{IsActive, known_in, number_in, is_free}
use Rattle.turn_cell.proofs.ViewLemmas.{active_is}

module _ {S : Type 0} where
  -- a seat that is in no turn has no ticket and no value
  pub free_and : (h : Hold S) (c : List (ℕ × Option S)) → (is_free h && is_empty c) ≡ true → (h ≡ Free) × (c ≡ [])
  free_and Free [] e = (refl, refl)
  free_and Free (x ∷ xs) e = absurd (cc)
  free_and (Waits t) c e = absurd (cc)
  free_and (Has t x) c e = absurd (cc)

  pub number_is : (w : View S) (h : IsActive w) → number_in w ≡ (known_in w h).number
  number_is w h = ap number_in (active_is w h)
