-- What a hand that trades keeps.
use Rattle.std.specs.Prelude.{◌≡◌, ℕ, List, [], ◌∷◌, length, Some, slice_get, IsOk, OnOk}
use Rattle.fabric.specs.Accounts.{Stays}
use Rattle.fabric.specs.Cells.{FabricView}
use Rattle.fabric.specs.Views.{IsHandOf, number_of}
use Rattle.fabric_uses.specs.declared.traders.Trader.{Trader}

module _ {S : Type 0} where
  -- the hand is the fabric's still and has its number, and if all went well it holds what it held
  pub record Traded (f : FabricView) (before after : Trader S) : Type 0 where
    pub hand : IsHandOf f after.hand
    pub number : number_of after.hand ≡ number_of before.hand
    pub even : OnOk after.done (Stays f.shape before.hand after.hand)

  -- all trades of these traders went well
  abbrev pub AllDone : List (Trader S) → Type 0
  AllDone [] = Unit {0}
  AllDone (trader ∷ traders) = IsOk trader.done × AllDone traders

  -- as many traders come back, each at its place
  pub record AllTraded (f : FabricView) (before after : List (Trader S)) : Type 0 where
    pub count : length after ≡ length before
    pub each : (k : ℕ) (b a : Trader S) → slice_get before k ≡ Some b → slice_get after k ≡ Some a → Traded f b a
