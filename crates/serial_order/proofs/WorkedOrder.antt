-- The order of three scripts, worked out: the second actor has nothing to do.
use Rattle.std.proofs.Common.{◌≡◌, ℕ, [], ◌∷◌, refl}
use Rattle.domains.specs.declared.by.By.{By}
use Rattle.serial_order.specs.SerialOrder.{calls_of, serial_order}

abbrev by : ℕ → ℕ → By
by actor call = record { actor = actor; call = call }

three_scripts : serial_order (2 ∷ 0 ∷ 3 ∷ []) ≡ by 1 1 ∷ by 3 1 ∷ by 1 2 ∷ by 3 2 ∷ by 3 3 ∷ []
three_scripts = refl

calls_of_the_third : calls_of 3 (serial_order (2 ∷ 0 ∷ 3 ∷ [])) ≡ 1 ∷ 2 ∷ 3 ∷ []
calls_of_the_third = refl
