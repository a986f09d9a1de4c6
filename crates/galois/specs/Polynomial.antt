-- Polynomials over the field, as the lists of their coefficients, the constant first.
use Rattle.std.specs.Prelude.{ℕ, suc, List, [], ◌∷◌}
use Rattle.galois.specs.Field.{field_sum, field_product, field_power}

-- the sum, over these coefficients, of each times x to its degree, where the first has degree d
unfoldable pub value_from : List ℕ → ℕ → ℕ → ℕ
value_from [] d x = 0
value_from (c ∷ cs) d x = field_sum (field_product c (field_power x d)) (value_from cs (suc d) x)

-- the value at x of the polynomial with these coefficients
unfoldable pub polynomial_value : List ℕ → ℕ → ℕ
polynomial_value cs x = value_from cs 0 x

-- the coefficients of the sum of a polynomial and s times another of as many coefficients
abbrev pub added : ℕ → List ℕ → List ℕ → List ℕ
added s [] qs = []
added s (p ∷ ps) [] = p ∷ ps
added s (p ∷ ps) (q ∷ qs) = field_sum p (field_product s q) ∷ added s ps qs

-- the coefficients of the sum of c and x + a times the polynomial
abbrev pub linear_times : ℕ → ℕ → List ℕ → List ℕ
linear_times a c [] = c ∷ []
linear_times a c (q ∷ qs) = field_sum c (field_product a q) ∷ linear_times a q qs
