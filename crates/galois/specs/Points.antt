-- Points that a polynomial takes.
use Rattle.std.specs.Prelude.{◌≡◌, ◌≢◌, ℕ, ◌+◌, List, length, All, AllPairs}
use Rattle.galois.specs.declared.interpolation.Point8.{Point8}
use Rattle.galois.specs.Field.{IsByte, field_sum, field_product}
use Rattle.galois.specs.Polynomial.{polynomial_value}

-- no two points are at one element
abbrev pub AreApart : List Point8 → Type 0
AreApart points = AllPairs (λ p q. p.x ≢ q.x) points

-- the polynomial takes each point
abbrev pub TakesAll : List ℕ → List Point8 → Type 0
TakesAll coefficients points = All (λ p. polynomial_value coefficients p.x ≡ p.y) points

-- With one point more a polynomial takes that point and stays as it was at the roots, and the polynomial of the roots
-- has one root more. The lists are the coefficients before and after.
pub record TakesPoint (p : Point8) (coefficients roots new new_roots : List ℕ) : Type 0 where
  pub place : IsByte p.x
  pub count : length new ≡ length coefficients + 1
  pub count_of_roots : length new_roots ≡ length roots + 1
  pub bytes : All IsByte new
  pub root_bytes : All IsByte new_roots
  pub taken : polynomial_value new p.x ≡ p.y
  pub kept : (x : ℕ) → IsByte x → polynomial_value roots x ≡ 0 → polynomial_value new x ≡ polynomial_value coefficients x
  pub rooted : (x : ℕ) → IsByte x
      → polynomial_value new_roots x ≡ field_product (field_sum x p.x) (polynomial_value roots x)
