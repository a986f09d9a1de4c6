-- Which data units of a file groups have.
use Rattle.std.specs.Prelude.{ℕ, ◌+◌, ◌==◌, Bool, if◌then◌else◌, List, [], ◌∷◌}
use Rattle.domains.specs.declared.group.Group.{Group}
use Rattle.file_heads.specs.Parts.{is_last}

-- data units that follow one another: the first, and how many they are
pub record Span : Type 0 where
  pub start : ℕ
  pub count : ℕ

-- how many data units the first of the spans has for which the test passes; none if there is no such span
abbrev pub units_where : (Span → Bool) → List Span → ℕ
units_where p [] = 0
units_where p (s ∷ ss) = if p s then s.count else units_where p ss

-- how many data units from this one on are of one span, and how many up to this one
abbrev pub units_from : List Span → ℕ → ℕ
units_from spans first = units_where (λ (s : Span). s.start == first) spans

abbrev pub units_up_to : List Span → ℕ → ℕ
units_up_to spans stop = units_where (λ (s : Span). s.start + s.count == stop) spans

-- the spans of the groups for which the test passes: of the first unit, the group, and whether it is the last
abbrev pub spans_with : List Group → ℕ → (ℕ → Group → Bool → Bool) → List Span
spans_with [] start test = []
spans_with (g ∷ gs) start test =
    if test start g (is_last gs) then record { start = start; count = g.n } ∷ spans_with gs (start + g.n) test else spans_with gs (start + g.n) test
