-- Levels by their names.
use Rattle.std.proofs.Common.{◌≡◌, ℕ, List, [], ◌∷◌, cond, map, refl, sym, ◌∙◌, ap}
use Rattle.std.specs.List.{AllByRecursion}
use Rattle.std.specs.Str.{bytes_eq}
use Rattle.std.proofs.lemmas.List.Elements.{All-contains, All-from_recursion}
use Rattle.domains.specs.Level.{Level, IsLevel, level_name, named_levels, two_copies}

abbrev level_among : List (Level × List ℕ) → List ℕ → Level
level_among [] text = two_copies
level_among (named ∷ rest) text = cond (bytes_eq named.1 text) named.0 (level_among rest text)

abbrev rows : List Level
rows = map (λ (named : Level × List ℕ). named.0) named_levels

again : AllByRecursion (λ (l : Level). level_among named_levels (level_name l) ≡ l) rows
again = (refl, (refl, (refl, (refl, (refl, (refl, (refl, (refl, (refl, (refl, (refl, (refl, (refl, (refl, (refl, (refl, tt))))))))))))))))

level_again : (level : Level) → IsLevel level → level_among named_levels (level_name level) ≡ level
level_again level is =
    All-contains (λ (l : Level). level_among named_levels (level_name l) ≡ l) rows level
    (All-from_recursion (λ (l : Level). level_among named_levels (level_name l) ≡ l) rows again) is

-- two levels of one name are one
pub level_same : (a b : Level) → IsLevel a → IsLevel b → level_name a ≡ level_name b → a ≡ b
level_same a b is_a is_b same = sym (level_again a is_a) ∙ ap (level_among named_levels) same ∙ level_again b is_b
