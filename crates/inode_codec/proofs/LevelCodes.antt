-- The codes of the levels: each number below sixteen is the code of one level.
use Rattle.std.proofs.Common.{◌≡◌, ℕ, zero, suc, ◌+◌, ◌<◌, Bool, true, false, cond, List, [], ◌∷◌, length, map, refl, arith, ltb as nat_lt}
use Rattle.std.proofs.lemmas.Bool.Decides.{nat_tests}
use Rattle.std.proofs.lemmas.List.Sums.{AllPass-from_list_all}
use Rattle.std.specs.List.{Contains}
use Rattle.std.proofs.lemmas.List.Elements.{All-contains, Contains-get_or}
use Rattle.domains.specs.Level.{Level, IsLevel, named_levels, same_level, two_copies}
use Rattle.inode_codec.specs.Inode.{code_from, level_code}
use Rattle.inode_codec.specs.InodeReader.{level_at}
use Rattle.inode_codec.proofs.InodeBytes.{levels, same_level-eq}

pub is_row : (code : ℕ) → code < 16 → IsLevel (level_at code)
is_row code few = Contains-get_or levels code two_copies few

pub code_again : (code : ℕ) → code < 16 → level_code (level_at code) ≡ code
code_again zero few = refl
code_again (suc zero) few = refl
code_again (suc (suc zero)) few = refl
code_again (suc (suc (suc zero))) few = refl
code_again (suc (suc (suc (suc zero)))) few = refl
code_again (suc (suc (suc (suc (suc zero))))) few = refl
code_again (suc (suc (suc (suc (suc (suc zero)))))) few = refl
code_again (suc (suc (suc (suc (suc (suc (suc zero))))))) few = refl
code_again (suc (suc (suc (suc (suc (suc (suc (suc zero)))))))) few = refl
code_again (suc (suc (suc (suc (suc (suc (suc (suc (suc zero))))))))) few = refl
code_again (suc (suc (suc (suc (suc (suc (suc (suc (suc (suc zero)))))))))) few = refl
code_again (suc (suc (suc (suc (suc (suc (suc (suc (suc (suc (suc zero))))))))))) few = refl
code_again (suc (suc (suc (suc (suc (suc (suc (suc (suc (suc (suc (suc zero)))))))))))) few = refl
code_again (suc (suc (suc (suc (suc (suc (suc (suc (suc (suc (suc (suc (suc zero))))))))))))) few = refl
code_again (suc (suc (suc (suc (suc (suc (suc (suc (suc (suc (suc (suc (suc (suc zero)))))))))))))) few = refl
code_again (suc (suc (suc (suc (suc (suc (suc (suc (suc (suc (suc (suc (suc (suc (suc zero))))))))))))))) few = refl
code_again (suc (suc (suc (suc (suc (suc (suc (suc (suc (suc (suc (suc (suc (suc (suc (suc n)))))))))))))))) few = absurd (omega arith)

-- a level whose place is within these rows is one of them
within_rows : (n : ℕ) (rows : List (Level × List ℕ)) (level : Level) → code_from n rows level < n + length rows
    → Contains (map (λ (named : Level × List ℕ). named.0) rows) level
within_rows n [] level few = absurd (omega arith)
within_rows n (r ∷ rows) level few =
    elim (same_level r.0 level) as (λ t. same_level r.0 level ≡ t → cond t n (code_from (n + 1) rows level) < n + suc (length rows)
    → Contains (r.0 ∷ map (λ (named : Level × List ℕ). named.0) rows) level) [
      | true ↦ λ same _. (0, omega arith, same_level-eq r.0 level same)
      | false ↦ λ _ later.
          let found = within_rows (n + 1) rows level (omega arith) in
          (suc found.0, (let below : found.0 < length (map (λ (named : Level × List ℕ). named.0) rows) = found.1 in omega arith), found.2)
    ] refl few

-- what has one of the sixteen codes is a level
pub coded_level : (level : Level) → level_code level < 16 → IsLevel level
coded_level level few = within_rows 0 named_levels level few

abbrev is_coded : Level → Bool
is_coded level = nat_lt (level_code level) 16

-- a level has one of the sixteen codes
pub level_coded : (level : Level) → IsLevel level → level_code level < 16
level_coded level is =
    let coded : nat_lt (level_code level) 16 ≡ true = All-contains (λ r. is_coded r ≡ true) levels level (AllPass-from_list_all is_coded levels refl) is in
    grind (arith, nat_tests)
