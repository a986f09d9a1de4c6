-- Names by their places.
use Rattle.std.proofs.Common.{◌≡◌, ℕ, ◌-◌, ◌<◌, ◌≤◌, List, [], ◌∷◌, length, get_or, zero, suc, refl, ap, sym, ◌∙◌, arith}
use Rattle.operation_rules.specs.OpRules.{file_names}
use Rattle.scenario.specs.declared.scenario.FileDecl.{FileDecl}
use Rattle.whole_scenario.specs.Names.{job_name, name_at}

-- the name of the file at a place within the list
pub file_name-at : (files : List FileDecl) (i : ℕ) (f : FileDecl) → i < length files → f ≡ get_or files i f → name_at (file_names files) i ≡ f.name
file_name-at [] i f within read = absurd (omega arith)
file_name-at (x ∷ xs) zero f within read = ap (λ (d : FileDecl). d.name) (sym read)
file_name-at (x ∷ xs) (suc i) f within read = file_name-at xs i f (omega arith) read

-- no name past the end
pub file_name_past : (files : List FileDecl) (i : ℕ) → length files ≤ i → name_at (file_names files) i ≡ []
file_name_past [] i past = refl
file_name_past (x ∷ xs) zero past = absurd (omega arith)
file_name_past (x ∷ xs) (suc i) past = file_name_past xs i (omega arith)

pub name_at-at : (names : List (List ℕ)) (i : ℕ) (n : List ℕ) → i < length names → n ≡ get_or names i n → name_at names i ≡ n
name_at-at [] i n within read = absurd (omega arith)
name_at-at (x ∷ xs) zero n within read = sym read
name_at-at (x ∷ xs) (suc i) n within read = name_at-at xs i n (omega arith) read

pub name_at_past : (names : List (List ℕ)) (i : ℕ) → length names ≤ i → name_at names i ≡ []
name_at_past [] i past = refl
name_at_past (x ∷ xs) zero past = absurd (omega arith)
name_at_past (x ∷ xs) (suc i) past = name_at_past xs i (omega arith)

place_of_suc : (k i : ℕ) → i ≡ suc k - 1 → k ≡ i
place_of_suc k i is = omega (arith, is)

-- a job's number is one more than its place
pub job_name-at : (jobs : List (List ℕ)) (number i : ℕ) (n : List ℕ) → (number ≡ 0 → ⊥) → i ≡ number - 1 → i < length jobs → n ≡ get_or jobs i n → job_name jobs number ≡ n
job_name-at jobs zero i n some is within read = absurd (some refl)
job_name-at jobs (suc k) i n some is within read = ap (name_at jobs) (place_of_suc k i is) ∙ name_at-at jobs i n within read

pub job_name_past : (jobs : List (List ℕ)) (number i : ℕ) → (number ≡ 0 → ⊥) → i ≡ number - 1 → length jobs ≤ i → job_name jobs number ≡ []
job_name_past jobs zero i some is past = absurd (some refl)
job_name_past jobs (suc k) i some is past = ap (name_at jobs) (place_of_suc k i is) ∙ name_at_past jobs i past
