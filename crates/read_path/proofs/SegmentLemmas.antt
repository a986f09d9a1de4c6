-- Parts of the bytes of a file that follow one another.
use Rattle.std.proofs.Common.{◌≡◌, ℕ, zero, suc, ◌+◌, ◌-◌, ◌*◌, ◌<◌, ◌≤◌, min, max, List, [], ◌∷◌, ◌++◌, length, take, drop, replicate, get_or, zero-mul, suc-mul, mul-le-mul_right, inl, inr, sym, ap, ap₂, ◌∙◌, arith, rules, append-nil}
use Rattle.std.specs.List.{AllByRecursion, flat_map}
use Rattle.std.proofs.lemmas.Bool.{cases_lt}
use Rattle.std.proofs.lemmas.List.{places, same_lists}
use Rattle.std.proofs.Math.Seq.{take-append_seam}
use Rattle.read_path.specs.Segments.{segment}

-- a segment that ends where it begins
pub nothing : (bytes : List ℕ) (low high : ℕ) → high ≤ low → segment bytes low high ≡ []
nothing bytes low high ends = ap (λ (n : ℕ). take n (drop low bytes)) (let none : high - low ≡ 0 = omega (arith, ends) in none)

-- two that follow one another
joined : (bytes : List ℕ) (low mid high : ℕ) → low ≤ mid → mid ≤ high → segment bytes low mid ++ segment bytes mid high ≡ segment bytes low high
joined bytes low mid high first second = same_lists _ _ (search (rules, places)) (λ k d h. grind (arith, places))

-- the parts that lie within a range
pub join : (bytes : List ℕ) (start stop a b c : ℕ) → a ≤ b → b ≤ c
    → segment bytes (max start a) (min stop b) ++ segment bytes (max start b) (min stop c) ≡ segment bytes (max start a) (min stop c)
join bytes start stop a b c first second =
    elim (cases_lt b stop) [
      | inr over ↦
          let later : segment bytes (max start b) (min stop c) ≡ [] = nothing bytes (max start b) (min stop c) (omega (arith, over, second)) in
          let ends : min stop b ≡ min stop c = omega (arith, over, second) in
          ap₂ (λ (n : ℕ) (l : List ℕ). segment bytes (max start a) n ++ l) ends later ∙ append-nil _
      | inl inside ↦ elim (cases_lt start b) [
        | inr below ↦
            let earlier : segment bytes (max start a) (min stop b) ≡ [] = nothing bytes (max start a) (min stop b) (omega (arith, below, first)) in
            let begins : max start b ≡ max start a = omega (arith, below, first) in
            ap₂ (λ (l : List ℕ) (n : ℕ). l ++ segment bytes n (min stop c)) earlier begins
        | inl within ↦
            let here : min stop b ≡ b = omega (arith, inside) in
            let there : max start b ≡ b = omega (arith, within) in
            (λ i. segment bytes (max start a) (here i) ++ segment bytes (there i) (min stop c))
            ∙ joined bytes (max start a) b (min stop c) (omega (arith, within, first)) (omega (arith, inside, second))
      ]
    ]

-- some bytes of a piece of a file, which count follow
pub piece : (bytes : List ℕ) (count at unit start stop : ℕ) → stop ≤ length bytes
    → take (stop - max start at) (drop (start - at) (take unit (drop at (bytes ++ replicate count 0)))) ≡ segment bytes (max start at) (min stop (at + unit))
piece bytes count at unit start stop within =
    same_lists _ _ (search (rules, places)) (λ k d h. grind (arith, places))

-- a unit among units of one length
pub unit_among : (unit : ℕ) (us : List (List ℕ)) (i : ℕ) → AllByRecursion (λ (u : List ℕ). length u ≡ unit) us → i < length us
    → get_or us i [] ≡ take unit (drop (i * unit) (flat_map (λ (u : List ℕ). u) us))
unit_among unit [] i all below = absurd (omega (arith, below))
unit_among unit (u ∷ us) zero all below =
    sym (ap (λ (n : ℕ). take unit (drop n (u ++ flat_map (λ (u : List ℕ). u) us))) (zero-mul unit)
    ∙ ap (λ (n : ℕ). take n (u ++ flat_map (λ (u : List ℕ). u) us)) (sym all.0) ∙ take-append_seam u (flat_map (λ (u : List ℕ). u) us))
unit_among unit (u ∷ us) (suc i) all below =
    unit_among unit us i all.1 (omega (arith, below))
    ∙ ap (take unit) (sym (past u (flat_map (λ (u : List ℕ). u) us) unit (i * unit) (suc i * unit) all.0 (suc-mul i unit)))
  where
    past : (u rest : List ℕ) (unit k n : ℕ) → length u ≡ unit → n ≡ k + unit → drop n (u ++ rest) ≡ drop k rest
    past u rest unit k n long is = same_lists _ _ (search (rules, places)) (λ k d h. grind (arith, places))

-- a unit within a piece of some bytes
pub unit_within : (bytes : List ℕ) (at unit n i : ℕ) → i < n
    → take unit (drop (i * unit) (take (n * unit) (drop at bytes))) ≡ take unit (drop (at + i * unit) bytes)
unit_within bytes at unit n i below =
    let rows : suc i * unit ≤ n * unit = mul-le-mul_right unit below in
    ends (i * unit) (n * unit) (omega (arith, suc-mul i unit, rows))
  where
    ends : (k total : ℕ) → k + unit ≤ total → take unit (drop k (take total (drop at bytes))) ≡ take unit (drop (at + k) bytes)
    ends k total within = same_lists _ _ (search (rules, places)) (λ k d h. grind (arith, places))
