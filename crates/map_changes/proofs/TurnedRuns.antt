-- A run is replaced by turning the list round.
use Rattle.std.proofs.Common.{◌≡◌, ℕ, ◌+◌, ◌-◌, ◌≤◌, List, ◌++◌, length, take, drop, refl, sym, ap, ◌∙◌, arith, length-append, append_assoc}
use Rattle.std.proofs.lemmas.List.{length-take, length-drop, take-append-drop, drop-drop, take_at, drop_at}
use Rattle.map_changes.specs.ChangedMaps.{spliced}

pub in_three : {A : Type 0} (xs : List A) (first count : ℕ) → xs ≡ take first xs ++ (take count (drop first xs) ++ drop (first + count) xs)
in_three xs first count =
    sym (take-append-drop first xs)
    ∙ ap (λ l. take first xs ++ l) (sym (take-append-drop count (drop first xs)) ∙ ap (λ l. take count (drop first xs) ++ l) (drop-drop count first xs))

-- two ways to cut a list at one length
cut : {A : Type 0} (a b c d : List A) → a ++ b ≡ c ++ d → length b ≡ length d → (a ≡ c) × (b ≡ d)
cut a b c d same long =
    let whole = ap (λ l. length l) same in
    let left = length-append a b in
    let right = length-append c d in
    let count : length a ≡ length c = omega (arith, whole, left, right, long) in (
      sym (take_at a b (length c) count) ∙ ap (take (length c)) same ∙ take_at c d (length c) refl,
      sym (drop_at a b (length c) count) ∙ ap (drop (length c)) same ∙ drop_at c d (length c) refl,
    )

pub record Replaced {A : Type 0} (xs last fresh run : List A) (first count : ℕ) : Type 0 where
  pub items : last ≡ spliced xs first count fresh
  pub gone : run ≡ take count (drop first xs)

pub run_replaced : {A : Type 0} (xs turned rest joined last fresh run : List A) (first count back : ℕ) → first + count ≤ length xs
    → turned ≡ drop (first + count) xs ++ take (first + count) xs → turned ≡ rest ++ run → length run ≡ count
    → joined ≡ rest ++ fresh → back ≡ length xs - (first + count) → last ≡ drop back joined ++ take back joined
    → Replaced xs last fresh run first count
run_replaced xs turned rest joined last fresh run first count back within turn popped long join back_is again =
    let f = take first xs in
    let r = take count (drop first xs) in
    let b = drop (first + count) xs in
    let front_long = length-take first xs in
    let run_long = length-take count (drop first xs) in
    let drop_long = length-drop first xs in
    let back_long = length-drop (first + count) xs in
    let front_is : length f ≡ first = omega (arith, front_long, within) in
    let r_is : length r ≡ count = omega (arith, run_long, drop_long, within) in
    let both_is : length (f ++ r) ≡ first + count = length-append f r ∙ sums (length f) (length r) first count front_is r_is in
    let taken : take (first + count) xs ≡ f ++ r =
    ap (take (first + count)) (in_three xs first count ∙ sym (append_assoc f r b)) ∙ take_at (f ++ r) b (first + count) both_is in
    let parts : rest ++ run ≡ (b ++ f) ++ r =
    sym popped ∙ turn ∙ ap (λ l. b ++ l) taken ∙ sym (append_assoc b f r) in
    let split = cut rest run (b ++ f) r parts (long ∙ sym r_is) in
    let b_is : length b ≡ back = back_long ∙ sym back_is in
    let joined_is : joined ≡ b ++ (f ++ fresh) = join ∙ ap (λ l. l ++ fresh) split.0 ∙ append_assoc b f fresh in
    record {
      items = again ∙ ap (λ l. drop back l ++ take back l) joined_is
          ∙ ap (λ l. l ++ take back (b ++ (f ++ fresh))) (drop_at b (f ++ fresh) back b_is)
          ∙ ap (λ l. (f ++ fresh) ++ l) (take_at b (f ++ fresh) back b_is) ∙ append_assoc f fresh b;
      gone = split.1;
    }
  where
    sums : (a b c d : ℕ) → a ≡ c → b ≡ d → a + b ≡ c + d
    sums a b c d p q = omega (arith, p, q)
