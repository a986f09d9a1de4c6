-- A window on two lists that follow one another: a part of the first, and then a part of the second.
use Rattle.std.proofs.Common.{◌≡◌, ℕ, zero, suc, ◌+◌, ◌-◌, ◌<◌, ◌≤◌, min, ◌⊎◌, inl, inr, List, [], ◌++◌, length, take, drop, replicate, refl, sym, ap, ◌∙◌, arith, append-nil}
use Rattle.std.proofs.lemmas.List.{length-take, length-drop, take-append-drop, take-append-le, drop-append-le, take_all, drop-replicate, take-replicate}
use Rattle.std.proofs.Math.Seq.{take-append-add, take-append_seam, drop-append-add}

pub lt_or_ge : (i s : ℕ) → (i < s) ⊎ (s ≤ i)
lt_or_ge zero zero = inr (omega arith)
lt_or_ge zero (suc s) = inl (omega arith)
lt_or_ge (suc i) zero = inr (omega arith)
lt_or_ge (suc i) (suc s) = elim (lt_or_ge i s) [ inl h ↦ inl (omega (arith, h)) | inr h ↦ inr (omega (arith, h)) ]

-- the first of both lists, from its start
front : (xs ys : List ℕ) (left t : ℕ) → t ≡ min left (length xs) → (left < length xs) ⊎ (length xs ≤ left)
    → take left (xs ++ ys) ≡ take t xs ++ take (left - t) ys
front xs ys left t is (inl less) =
    let all : t ≡ left = omega (arith, is, less) in
    let none : left - t ≡ 0 = omega (arith, is, less) in
    take-append-le left xs ys (omega (arith, less)) ∙ sym (append-nil (take left xs))
    ∙ ap (λ (n : ℕ). take n xs ++ []) (sym all) ∙ ap (λ (n : ℕ). take t xs ++ take n ys) (sym none)
front xs ys left t is (inr more) =
    let all : t ≡ length xs = omega (arith, is, more) in
    let whole : left ≡ length xs + (left - t) = omega (arith, is, more) in
    ap (λ (n : ℕ). take n (xs ++ ys)) whole ∙ take-append-add xs ys (left - t)
    ∙ ap (λ (l : List ℕ). l ++ take (left - t) ys) (sym (take_all t xs (omega (arith, all))))

-- a window on both lists is a window on the first, and what is left of it on the second
pub window : (xs ys : List ℕ) (skip left k t : ℕ) → k ≡ min skip (length xs) → t ≡ min left (length xs - k)
    → take left (drop skip (xs ++ ys)) ≡ take t (drop k xs) ++ take (left - t) (drop (skip - k) ys)
window xs ys skip left k t k_is t_is = by_case (lt_or_ge skip (length xs))
  where
    by_case : (skip < length xs) ⊎ (length xs ≤ skip) → take left (drop skip (xs ++ ys)) ≡ take t (drop k xs) ++ take (left - t) (drop (skip - k) ys)
    by_case (inl less) =
        let same : k ≡ skip = omega (arith, k_is, less) in
        let none : skip - k ≡ 0 = omega (arith, k_is, less) in
        let long = length-drop k xs in
        ap (λ (n : ℕ). take left (drop n (xs ++ ys))) (sym same)
        ∙ ap (take left) (drop-append-le k xs ys (omega (arith, k_is)))
        ∙ front (drop k xs) ys left t (omega (arith, t_is, long)) (lt_or_ge left (length (drop k xs)))
        ∙ ap (λ (n : ℕ). take t (drop k xs) ++ take (left - t) (drop n ys)) (sym none)
    by_case (inr past) =
        let all : k ≡ length xs = omega (arith, k_is, past) in
        let none : t ≡ 0 = omega (arith, t_is, k_is, past) in
        let whole : skip ≡ length xs + (skip - k) = omega (arith, k_is, past) in
        ap (λ (n : ℕ). take left (drop n (xs ++ ys))) whole
        ∙ ap (take left) (drop-append-add xs ys (skip - k))
        ∙ ap (λ (n : ℕ). take n (drop (skip - k) ys)) (omega (arith, none))
        ∙ ap (λ (n : ℕ). take n (drop k xs) ++ take (left - t) (drop (skip - k) ys)) (sym none)

-- a part of zeros
pub zeros_part : (count k t : ℕ) → k + t ≤ count → take {A = ℕ} t (drop k (replicate count 0)) ≡ replicate t 0
zeros_part count k t within =
    ap (λ (l : List ℕ). take t l) (drop-replicate k count 0) ∙ take-replicate t (count - k) 0 (omega (arith, within))

-- a list that grows by zeros
pub grown : (xs : List ℕ) (n t : ℕ) → n ≡ length xs → take (n + t) xs ++ replicate {A = ℕ} (n + t - length xs) 0 ≡ xs ++ replicate t 0
grown xs n t is =
    ap (λ (l : List ℕ). l ++ replicate {A = ℕ} (n + t - length xs) 0) (take_all (n + t) xs (omega (arith, is)))
    ∙ ap (λ (k : ℕ). xs ++ replicate {A = ℕ} k 0) (omega (arith, is))

-- the front of a list, with zeros behind it
pub padded : (xs : List ℕ) (len : ℕ) → take len (take len xs) ++ replicate {A = ℕ} (len - length (take len xs)) 0 ≡ take len (xs ++ replicate len 0)
padded xs len =
    let long : length (take len xs) ≡ min len (length xs) = length-take len xs in
    let within : length (take len xs) ≤ len = omega (arith, long) in
    let whole = front xs (replicate len 0) len (length (take len xs)) long (lt_or_ge len (length xs)) in
    let zeros = take-replicate {X = ℕ} (len - length (take len xs)) len 0 (omega arith) in
    let same : take (length (take len xs)) xs ≡ take len xs =
    ap (λ (l : List ℕ). take (length (take len xs)) l) (sym (take-append-drop len xs)) ∙ take-append_seam (take len xs) (drop len xs) in
    ap (λ (l : List ℕ). l ++ replicate {A = ℕ} (len - length (take len xs)) 0) (take_all len (take len xs) within ∙ sym same)
    ∙ ap (λ (l : List ℕ). take (length (take len xs)) xs ++ l) (sym zeros) ∙ sym whole

none : (k l : ℕ) → take l (drop {A = ℕ} k []) ≡ []
none zero zero = refl
none zero (suc l) = refl
none (suc k) zero = refl
none (suc k) (suc l) = refl

-- what was taken of four sources that follow one another
pub four_sources : (b0 b1 b2 b3 b4 before zeros payload after : List ℕ) (start len k1 l1 k2 l2 k3 l3 k4 l4 : ℕ) → b0 ≡ []
    → b1 ++ take l1 (drop k1 (zeros ++ (payload ++ after))) ≡ b0 ++ take len (drop start (before ++ (zeros ++ (payload ++ after))))
    → b2 ++ take l2 (drop k2 (payload ++ after)) ≡ b1 ++ take l1 (drop k1 (zeros ++ (payload ++ after)))
    → b3 ++ take l3 (drop k3 after) ≡ b2 ++ take l2 (drop k2 (payload ++ after))
    → b4 ++ take l4 (drop k4 []) ≡ b3 ++ take l3 (drop k3 (after ++ []))
    → b4 ≡ take len (drop start (before ++ (zeros ++ (payload ++ after))))
four_sources b0 b1 b2 b3 b4 before zeros payload after start len k1 l1 k2 l2 k3 l3 k4 l4 empty first second third last =
    sym (append-nil b4) ∙ ap (λ (l : List ℕ). b4 ++ l) (sym (none k4 l4)) ∙ last
    ∙ ap (λ (l : List ℕ). b3 ++ take l3 (drop k3 l)) (append-nil after) ∙ third ∙ second ∙ first
    ∙ ap (λ (l : List ℕ). l ++ take len (drop start (before ++ (zeros ++ (payload ++ after))))) empty

pub same_padded : (items b4 xs : List ℕ) (len n : ℕ) → b4 ≡ take len xs → n ≡ length b4 → items ≡ take len b4 ++ replicate {A = ℕ} (len - n) 0
    → items ≡ take len (xs ++ replicate len 0)
same_padded items b4 xs len n all count is =
    is ∙ ap (λ (k : ℕ). take len b4 ++ replicate {A = ℕ} (len - k) 0) count
    ∙ ap (λ (l : List ℕ). take len l ++ replicate {A = ℕ} (len - length l) 0) all ∙ padded xs len
