-- Lemmas of the tests: numbers that are written one after another.
use Rattle.std.proofs.Common.{◌≡◌, ℕ, zero, suc, ◌+◌, ◌%◌, ◌^◌, ◌<◌, ◌≤◌, List, [], ◌∷◌, ◌++◌, map, replicate, refl, sym, ap, ◌∙◌, subst, arith, add-one}
use Rattle.std.proofs.Math.Nat.{mod-eq_of_lt}
use Rattle.std.specs.List.{All, range_with_len}
use Rattle.std.specs.Prelude.{slice_index}
use Rattle.turn_cell.specs.declared.chronicle.Note.{Note}
use Rattle.turn_cell.specs.Notes.{entries_by}
use Rattle.turn_cell.proofs.NoteLemmas.{All-cons}

pub zeros_at : (n k : ℕ) → slice_index (replicate n 0) k ≡ 0
zeros_at zero k = refl
zeros_at (suc n) zero = refl
zeros_at (suc n) (suc k) = zeros_at n k

pub range_more : (a n : ℕ) → range_with_len a (suc n) ≡ range_with_len a n ++ (a + n) ∷ []
range_more a zero = let e : a ≡ a + 0 = omega arith in ap (λ (x : ℕ). x ∷ []) e
range_more a (suc n) = let e : a + 1 + n ≡ a + suc n = omega arith in ap (λ l. a ∷ l) (range_more (a + 1) n ∙ ap (λ (x : ℕ). range_with_len (a + 1) n ++ x ∷ []) e)

-- what a seat has written once it writes the next number
pub next_written : (seat seat' done : ℕ) (old new : List (Note ℕ)) → seat' ≡ seat → entries_by seat' new ≡ entries_by seat' old ++ (done + 1) ∷ [] → entries_by seat old ≡ range_with_len 1 done → entries_by seat new ≡ range_with_len 1 (done + 1)
next_written seat seat' done old new same added was =
    let count : 1 + done ≡ done + 1 = omega arith in
    let is = subst (λ (k : ℕ). entries_by k new ≡ entries_by k old ++ (done + 1) ∷ []) same added in
    let more : range_with_len 1 (done + 1) ≡ range_with_len 1 done ++ (1 + done) ∷ [] = subst (λ (n : ℕ). range_with_len 1 n ≡ range_with_len 1 done ++ (1 + done) ∷ []) (sym (add-one done)) (range_more 1 done) in
    is ∙ (ap (λ l. l ++ (done + 1) ∷ []) was ∙ sym (more ∙ ap (λ (x : ℕ). range_with_len 1 done ++ x ∷ []) count))

-- what it has counted
pub next_counted : (seat seat' done most : ℕ) (old new : List ℕ) → done < most → most < 2 ^ 32 → seat' ≡ seat → slice_index new seat' ≡ (slice_index old seat' + 1) % 2 ^ 64 → slice_index old seat ≡ done → slice_index new seat ≡ done + 1
next_counted seat seat' done most old new lt few same added was =
    let is = subst (λ (k : ℕ). slice_index new k ≡ (slice_index old k + 1) % 2 ^ 64) same added in
    let next : slice_index new seat ≡ (done + 1) % 2 ^ 64 = is ∙ ap (λ (n : ℕ). (n + 1) % 2 ^ 64) was in
    next ∙ mod-eq_of_lt (omega arith)

-- notes of the numbers from a on, n of them, have numbers below a + n
pub small_entries : (a n most : ℕ) (notes : List (Note ℕ)) → a + n ≤ most + 1 → map (λ note. note.entry) notes ≡ range_with_len a n → All (λ note. note.entry ≤ most) notes
small_entries a n most [] fits e = λ k d l. absurd (omega arith)
small_entries a zero most (note ∷ notes) fits e = absurd (cc)
small_entries a (suc n) most (note ∷ notes) fits e =
    let front : note.entry ≡ a = cc in
    let rest : map (λ note. note.entry) notes ≡ range_with_len (a + 1) n = cc in
    All-cons (λ note. note.entry ≤ most) note notes (omega arith) (small_entries (a + 1) n most notes (omega arith) rest)
