-- Lists whose elements change one by one, from the last to the first.
use Rattle.std.proofs.Common.{◌≡◌, ℕ, ◌<◌, ◌≤◌, List, [], ◌∷◌, ◌++◌, length, Some, refl, sym, ap, ◌∙◌, subst, inl, inr, arith, set}
use Rattle.std.specs.Prelude.{slice_get}
use Rattle.std.proofs.lemmas.Bool.{cases_eq}
use Rattle.std.proofs.lemmas.List.{length-append, length-set}
use Rattle.std.proofs.lemmas.Option.{slice_get_within}
use Rattle.fabric.specs.CloseBuffers.{ChangeEach}
use Rattle.fabric.proofs.ListElements.{same_element, slice_get-left, slice_get-seam, slice_get-set, slice_get-set_other}

module _ {A B : Type 0} (how : A → B → B → Type 0) where
  -- of all others these are left: what stands at their places is as it was, and what stands later has changed
  pub record AreLeft (all left : List A) (old new : List B) : Type 0 where
    pub short : length left ≤ length all
    pub many : length new ≡ length old
    pub front : (k : ℕ) → k < length left → slice_get all k ≡ slice_get left k
    pub before : (k : ℕ) → k < length left → slice_get new k ≡ slice_get old k
    pub after : (k : ℕ) (a : A) (o n : B) → length left ≤ k → slice_get all k ≡ Some a → slice_get old k ≡ Some o → slice_get new k ≡ Some n → how a o n

  pub AreLeft-none : (all left : List A) (old new : List B) → left ≡ [] → AreLeft all left old new → ChangeEach how all old new
  AreLeft-none all left old new none are = record {
    many = are.many;
    each = λ k a o n there was at. let long = ap length none in are.after k a o n (omega (arith, long)) there was at;
  }

  -- the last of those that are left changes what stands at its place
  pub AreLeft-pop : (all was left : List A) (a : A) (old new : List B) (p q : B) → AreLeft all was old new → was ≡ left ++ a ∷ [] → slice_get new (length left) ≡ Some p → how a p q
      → AreLeft all left old (set new (length left) q)
  AreLeft-pop all was left a old new p q are is at changed =
      let long = ap length is ∙ length-append left (a ∷ []) in
      let within = slice_get_within new (length left) p at in
      let short = are.short in
      let here = slice_get-set new (length left) q within in
      record {
        short = omega (arith, short, long);
        many = length-set new (length left) q ∙ are.many;
        front = λ k l. are.front k (omega (arith, l, long)) ∙ (ap (λ l. slice_get l k) is ∙ slice_get-left left (a ∷ []) k l);
        before = λ k l.
            let other : k ≡ length left → ⊥ = λ same. omega (arith, same, l) in
            slice_get-set_other new (length left) q k other ∙ are.before k (omega (arith, l, long));
        after = λ k b o n past there was_at is_at.
            elim (cases_eq k (length left)) [
              | inl same ↦ (
                  let first : slice_get (set new (length left) q) (length left) ≡ Some n = ap (slice_get (set new (length left) q)) (sym same) ∙ is_at in
                  let q_is : q ≡ n = same_element _ _ q n here refl first in
                  let p_is : p ≡ o = same_element _ _ p o at (ap (slice_get new) (sym same) ∙ are.before k (omega (arith, same, long))) was_at in
                  let a_is : a ≡ b =
                  same_element _ _ a b (slice_get-seam left a [])
                  (ap (λ l. slice_get l (length left)) (sym is) ∙ (sym (are.front (length left) (omega (arith, long))) ∙ ap (slice_get all) (sym same))) there in
                  let moved = subst (λ x. how x p q) a_is changed in
                  subst (λ y. how b o y) q_is (subst (λ x. how b x q) p_is moved)
                  )
              | inr other ↦ are.after k b o n (omega (arith, past, other, long)) there was_at (sym (slice_get-set_other new (length left) q k other) ∙ is_at)
            ];
      }
