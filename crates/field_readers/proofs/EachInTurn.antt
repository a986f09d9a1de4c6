-- Values read one after the other, as a loop does.
use Rattle.std.proofs.Common.{◌≡◌, ℕ, suc, ◌-◌, ◌+◌, ◌≤◌, ◌<◌, List, [], ◌∷◌, ◌++◌, Result, Ok, Err, refl, sym, ap, ◌∙◌, append_assoc, arith}
use Rattle.std.proofs.lemmas.List.{append-nil}
use Rattle.field_readers.specs.declared.fault.Broken.{Broken}
use Rattle.field_readers.specs.declared.fault.ReadFault.{ReadFault}
use Rattle.field_readers.specs.declared.fault.ReadFault.TheVariants as fault
use Rattle.field_readers.specs.FieldReaders.{◌>>=◌, Fails, Reader, each}

module _ {W A : Type 0} where
  -- what was read before, and what is still read
  abbrev pub with_front : List A → Result (List A × List ℕ) (Broken W) → Result (List A × List ℕ) (Broken W)
  with_front front read = read >>= λ x. Ok (front ++ x.0, x.1)

  regroup : (front : List A) (a : A) (read : Result (List A × List ℕ) (Broken W)) → with_front front (read >>= λ x. Ok (a ∷ x.0, x.1)) ≡ with_front (front ++ a ∷ []) read
  regroup front a (Ok x) = ap (λ (made : List A). Ok (made, x.1)) (simp append_assoc)
  regroup front a (Err e) = refl

module _ {W S A : Type 0} where
  pub goes_on : (one : S → Reader W A) (after : S → A → S) (front : List A) (count i : ℕ) (s : S) (bytes : List ℕ) (a : A) (rest : List ℕ) (total : Result (List A × List ℕ) (Broken W))
      → i < count → one s bytes ≡ Ok (a, rest) → with_front front (each one after (count - i) s bytes) ≡ total
      → with_front (front ++ a ∷ []) (each one after (count - (i + 1)) (after s a) rest) ≡ total
  goes_on one after front count i s bytes a rest total lt read so_far =
      let k : count - i ≡ suc (count - (i + 1)) = omega arith in
      let one_step : with_front front (each one after (count - i) s bytes) ≡ with_front (front ++ a ∷ []) (each one after (count - (i + 1)) (after s a) rest) =
      rw (k, read) (regroup front a (each one after (count - (i + 1)) (after s a) rest)) in
      sym one_step ∙ so_far

  pub ends : (one : S → Reader W A) (after : S → A → S) (e : ReadFault W) (front : List A) (count i : ℕ) (s : S) (bytes : List ℕ) (total : Result (List A × List ℕ) (Broken W))
      → i < count → Fails e (one s bytes) → with_front front (each one after (count - i) s bytes) ≡ total → Fails e total
  ends one after fault.Memory front count i s bytes total lt failed so_far = tt
  ends one after (fault.Broken b) front count i s bytes total lt failed so_far =
      let k : count - i ≡ suc (count - (i + 1)) = omega arith in
      let one_step : with_front front (each one after (count - i) s bytes) ≡ Err b = rw (k, failed) refl in
      sym so_far ∙ one_step

  pub is_done : (one : S → Reader W A) (after : S → A → S) (front : List A) (count i : ℕ) (s : S) (bytes : List ℕ) (total : Result (List A × List ℕ) (Broken W))
      → count ≤ i → with_front front (each one after (count - i) s bytes) ≡ total → total ≡ Ok (front, bytes)
  is_done one after front count i s bytes total le so_far =
      let k : count - i ≡ 0 = omega arith in
      let one_step : with_front front (each one after (count - i) s bytes) ≡ Ok (front, bytes) = rw k (ap (λ (made : List A). Ok (made, bytes)) (append-nil front)) in
      sym so_far ∙ one_step
