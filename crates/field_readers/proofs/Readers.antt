-- Readers and what they take: what is read is spelled so and fits, and what fits is read again as it is spelled.
use Rattle.std.proofs.Common.{◌≡◌, ℕ, zero, suc, ◌+◌, ◌^◌, ◌<◌, ◌≤◌, inl, inr, Bool, true, false, cond, ◌&&◌, List, [], ◌∷◌, ◌++◌, length, get_or, take, drop, Result, Ok, Err, refl, sym, ap, subst, ◌∙◌, append_assoc, arith, ltb as nat_lt, leb as nat_le}
use Rattle.std.specs.Int.{Width, w16, w32, w64, byte_len, from_be_bytes, to_be_bytes}
use Rattle.std.proofs.lemmas.Bool.{cases_lt, ltb-false, le-ltb}
use Rattle.std.proofs.lemmas.Bool.Decides.{nat_tests}
use Rattle.std.proofs.lemmas.List.{take_at, drop_at, take-append-drop, length-append, length-take, get_or-drop, get_or-take, get_or_past}
use Rattle.std.proofs.lemmas.Nat.{be_bytes_2, be_bytes_4, be_bytes_8, from_be_bytes-to_be_bytes_2, from_be_bytes-to_be_bytes_4, from_be_bytes-to_be_bytes_8}
use Rattle.field_readers.specs.declared.fault.Broken.{Broken}
use Rattle.field_readers.specs.declared.fault.Broken.TheVariants.{Ends}
use Rattle.field_readers.specs.declared.fault.ReadFault.{ReadFault}
use Rattle.field_readers.specs.declared.fault.ReadFault.TheVariants as fault
use Rattle.field_readers.specs.FieldReaders.{◌>>=◌, Fails, Reader, both, broken, byte, checked, each, within, word}

abbrev pub IsBytes : List ℕ → Type 0
IsBytes bytes = (i : ℕ) → get_or bytes i 0 < 256

IsBytes-drop : (n : ℕ) (bytes : List ℕ) → IsBytes bytes → IsBytes (drop n bytes)
IsBytes-drop n bytes h i = rw get_or-drop (h (n + i))

IsBytes-take : (n : ℕ) (bytes : List ℕ) → IsBytes bytes → IsBytes (take n bytes)
IsBytes-take n bytes h i =
    elim (cases_lt i n) [
      | inl lt ↦ rw (get_or-take n bytes i 0 lt) (h i)
      | inr le ↦ rw (get_or_past (take n bytes) i 0 (omega (arith, length-take n bytes))) (omega arith)
    ]

-- the value of a step that did not fail
pub bind_ok : {W A B : Type 0} (r : Result A (Broken W)) (f : A → Result B (Broken W)) (y : B) → (r >>= f) ≡ Ok y → (x : A) × (r ≡ Ok x) × (f x ≡ Ok y)
bind_ok (Ok x) f y e = (x, refl, e)
bind_ok (Err d) f y e = absurd cc

abbrev pub done : {W A : Type 0} → A → Result A (Broken W)
done x = Ok x

pub ok_is : {W A : Type 0} (x y : A) → done {W = W} x ≡ done y → x ≡ y
ok_is x y e = cc

-- the value of a test that was passed
pub test_ok : {W A : Type 0} (t : Bool) (d : Broken W) (x y : A) → cond t (done x) (Err d) ≡ done y → (t ≡ true) × (x ≡ y)
test_ok true d x y e = (refl, ok_is x y e)
test_ok false d x y e = absurd cc

-- what a reader took from the front
pub record Takes (bytes text rest : List ℕ) : Type 0 where
  pub parts : bytes ≡ text ++ rest
  pub rest_fits : IsBytes rest

Takes-then : (a x b y c : List ℕ) → Takes a x b → Takes b y c → Takes a (x ++ y) c
Takes-then a x b y c p q = record { parts = p.parts ∙ ap (λ (t : List ℕ). x ++ t) q.parts ∙ sym (append_assoc x y c); rest_fits = q.rest_fits }

pub record IsReader {W A : Type 0} (read : Reader W A) (text : A → List ℕ) (Fits : A → Type 0) : Type 0 where
  pub fits : (bytes : List ℕ) (x : A × List ℕ) → read bytes ≡ Ok x → Fits x.0
  pub takes : (bytes : List ℕ) (x : A × List ℕ) → IsBytes bytes → read bytes ≡ Ok x → Takes bytes (text x.0) x.1
  pub again : (a : A) (rest : List ℕ) → Fits a → read (text a ++ rest) ≡ Ok (a, rest)

-- the number is from the lowest up to below the end
abbrev pub IsWithin : ℕ → ℕ → ℕ → Type 0
IsWithin low end n = (low ≤ n) × (n < end)

within_test : (low end n : ℕ) → nat_le low n && nat_lt n end ≡ true → IsWithin low end n
within_test low end n test = (grind (arith, nat_tests), grind (arith, nat_tests))

test_within : (low end n : ℕ) → IsWithin low end n → nat_le low n && nat_lt n end ≡ true
test_within low end n h = let least : low ≤ n = h.0 in let most : n < end = h.1 in grind (arith, nat_tests)

within_ok : {W : Type 0} (what : W) (low end : ℕ) (bytes : List ℕ) (n x : ℕ × List ℕ) → within what low end bytes n ≡ Ok x → IsWithin low end n.0 × (n ≡ x)
within_ok what low end bytes n x e =
    elim (nat_le low n.0 && nat_lt n.0 end) as (λ t. nat_le low n.0 && nat_lt n.0 end ≡ t → cond t (done n) (Err (broken what bytes)) ≡ Ok x → IsWithin low end n.0 × (n ≡ x)) [
      | true ↦ λ test ok. (within_test low end n.0 test, ok_is n x ok)
      | false ↦ λ _ no. absurd cc
    ] refl e

within_again : {W : Type 0} (what : W) (low end : ℕ) (bytes : List ℕ) (n : ℕ × List ℕ) → IsWithin low end n.0 → within what low end bytes n ≡ Ok n
within_again what low end bytes n h = ap (λ t. cond t (done n) (Err (broken what bytes))) (test_within low end n.0 h)

pub byte_reader : {W : Type 0} (what : W) (low end : ℕ) → IsReader (byte what low end) (λ n. n ∷ []) (IsWithin low end)
byte_reader what low end = record { fits = fit; takes = taken; again = λ n rest h. within_again what low end (n ∷ rest) (n, rest) h }
  where
    fit : (bytes : List ℕ) (x : ℕ × List ℕ) → byte what low end bytes ≡ Ok x → IsWithin low end x.0
    fit [] x e = absurd cc
    fit (b ∷ rest) x e = let h = within_ok what low end (b ∷ rest) (b, rest) x e in subst (λ (y : ℕ × List ℕ). IsWithin low end y.0) h.1 h.0

    taken : (bytes : List ℕ) (x : ℕ × List ℕ) → IsBytes bytes → byte what low end bytes ≡ Ok x → Takes bytes (x.0 ∷ []) x.1
    taken [] x are e = absurd cc
    taken (b ∷ rest) x are e =
        let h = within_ok what low end (b ∷ rest) (b, rest) x e in
        subst (λ (y : ℕ × List ℕ). Takes (b ∷ rest) (y.0 ∷ []) y.1) h.1 (record { parts = refl; rest_fits = λ i. are (suc i) })

pub record IsWide (w : Width) (limit : ℕ) : Type 0 where
  pub len : (n : ℕ) → length (to_be_bytes w n) ≡ byte_len w
  pub back : (bytes : List ℕ) → length bytes ≡ byte_len w → IsBytes bytes → to_be_bytes w (from_be_bytes w bytes) ≡ bytes
  pub again : (n : ℕ) → n < limit → from_be_bytes w (to_be_bytes w n) ≡ n

pub wide16 : IsWide w16 (2 ^ 16)
wide16 = record { len = λ n. refl; back = λ bytes len are. be_bytes_2 bytes _ len are refl; again = λ n lt. from_be_bytes-to_be_bytes_2 n lt }

pub wide32 : IsWide w32 (2 ^ 32)
wide32 = record { len = λ n. refl; back = λ bytes len are. be_bytes_4 bytes _ len are refl; again = λ n lt. from_be_bytes-to_be_bytes_4 n lt }

pub wide64 : IsWide w64 (2 ^ 64)
wide64 = record { len = λ n. refl; back = λ bytes len are. be_bytes_8 bytes _ len are refl; again = λ n lt. from_be_bytes-to_be_bytes_8 n lt }

pub word_reader : {W : Type 0} (w : Width) (limit : ℕ) → IsWide w limit → (what : W) (low end : ℕ) → end ≤ limit → IsReader (word w what low end) (to_be_bytes w) (IsWithin low end)
word_reader w limit wide what low end few = record { fits = λ bytes x e. (whole bytes x e).1; takes = taken; again = read_again }
  where
    value : List ℕ → ℕ × List ℕ
    value bytes = (from_be_bytes w (take (byte_len w) bytes), drop (byte_len w) bytes)

    whole : (bytes : List ℕ) (x : ℕ × List ℕ) → word w what low end bytes ≡ Ok x
        → (byte_len w ≤ length bytes) × IsWithin low end x.0 × (from_be_bytes w (take (byte_len w) bytes) ≡ x.0) × (drop (byte_len w) bytes ≡ x.1)
    whole bytes x e =
        elim (nat_lt (length bytes) (byte_len w)) as (λ t. nat_lt (length bytes) (byte_len w) ≡ t
        → cond t (Err Ends) (within what low end bytes (from_be_bytes w (take (byte_len w) bytes), drop (byte_len w) bytes)) ≡ Ok x
        → (byte_len w ≤ length bytes) × IsWithin low end x.0 × (from_be_bytes w (take (byte_len w) bytes) ≡ x.0) × (drop (byte_len w) bytes ≡ x.1)) [
          | true ↦ λ _ no. absurd cc
          | false ↦ λ long ok.
              let h = within_ok what low end bytes (from_be_bytes w (take (byte_len w) bytes), drop (byte_len w) bytes) x ok in
              (ltb-false _ _ long, subst (λ (y : ℕ × List ℕ). IsWithin low end y.0) h.1 h.0, ap (λ (y : ℕ × List ℕ). y.0) h.1, ap (λ (y : ℕ × List ℕ). y.1) h.1)
        ] refl e

    taken : (bytes : List ℕ) (x : ℕ × List ℕ) → IsBytes bytes → word w what low end bytes ≡ Ok x → Takes bytes (to_be_bytes w x.0) x.1
    taken bytes x are e =
        let h = whole bytes x e in
        let long : byte_len w ≤ length bytes = h.0 in
        let front : to_be_bytes w x.0 ≡ take (byte_len w) bytes =
        subst (λ (n : ℕ). to_be_bytes w n ≡ take (byte_len w) bytes) h.2 (wide.back (take (byte_len w) bytes) (omega (arith, length-take (byte_len w) bytes)) (IsBytes-take (byte_len w) bytes are)) in
        record {
          parts = sym (take-append-drop (byte_len w) bytes) ∙ ap (λ (t : List ℕ). t ++ drop (byte_len w) bytes) (sym front) ∙ ap (λ (t : List ℕ). to_be_bytes w x.0 ++ t) h.3;
          rest_fits = subst IsBytes h.3 (IsBytes-drop (byte_len w) bytes are);
        }

    read_again : (n : ℕ) (rest : List ℕ) → IsWithin low end n → word w what low end (to_be_bytes w n ++ rest) ≡ Ok (n, rest)
    read_again n rest h =
        let below : n < end = h.1 in
        let len = wide.len n in
        let long : nat_lt (length (to_be_bytes w n ++ rest)) (byte_len w) ≡ false = le-ltb _ _ (omega (arith, length-append (to_be_bytes w n) rest)) in
        rw (long, take_at (to_be_bytes w n) rest (byte_len w) len, drop_at (to_be_bytes w n) rest (byte_len w) len, wide.again n (omega arith))
        (within_again what low end (to_be_bytes w n ++ rest) (n, rest) h)

module _ {W A : Type 0} where
  pub checked_reader : (what : W) (passes : A → Bool) (r : Reader W A) (text : A → List ℕ) (F : A → Type 0)
      → IsReader r text F → IsReader (checked what passes r) text (λ a. F a × (passes a ≡ true))
  checked_reader what passes r text F reader = record { fits = fit; takes = taken; again = read_again }
    where
      parts : (bytes : List ℕ) (x : A × List ℕ) → checked what passes r bytes ≡ Ok x → (r bytes ≡ Ok x) × (passes x.0 ≡ true)
      parts bytes x e =
          let a = bind_ok (r bytes) (λ y. cond (passes y.0) (done y) (Err (broken what bytes))) x e in
          let g = test_ok (passes a.0.0) (broken what bytes) a.0 x a.2 in
          (subst (λ (y : A × List ℕ). r bytes ≡ Ok y) g.1 a.1, subst (λ (y : A × List ℕ). passes y.0 ≡ true) g.1 g.0)

      fit : (bytes : List ℕ) (x : A × List ℕ) → checked what passes r bytes ≡ Ok x → F x.0 × (passes x.0 ≡ true)
      fit bytes x e = let p = parts bytes x e in (reader.fits bytes x p.0, p.1)

      taken : (bytes : List ℕ) (x : A × List ℕ) → IsBytes bytes → checked what passes r bytes ≡ Ok x → Takes bytes (text x.0) x.1
      taken bytes x are e = reader.takes bytes x are (parts bytes x e).0

      read_again : (a : A) (rest : List ℕ) → F a × (passes a ≡ true) → checked what passes r (text a ++ rest) ≡ Ok (a, rest)
      read_again a rest h = rw (reader.again a rest h.0, h.1) refl

  -- what a reader of the code answers, that reads a value and then tests it
  pub checked_fails : (what : W) (passes : A → Bool) (r : Reader W A) (bytes : List ℕ) (e : ReadFault W) → Fails e (r bytes) → Fails e (checked what passes r bytes)
  checked_fails what passes r bytes fault.Memory h = tt
  checked_fails what passes r bytes (fault.Broken b) h = rw h refl

  pub checked_refused : (what : W) (passes : A → Bool) (r : Reader W A) (bytes : List ℕ) (a : A × List ℕ) → r bytes ≡ Ok a → passes a.0 ≡ false → checked what passes r bytes ≡ Err (broken what bytes)
  checked_refused what passes r bytes a read refused = rw (read, refused) refl

  pub checked_passed : (what : W) (passes : A → Bool) (r : Reader W A) (bytes : List ℕ) (a : A × List ℕ) → r bytes ≡ Ok a → passes a.0 ≡ true → checked what passes r bytes ≡ Ok a
  checked_passed what passes r bytes a read passed = rw (read, passed) refl

module _ {W A B : Type 0} where
  pub both_reader : (r : Reader W A) (s : A → List ℕ) (F : A → Type 0) (q : A → Reader W B) (t : A → B → List ℕ) (G : A → B → Type 0)
      → IsReader r s F → ((a : A) → F a → IsReader (q a) (t a) (G a)) → IsReader (both r q) (λ p. s p.0 ++ t p.0 p.1) (λ p. F p.0 × G p.0 p.1)
  both_reader r s F q t G first second = record { fits = fit; takes = taken; again = read_again }
    where
      fit : (bytes : List ℕ) (x : (A × B) × List ℕ) → both r q bytes ≡ Ok x → F x.0.0 × G x.0.0 x.0.1
      fit bytes x e =
          let a = bind_ok (r bytes) (λ y. q y.0 y.1 >>= λ z. Ok ((y.0, z.0), z.1)) x e in
          let b = bind_ok (q a.0.0 a.0.1) (λ z. Ok ((a.0.0, z.0), z.1)) x a.2 in
          let here = first.fits bytes a.0 a.1 in
          let made : (A × B) × List ℕ = ((a.0.0, b.0.0), b.0.1) in
          subst (λ (y : (A × B) × List ℕ). F y.0.0 × G y.0.0 y.0.1) (ok_is made x b.2) (here, (second a.0.0 here).fits a.0.1 b.0 b.1)

      taken : (bytes : List ℕ) (x : (A × B) × List ℕ) → IsBytes bytes → both r q bytes ≡ Ok x → Takes bytes (s x.0.0 ++ t x.0.0 x.0.1) x.1
      taken bytes x are e =
          let a = bind_ok (r bytes) (λ y. q y.0 y.1 >>= λ z. Ok ((y.0, z.0), z.1)) x e in
          let b = bind_ok (q a.0.0 a.0.1) (λ z. Ok ((a.0.0, z.0), z.1)) x a.2 in
          let here = first.takes bytes a.0 are a.1 in
          let made : (A × B) × List ℕ = ((a.0.0, b.0.0), b.0.1) in
          let there = (second a.0.0 (first.fits bytes a.0 a.1)).takes a.0.1 b.0 here.rest_fits b.1 in
          subst (λ (y : (A × B) × List ℕ). Takes bytes (s y.0.0 ++ t y.0.0 y.0.1) y.1) (ok_is made x b.2) (Takes-then bytes (s a.0.0) a.0.1 (t a.0.0 b.0.0) b.0.1 here there)

      read_again : (p : A × B) (rest : List ℕ) → F p.0 × G p.0 p.1 → both r q ((s p.0 ++ t p.0 p.1) ++ rest) ≡ Ok (p, rest)
      read_again p rest h =
          ap (both r q) (append_assoc (s p.0) (t p.0 p.1) rest)
          ∙ ap (λ (y : Result (A × List ℕ) (Broken W)). y >>= λ a. q a.0 a.1 >>= λ b. Ok ((a.0, b.0), b.1)) (first.again p.0 (t p.0 p.1 ++ rest) h.0)
          ∙ ap (λ (y : Result (B × List ℕ) (Broken W)). y >>= λ b. Ok ((p.0, b.0), b.1)) ((second p.0 h.0).again p.1 rest h.1)

module _ {A : Type 0} where
  -- the texts of these, one behind the other
  abbrev pub texts : (A → List ℕ) → List A → List ℕ
  texts text [] = []
  texts text (a ∷ rest) = text a ++ texts text rest

module _ {S A : Type 0} where
  -- each fits behind those before it
  abbrev pub EachFits : (S → A → Type 0) → (S → A → S) → S → List A → Type 0
  EachFits Fits after s [] = Unit {0}
  EachFits Fits after s (a ∷ rest) = Fits s a × EachFits Fits after (after s a) rest

  abbrev pub AreSo : (S → A → Type 0) → (S → A → S) → ℕ → S → List A → Type 0
  AreSo Fits after n s made = (length made ≡ n) × EachFits Fits after s made

module _ {W S A : Type 0} where
  pub each_reader : (one : S → Reader W A) (after : S → A → S) (text : A → List ℕ) (Fits : S → A → Type 0)
      → ((s : S) → IsReader (one s) text (Fits s)) → (n : ℕ) (s : S) → IsReader (each one after n s) (texts text) (AreSo Fits after n s)
  each_reader one after text Fits reader n s = record { fits = fit n s; takes = taken n s; again = λ made rest h. read_again made n s rest h.0 h.1 }
    where
      fit : (n : ℕ) (s : S) (bytes : List ℕ) (x : List A × List ℕ) → each one after n s bytes ≡ Ok x → AreSo Fits after n s x.0
      fit zero s bytes x e = let made : List A × List ℕ = ([], bytes) in subst (λ (y : List A × List ℕ). AreSo Fits after 0 s y.0) (ok_is made x e) (refl, tt)
      fit (suc n) s bytes x e =
          let a = bind_ok (one s bytes) (λ y. each one after n (after s y.0) y.1 >>= λ z. Ok (y.0 ∷ z.0, z.1)) x e in
          let b = bind_ok (each one after n (after s a.0.0) a.0.1) (λ z. Ok (a.0.0 ∷ z.0, z.1)) x a.2 in
          let later = fit n (after s a.0.0) a.0.1 b.0 b.1 in
          let made : List A × List ℕ = (a.0.0 ∷ b.0.0, b.0.1) in
          subst (λ (y : List A × List ℕ). AreSo Fits after (suc n) s y.0) (ok_is made x b.2) (ap suc later.0, ((reader s).fits bytes a.0 a.1, later.1))

      taken : (n : ℕ) (s : S) (bytes : List ℕ) (x : List A × List ℕ) → IsBytes bytes → each one after n s bytes ≡ Ok x → Takes bytes (texts text x.0) x.1
      taken zero s bytes x are e =
          let made : List A × List ℕ = ([], bytes) in
          subst (λ (y : List A × List ℕ). Takes bytes (texts text y.0) y.1) (ok_is made x e) (record { parts = refl; rest_fits = are })
      taken (suc n) s bytes x are e =
          let a = bind_ok (one s bytes) (λ y. each one after n (after s y.0) y.1 >>= λ z. Ok (y.0 ∷ z.0, z.1)) x e in
          let b = bind_ok (each one after n (after s a.0.0) a.0.1) (λ z. Ok (a.0.0 ∷ z.0, z.1)) x a.2 in
          let here = (reader s).takes bytes a.0 are a.1 in
          let later = taken n (after s a.0.0) a.0.1 b.0 here.rest_fits b.1 in
          let made : List A × List ℕ = (a.0.0 ∷ b.0.0, b.0.1) in
          subst (λ (y : List A × List ℕ). Takes bytes (texts text y.0) y.1) (ok_is made x b.2) (Takes-then bytes (text a.0.0) a.0.1 (texts text b.0.0) b.0.1 here later)

      read_again : (made : List A) (n : ℕ) (s : S) (rest : List ℕ) → length made ≡ n → EachFits Fits after s made → each one after n s (texts text made ++ rest) ≡ Ok (made, rest)
      read_again [] zero s rest len h = refl
      read_again [] (suc n) s rest len h = absurd (omega arith)
      read_again (a ∷ more) zero s rest len h = absurd (omega arith)
      read_again (a ∷ more) (suc n) s rest len h =
          ap (each one after (suc n) s) (append_assoc (text a) (texts text more) rest)
          ∙ ap (λ (y : Result (A × List ℕ) (Broken W)). y >>= λ x. each one after n (after s x.0) x.1 >>= λ z. Ok (x.0 ∷ z.0, z.1)) ((reader s).again a (texts text more ++ rest) h.0)
          ∙ ap (λ (y : Result (List A × List ℕ) (Broken W)). y >>= λ z. Ok (a ∷ z.0, z.1)) (read_again more n (after s a) rest (omega arith) h.1)
