-- Where a text stops: at a line, and within a larger text.
use Rattle.std.proofs.Common.{◌≡◌, ◌⊎◌, ℕ, true, List, [], ◌∷◌, ◌++◌, length, get_or, drop, refl, sym, ap, ap₂, ◌∙◌, inl, inr, append_assoc, append-nil}
use Rattle.std.proofs.lemmas.List.{append_cancel_left}
use Rattle.report_reader.specs.Lines.{lacks}
use Rattle.report_reader.proofs.LogsTold.{line_told}
use Rattle.report_blocks.specs.Fronts.{Begins, IsRead, Stops, StopsAt}
use Rattle.report_blocks.specs.declared.stop.Stop.{Stop}
use Rattle.report_blocks.specs.declared.stop.Stop.TheVariants as stop

-- the text begins with this front
pub record IsAhead (text front : List ℕ) : Type 0 where
  pub more : List ℕ
  pub is : text ≡ front ++ more

-- of two fronts of one text, one begins with the other
pub overlap : (p q r s : List ℕ) → p ++ q ≡ r ++ s → IsAhead p r ⊎ IsAhead r p
overlap p q [] s h = inl (record { more = p; is = refl })
overlap [] q (y ∷ r) s h = inr (record { more = y ∷ r; is = refl })
overlap (x ∷ p) q (y ∷ r) s h =
    let head : x ≡ y = ap (λ (l : List ℕ). get_or l 0 0) h in
    elim (overlap p q r s (ap (drop 1) h)) [
      | inl ahead ↦ inl (record { more = ahead.more; is = ap₂ (λ (n : ℕ) (l : List ℕ). n ∷ l) head ahead.is })
      | inr ahead ↦ inr (record { more = ahead.more; is = ap₂ (λ (n : ℕ) (l : List ℕ). n ∷ l) (sym head) ahead.is })
    ]

module _ {A : Type 0} where
  -- a text that does not begin with the line of a value stops at its first line
  pub no_line : (Fits : A → Type 0) (print body : A → List ℕ) → ((a : A) → print a ≡ body a ++ 10 ∷ []) → ((a : A) → Fits a → lacks 10 (body a) ≡ true) → (some : A) → Fits some → (text : List ℕ)
      → ((a : A) → Fits a → (rest : List ℕ) → text ≡ print a ++ rest → ⊥) → StopsAt Fits print text (length text)
  no_line Fits print body spelled clean some fit text none = record {
    front = [];
    tail = text;
    parts = refl;
    size = refl;
    begun = record { value = some; fits = fit; more = print some; is = refl };
    none = none;
    line = λ x y no_feed at a fits more is.
        let told = line_told (body a) x [] more (clean a fits) no_feed (sym (spelled a) ∙ is) in
        none a fits y (at ∙ ap (λ (t : List ℕ). t ++ 10 ∷ y) (sym told.0) ∙ sym (append_assoc (body a) (10 ∷ []) y) ∙ ap (λ (t : List ℕ). t ++ y) (sym (spelled a)));
  }

  -- the text has a part of this kind behind the head
  pub record IsInside (Fits : A → Type 0) (print : A → List ℕ) (head text : List ℕ) : Type 0 where
    pub value : A
    pub fits : Fits value
    pub after : List ℕ
    pub is : text ≡ head ++ (print value ++ after)

module _ {A B : Type 0} (Fits : A → Type 0) (print : A → List ℕ) (FitsWhole : B → Type 0) (whole : B → List ℕ) where
  -- a whole whose text begins with this head has a part behind it
  abbrev pub HasPart : List ℕ → Type 0
  HasPart head = (b : B) → FitsWhole b → (r more : List ℕ) → whole b ++ r ≡ head ++ more → IsInside Fits print head (whole b)

  -- each part stands behind the head in some whole
  abbrev pub GoesOn : List ℕ → Type 0
  GoesOn head = (a : A) → Fits a → Begins FitsWhole whole (head ++ print a)

  within_begun : (head front : List ℕ) → GoesOn head → Begins Fits print front → Begins FitsWhole whole (head ++ front)
  within_begun head front goes b =
      let on = goes b.value b.fits in
      record {
        value = on.value;
        fits = on.fits;
        more = b.more ++ on.more;
        is = on.is ∙ ap (λ (t : List ℕ). (head ++ t) ++ on.more) b.is ∙ simp append_assoc;
      }

  within_line : (text : List ℕ) (left : ℕ) (h : StopsAt Fits print text left) (x y : List ℕ) → lacks 10 x ≡ true → h.tail ≡ x ++ 10 ∷ y → (a : A) → Fits a → (after more : List ℕ)
      → print a ++ after ≡ h.front ++ (x ++ 10 ∷ more) → ⊥
  within_line text left h x y clean at a fits after more is =
      let one : print a ++ after ≡ (h.front ++ (x ++ 10 ∷ [])) ++ more = is ∙ simp append_assoc in
      elim (overlap (print a) after (h.front ++ (x ++ 10 ∷ [])) more one) [
        | inl ahead ↦ h.line x y clean at a fits ahead.more (ahead.is ∙ simp append_assoc)
        | inr ahead ↦
            let spelled : text ≡ (h.front ++ (x ++ 10 ∷ [])) ++ y = h.parts ∙ ap (λ (t : List ℕ). h.front ++ t) at ∙ simp append_assoc in
            h.none a fits (ahead.more ++ y) (spelled ∙ ap (λ (t : List ℕ). t ++ y) ahead.is ∙ append_assoc (print a) ahead.more y)
      ]

  within_at : (head text rest : List ℕ) (left : ℕ) → text ≡ head ++ rest → HasPart head → GoesOn head → StopsAt Fits print rest left → StopsAt FitsWhole whole text left
  within_at head text rest left spelled part goes h = record {
    front = head ++ h.front;
    tail = h.tail;
    parts = spelled ∙ ap (λ (t : List ℕ). head ++ t) h.parts ∙ sym (append_assoc head h.front h.tail);
    size = h.size;
    begun = within_begun head h.front goes h.begun;
    none = λ b fits r is.
        let i = part b fits r rest (sym is ∙ spelled) in
        h.none i.value i.fits (i.after ++ r)
        (append_cancel_left head rest (print i.value ++ (i.after ++ r)) (sym spelled ∙ is ∙ ap (λ (t : List ℕ). t ++ r) i.is ∙ simp append_assoc));
    line = λ x y clean at b fits more is.
        let i = part b fits [] (h.front ++ (x ++ 10 ∷ more)) (append-nil (whole b) ∙ is ∙ append_assoc head h.front (x ++ 10 ∷ more)) in
        within_line rest left h x y clean at i.value i.fits i.after more
        (append_cancel_left head (print i.value ++ i.after) (h.front ++ (x ++ 10 ∷ more)) (sym i.is ∙ is ∙ append_assoc head h.front (x ++ 10 ∷ more)));
  }

  -- a whole stops where its part behind the head does
  pub within : (head text rest : List ℕ) (s : Stop) → text ≡ head ++ rest → HasPart head → GoesOn head → Stops Fits print rest s → Stops FitsWhole whole text s
  within head text rest stop.NoMemory spelled part goes h = tt
  within head text rest (stop.At left) spelled part goes h = within_at head text rest left spelled part goes h
