-- The lines of entries, as a loop reads them.
use Rattle.std.proofs.Common.{◌≡◌, ℕ, zero, suc, ◌+◌, ◌-◌, ◌<◌, ◌≤◌, true, List, [], ◌∷◌, ◌++◌, length, replicate, refl, sym, ap, ap₂, ◌∙◌, subst, arith, append_assoc, append-nil, length-append}
use Rattle.std.specs.List.{AllByRecursion}
use Rattle.std.proofs.lemmas.List.{length-replicate}
use Rattle.report_reader.specs.Lines.{lacks}
use Rattle.report_reader.proofs.Parted.{all_push}
use Rattle.report_blocks.specs.Blocks.{AreEntries, all_lines}
use Rattle.report_blocks.specs.Fronts.{Begins, IsRead, Stops}
use Rattle.report_blocks.specs.declared.stop.Stop.{Stop}
use Rattle.report_blocks.proofs.FrontLemmas.{GoesOn, HasPart, IsInside, within}

module _ {E : Type 0} where
  -- a line is told by the text that begins with it, and so is what follows it
  abbrev pub TellLines : (E → Type 0) → (E → List ℕ) → Type 0
  TellLines Is line = (e f : E) (rest more : List ℕ) → Is e → Is f → line e ++ rest ≡ line f ++ more → (e ≡ f) × (rest ≡ more)

  pub all_copies : (Is : E → Type 0) (n : ℕ) (e : E) → Is e → AllByRecursion Is (replicate n e)
  all_copies Is zero e is = tt
  all_copies Is (suc n) e is = (is, all_copies Is n e is)

  pub all_both : (Is : E → Type 0) (xs ys : List E) → AllByRecursion Is xs → AllByRecursion Is ys → AllByRecursion Is (xs ++ ys)
  all_both Is [] ys a b = b
  all_both Is (x ∷ xs) ys a b = (a.0, all_both Is xs ys a.1 b)

  pub all_lines-append : (line : E → List ℕ) (xs ys : List E) → all_lines line (xs ++ ys) ≡ all_lines line xs ++ all_lines line ys
  all_lines-append line [] ys = refl
  all_lines-append line (x ∷ xs) ys = ap (λ (t : List ℕ). line x ++ t) (all_lines-append line xs ys) ∙ sym (append_assoc (line x) (all_lines line xs) (all_lines line ys))

  pub all_lines-push : (line : E → List ℕ) (xs : List E) (e : E) → all_lines line (xs ++ e ∷ []) ≡ all_lines line xs ++ line e
  all_lines-push line xs e = all_lines-append line xs (e ∷ []) ∙ ap (λ (t : List ℕ). all_lines line xs ++ t) (append-nil (line e))

  lines_part : (Is : E → Type 0) (line : E → List ℕ) → TellLines Is line → (done es : List E) (r more : List ℕ) → AllByRecursion Is done → AllByRecursion Is es → length done < length es
      → all_lines line es ++ r ≡ all_lines line done ++ more → IsInside Is line (all_lines line done) (all_lines line es)
  lines_part Is line told [] [] r more are all within h = absurd (omega (arith, within))
  lines_part Is line told [] (e ∷ es) r more are all within h = record { value = e; fits = all.0; after = all_lines line es; is = refl }
  lines_part Is line told (d ∷ ds) [] r more are all within h = absurd (omega (arith, within))
  lines_part Is line told (d ∷ ds) (e ∷ es) r more are all within h =
      let first = told e d (all_lines line es ++ r) (all_lines line ds ++ more) all.0 are.0 (sym (append_assoc (line e) (all_lines line es) r) ∙ h ∙ append_assoc (line d) (all_lines line ds) more) in
      let i = lines_part Is line told ds es r more are.1 all.1 (omega (arith, within)) first.1 in
      record {
        value = i.value;
        fits = i.fits;
        after = i.after;
        is = ap₂ (λ (a b : List ℕ). a ++ b) (ap line first.0) i.is ∙ sym (append_assoc (line d) (all_lines line ds) (line i.value ++ i.after));
      }

  lines_on : (Is : E → Type 0) (line : E → List ℕ) (n : ℕ) (done : List E) → AllByRecursion Is done → length done < n → GoesOn Is line (AreEntries n Is) (all_lines line) (all_lines line done)
  lines_on Is line n done are few e fit =
      let copies = replicate (n - suc (length done)) e in
      record {
        value = done ++ e ∷ copies;
        fits = (
          all_both Is done (e ∷ copies) are (fit, all_copies Is (n - suc (length done)) e fit),
          omega (arith, few, length-append done (e ∷ copies), length-replicate (n - suc (length done)) e),
        );
        more = all_lines line copies;
        is = all_lines-append line done (e ∷ copies) ∙ sym (append_assoc (all_lines line done) (line e) (all_lines line copies));
      }

  -- what was read, when fewer entries than n were
  pub record AreSome (Is : E → Type 0) (line : E → List ℕ) (n : ℕ) (text : List ℕ) (done : List E) (rest : List ℕ) : Type 0 where
    pub are : AllByRecursion Is done
    pub most : length done ≤ n
    pub is : text ≡ all_lines line done ++ rest

  pub lines_stop : (Is : E → Type 0) (line : E → List ℕ) → TellLines Is line → (n : ℕ) (text : List ℕ) (done : List E) (rest : List ℕ) (s : Stop) → AreSome Is line n text done rest → length done < n
      → Stops Is line rest s → Stops (AreEntries n Is) (all_lines line) text s
  lines_stop Is line told n text done rest s h few stops =
      within Is line (AreEntries n Is) (all_lines line) (all_lines line done) text rest s h.is
      (λ es fits r more is. lines_part Is line told done es r more h.are fits.0 (subst (λ (m : ℕ). length done < m) (sym fits.1) few) is)
      (lines_on Is line n done h.are few) stops

  pub lines_step : (Is : E → Type 0) (line : E → List ℕ) (n : ℕ) (text : List ℕ) (done : List E) (rest : List ℕ) (e : E) (after : List ℕ) → AreSome Is line n text done rest → length done < n
      → IsRead Is line rest e after → AreSome Is line n text (done ++ e ∷ []) after
  lines_step Is line n text done rest e after h few read = record {
    are = all_push Is done e h.are read.fits;
    most = omega (arith, few, length-append done (e ∷ []));
    is = h.is ∙ ap (λ (t : List ℕ). all_lines line done ++ t) read.is ∙ sym (append_assoc (all_lines line done) (line e) after)
        ∙ ap (λ (t : List ℕ). t ++ after) (sym (all_lines-push line done e));
  }

  pub lines_end : (Is : E → Type 0) (line : E → List ℕ) (n : ℕ) (text : List ℕ) (done : List E) (rest : List ℕ) → AreSome Is line n text done rest → n ≤ length done
      → IsRead (AreEntries n Is) (all_lines line) text done rest
  lines_end Is line n text done rest h all = record { fits = (h.are, omega (arith, h.most, all)); is = h.is }

  pub lines_start : (Is : E → Type 0) (line : E → List ℕ) (n : ℕ) (text : List ℕ) → AreSome Is line n text [] text
  lines_start Is line n text = record { are = tt; most = omega arith; is = refl }
