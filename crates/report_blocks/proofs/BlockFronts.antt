-- A block: its count and its lines.
use Rattle.std.proofs.Common.{codes, ◌≡◌, ℕ, ◌<◌, ◌^◌, true, List, [], ◌∷◌, ◌++◌, length, replicate, refl, sym, ap, ◌∙◌, subst, append_assoc, append-nil}
use Rattle.std.specs.Fmt.{decimal}
use Rattle.std.specs.List.{AllByRecursion}
use Rattle.std.proofs.lemmas.List.{length-replicate}
use Rattle.report_reader.specs.Counts.{count_line}
use Rattle.report_reader.specs.Fits.{IsWide}
use Rattle.report_reader.proofs.LogsTold.{count_told, rest_told}
use Rattle.report_blocks.specs.Blocks.{AreEntries, IsLog, all_lines}
use Rattle.report_blocks.specs.Fronts.{Begins, IsRead, Stops}
use Rattle.report_blocks.specs.declared.stop.Stop.{Stop}
use Rattle.report_blocks.proofs.EntryLines.{all_copies}
use Rattle.report_blocks.proofs.FrontLemmas.{GoesOn, HasPart, IsInside, within}

spread : (h d t r : List ℕ) → ((h ++ (d ++ 10 ∷ [])) ++ t) ++ r ≡ h ++ (d ++ 10 ∷ (t ++ r))
spread h d t r = simp append_assoc

spread_one : (h d r : List ℕ) → (h ++ (d ++ 10 ∷ [])) ++ r ≡ h ++ (d ++ 10 ∷ r)
spread_one h d r = simp append_assoc

module _ {E : Type 0} where
  -- the block is its count behind a head, and its lines
  abbrev pub IsBlock : List ℕ → (E → List ℕ) → (List E → List ℕ) → Type 0
  IsBlock head line block = (es : List E) → block es ≡ count_line head (length es) ++ all_lines line es

  module _ (Is : E → Type 0) (line : E → List ℕ) (head : List ℕ) (block : List E → List ℕ) (spelled : IsBlock head line block) where
    count_part : HasPart IsWide (count_line head) (IsLog Is) block []
    count_part es fits r more h = record { value = length es; fits = fits.1; after = all_lines line es; is = spelled es }

    count_on : (some : E) → Is some → GoesOn IsWide (count_line head) (IsLog Is) block []
    count_on some fit n wide =
        let copies = replicate n some in
        let size : length copies ≡ n = length-replicate n some in
        record {
          value = copies;
          fits = (all_copies Is n some fit, subst IsWide (sym size) wide);
          more = all_lines line copies;
          is = spelled copies ∙ ap (λ (k : ℕ). count_line head k ++ all_lines line copies) size;
        }

    -- a block stops at its count
    pub count_stop : (some : E) → Is some → (text : List ℕ) (s : Stop) → Stops IsWide (count_line head) text s → Stops (IsLog Is) block text s
    count_stop some fit text s stops = within IsWide (count_line head) (IsLog Is) block [] text text s refl count_part (count_on some fit) stops

    block_told : (n : ℕ) → IsWide n → (es : List E) → IsLog Is es → (r more : List ℕ) → block es ++ r ≡ count_line head n ++ more → length es ≡ n
    block_told n wide es fits r more h =
        let whole : head ++ (decimal (length es) ++ 10 ∷ (all_lines line es ++ r)) ≡ head ++ (decimal n ++ 10 ∷ more) =
        sym (spread head (decimal (length es)) (all_lines line es) r) ∙ ap (λ (t : List ℕ). t ++ r) (sym (spelled es)) ∙ h ∙ spread_one head (decimal n) more in
        (count_told (length es) n (all_lines line es ++ r) more fits.1 wide (rest_told head (decimal (length es) ++ 10 ∷ (all_lines line es ++ r)) (decimal n ++ 10 ∷ more) whole)).0

    lines_part : (n : ℕ) → IsWide n → HasPart (AreEntries n Is) (all_lines line) (IsLog Is) block (count_line head n)
    lines_part n wide es fits r more h =
        let size : length es ≡ n = block_told n wide es fits r more h in
        record {
          value = es;
          fits = (fits.0, size);
          after = [];
          is = spelled es ∙ ap (λ (k : ℕ). count_line head k ++ all_lines line es) size ∙ ap (λ (t : List ℕ). count_line head n ++ t) (sym (append-nil (all_lines line es)));
        }

    lines_on : (n : ℕ) → IsWide n → GoesOn (AreEntries n Is) (all_lines line) (IsLog Is) block (count_line head n)
    lines_on n wide es fits = record {
      value = es;
      fits = (fits.0, subst IsWide (sym fits.1) wide);
      more = [];
      is = spelled es ∙ ap (λ (k : ℕ). count_line head k ++ all_lines line es) fits.1 ∙ sym (append-nil (count_line head n ++ all_lines line es));
    }

    -- a block stops at one of its lines
    pub lines_stop : (n : ℕ) (text rest : List ℕ) (s : Stop) → IsRead IsWide (count_line head) text n rest → Stops (AreEntries n Is) (all_lines line) rest s → Stops (IsLog Is) block text s
    lines_stop n text rest s count stops =
        within (AreEntries n Is) (all_lines line) (IsLog Is) block (count_line head n) text rest s count.is (lines_part n count.fits) (lines_on n count.fits) stops

    -- a block is read by its count and its lines
    pub block_read : (n : ℕ) (text rest : List ℕ) (es : List E) (after : List ℕ) → IsRead IsWide (count_line head) text n rest → IsRead (AreEntries n Is) (all_lines line) rest es after
        → IsRead (IsLog Is) block text es after
    block_read n text rest es after count lines = record {
      fits = (lines.fits.0, subst IsWide (sym lines.fits.1) count.fits);
      is = count.is ∙ ap (λ (t : List ℕ). count_line head n ++ t) lines.is ∙ sym (append_assoc (count_line head n) (all_lines line es) after)
          ∙ ap (λ (t : List ℕ). t ++ after) (ap (λ (k : ℕ). count_line head k ++ all_lines line es) (sym lines.fits.1) ∙ sym (spelled es));
    }
