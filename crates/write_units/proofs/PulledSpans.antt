-- The groups at hand after a pull are those that its part needs.
use Rattle.std.proofs.Common.{◌≡◌, ℕ, ◌+◌, Bool, true, false, List, [], ◌∷◌, ◌++◌, map, Option, None, Some, append_assoc, append-nil, refl, sym, ap, ◌∙◌}
use Rattle.std.proofs.lemmas.Bool.{cond-false, cond-true}
use Rattle.std.proofs.lemmas.List.{map-append}
use Rattle.board.specs.declared.board_view.View.{View}
use Rattle.domains.specs.Shape.{Shape}
use Rattle.domains.specs.declared.group.Group.{Group}
use Rattle.flex_io.specs.declared.raw_place.RawPlace.{RawPlace}
use Rattle.file_history.specs.Layout.{Unit_}
use Rattle.file_history.specs.Live.{Part, write}
use Rattle.striped_groups.specs.StoredGroups.{GroupSlots}
use Rattle.pulled_groups.specs.Pulls.{AreAllPulled, ArePulled, IsPulledIf, IsRootPulled}
use Rattle.file_heads.specs.Parts.{is_last, needs}
use Rattle.pulled_groups.specs.declared.pull_groups.PulledGroup.{PulledGroup}
use Rattle.write_units.specs.GroupUnits.{pulled_spans}
use Rattle.write_units.specs.Spans.{Span, spans_with}

same_last : {A B : Type 0} (f : A → B) (xs : List A) → is_last (map f xs) ≡ is_last xs
same_last f [] = refl
same_last f (x ∷ xs) = refl

abbrev span_at : ℕ → Group → Span
span_at start g = record { start = start; count = g.n }

module _ {S : Type 0} (place_of : S → RawPlace) (content : S → Option (List ℕ)) (len_of reads : S → ℕ) (shape : Shape) (view : View) (dead : List Unit_) (size : ℕ) (part : Part) where
  abbrev groups_in : List (GroupSlots S) → List Group
  groups_in xs = map (λ (x : GroupSlots S). x.group) xs

  one_pulled : (x y : GroupSlots S) (xs : List (GroupSlots S)) (start : ℕ) (was mid : List PulledGroup) (b : Bool) → needs shape.unit size part start x.group (is_last xs) ≡ b
      → IsPulledIf place_of content len_of reads b shape view dead start x y was mid
      → pulled_spans mid ++ spans_with (groups_in xs) (start + x.group.n) (needs shape.unit size part)
      ≡ pulled_spans was ++ spans_with (groups_in (x ∷ xs)) start (needs shape.unit size part)
  one_pulled x y xs start was mid true needed pulled =
      let here : needs shape.unit size part start x.group (is_last (groups_in xs)) ≡ true = ap (needs shape.unit size part start x.group) (same_last (λ (z : GroupSlots S). z.group) xs) ∙ needed in
      let more = spans_with (groups_in xs) (start + x.group.n) (needs shape.unit size part) in
      let span : pulled_spans (pulled.0 ∷ []) ≡ span_at start x.group ∷ [] = λ i. record { start = pulled.1.start_is i; count = (pulled.1.group i).n } ∷ [] in
      ap (λ (ps : List PulledGroup). pulled_spans ps ++ more) pulled.2
      ∙ ap (λ (ss : List Span). ss ++ more) (map-append (λ (p : PulledGroup). record { start = p.start; count = p.group.n }) was (pulled.0 ∷ []) ∙ ap (λ (ss : List Span). pulled_spans was ++ ss) span)
      ∙ append_assoc (pulled_spans was) (span_at start x.group ∷ []) more
      ∙ ap (λ (ss : List Span). pulled_spans was ++ ss) (sym (cond-true (needs shape.unit size part start x.group (is_last (groups_in xs))) (span_at start x.group ∷ more) more here))
  one_pulled x y xs start was mid false needed pulled =
      let here : needs shape.unit size part start x.group (is_last (groups_in xs)) ≡ false = ap (needs shape.unit size part start x.group) (same_last (λ (z : GroupSlots S). z.group) xs) ∙ needed in
      let more = spans_with (groups_in xs) (start + x.group.n) (needs shape.unit size part) in
      ap (λ (ps : List PulledGroup). pulled_spans ps ++ more) pulled.1
      ∙ ap (λ (ss : List Span). pulled_spans was ++ ss) (sym (cond-false (needs shape.unit size part start x.group (is_last (groups_in xs))) (span_at start x.group ∷ more) more here))

  pulled_from : (xs ys : List (GroupSlots S)) (start : ℕ) (was done : List PulledGroup) → ArePulled place_of content len_of reads xs ys start shape view dead size part was done
      → pulled_spans done ≡ pulled_spans was ++ spans_with (groups_in xs) start (needs shape.unit size part)
  pulled_from [] [] start was done are = ap pulled_spans are ∙ sym (append-nil (pulled_spans was))
  pulled_from [] (y ∷ ys) start was done are = absurd are
  pulled_from (x ∷ xs) [] start was done are = absurd are
  pulled_from (x ∷ xs) (y ∷ ys) start was done are =
      pulled_from xs ys (start + x.group.n) are.0 done are.2
      ∙ one_pulled x y xs start was are.0 _ refl are.1

-- of a write they are those of the map that it needs
pub written_spans : {S : Type 0} (place_of : S → RawPlace) (content : S → Option (List ℕ)) (len_of reads : S → ℕ) (shape : Shape) (view : View) (dead : List Unit_) (size offset len width : ℕ)
    (old_root new_root : Option (GroupSlots S)) (old new : List (GroupSlots S)) (groups : List PulledGroup)
    → AreAllPulled place_of content len_of reads shape view dead size (write offset len width) old_root new_root old new groups
    → pulled_spans groups ≡ spans_with (map (λ (x : GroupSlots S). x.group) old) 0 (needs shape.unit size (write offset len width))
written_spans {S = S} place_of content len_of reads shape view dead size offset len width old_root new_root old new groups are =
    pulled_from place_of content len_of reads shape view dead size (write offset len width) old new 0 are.begun groups are.map
    ∙ ap (λ (ps : List PulledGroup). pulled_spans ps ++ spans_with (map (λ (x : GroupSlots _). x.group) old) 0 (needs shape.unit size (write offset len width))) (none old_root new_root are.begun are.root)
  where
    none : (x y : Option (GroupSlots S)) (begun : List PulledGroup) → IsRootPulled place_of content len_of reads x y shape view dead (write offset len width) begun → begun ≡ []
    none None y begun is = absurd is
    none (Some x) None begun is = absurd is
    none (Some x) (Some y) begun is = is.2
