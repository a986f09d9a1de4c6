-- The places of a file's units, and what stays there.
use Rattle.std.proofs.Common.{◌≡◌, ℕ, Bool, true, List, [], ◌∷◌, ◌++◌, Option, IfSome, sym, subst, append_assoc}
use Rattle.std.specs.List.{AllByRecursion, list_any}
use Rattle.std.proofs.lemmas.Bool.{or_left, or_right}
use Rattle.domains.specs.Place.{Place, same_place}
use Rattle.domains.specs.declared.group.Group.{Group}
use Rattle.domains.proofs.DriveLemmas.{same_place-self}
use Rattle.file_history.specs.Layout.{Layout, all_groups, is_taken, places_of}
use Rattle.file_history.specs.Stored.{AreHeld, HoldsGroup}
use Rattle.map_changes.proofs.ChangedPlaces.{places_of-append}
use Rattle.stored_laws.specs.WrittenUnits.{Contents}

any_right : (P : Place → Bool) (xs ys : List Place) → list_any P ys ≡ true → list_any P (xs ++ ys) ≡ true
any_right P [] ys any = any
any_right P (x ∷ xs) ys any = or_right (P x) (list_any P (xs ++ ys)) (any_right P xs ys any)

-- each of some places is among them
each_among : (front xs back : List Place) → AllByRecursion (λ (s : Place). list_any (same_place s) (front ++ (xs ++ back)) ≡ true) xs
each_among front [] back = tt
each_among front (x ∷ xs) back = (
  any_right (same_place x) front (x ∷ (xs ++ back)) (or_left (same_place x x) (list_any (same_place x) (xs ++ back)) (same_place-self x)),
  subst (λ (l : List Place). AllByRecursion (λ (s : Place). list_any (same_place s) l ≡ true) xs) (append_assoc front (x ∷ []) (xs ++ back))
      (each_among (front ++ x ∷ []) xs back),
)

groups_among : (front gs : List Group) → AllByRecursion (λ (g : Group). AllByRecursion (λ (s : Place). is_taken (front ++ gs) s ≡ true) g.places) gs
groups_among front [] = tt
groups_among front (g ∷ gs) = (
  subst (λ (l : List Place). AllByRecursion (λ (s : Place). list_any (same_place s) l ≡ true) g.places) (sym (places_of-append front (g ∷ gs)))
      (each_among (places_of front) g.places (places_of gs)),
  subst (λ (l : List Group). AllByRecursion (λ (h : Group). AllByRecursion (λ (s : Place). is_taken l s ≡ true) h.places) gs) (append_assoc front (g ∷ []) gs)
      (groups_among (front ++ g ∷ []) gs),
)

-- a unit of the layout stands at each place of its groups
pub all_taken : (l : Layout) → AllByRecursion (λ (g : Group). AllByRecursion (λ (s : Place). is_taken (all_groups l) s ≡ true) g.places) (all_groups l)
all_taken l = groups_among [] (all_groups l)

-- places that stay hold what they held
pub same_contents : (before after : Layout) (held later : Contents) (ss : List Place)
    → ((s : Place) → is_taken (all_groups before) s ≡ true → is_taken (all_groups after) s ≡ true → later s ≡ held s)
    → AllByRecursion (λ (s : Place). is_taken (all_groups before) s ≡ true) ss → AllByRecursion (λ (s : Place). is_taken (all_groups after) s ≡ true) ss
    → AllByRecursion (λ (s : Place). later s ≡ held s) ss
same_contents before after held later [] stay old new = tt
same_contents before after held later (s ∷ ss) stay old new = (stay s old.0 new.0, same_contents before after held later ss stay old.1 new.1)

held_places : (ss : List Place) (us : List (List ℕ)) (held later : Contents) → AllByRecursion (λ (s : Place). later s ≡ held s) ss → AreHeld ss us held → AreHeld ss us later
held_places [] [] held later same are = tt
held_places [] (u ∷ us) held later same are = absurd are
held_places (s ∷ ss) [] held later same are = absurd are
held_places (s ∷ ss) (u ∷ us) held later same are = (
  subst (λ (o : Option (List ℕ)). IfSome o (λ content. content ≡ u)) (sym same.0) are.0,
  held_places ss us held later same.1 are.1,
)

-- a group holds its bytes still
pub held_group : (held later : Contents) (unit : ℕ) (g : Group) (bytes : List ℕ) → AllByRecursion (λ (s : Place). later s ≡ held s) g.places
    → HoldsGroup held unit g bytes → HoldsGroup later unit g bytes
held_group held later unit g bytes same holds = record {
  units = holds.units;
  codeword = holds.codeword;
  lengths = holds.lengths;
  joined = holds.joined;
  places = held_places g.places holds.units held later same holds.places;
}

-- and places that spell a text do
pub spelled_places : (ss : List Place) (text : List ℕ) (held later : Contents) → AllByRecursion (λ (s : Place). later s ≡ held s) ss
    → AllByRecursion (λ (s : Place). IfSome (held s) (λ content. content ≡ text)) ss → AllByRecursion (λ (s : Place). IfSome (later s) (λ content. content ≡ text)) ss
spelled_places [] text held later same spell = tt
spelled_places (s ∷ ss) text held later same spell = (
  subst (λ (o : Option (List ℕ)). IfSome o (λ content. content ≡ text)) (sym same.0) spell.0,
  spelled_places ss text held later same.1 spell.1,
)
