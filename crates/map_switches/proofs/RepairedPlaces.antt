-- The places of a map in which one group is repaired.
use Rattle.std.proofs.Common.{◌≡◌, ℕ, ◌+◌, false, List, [], ◌∷◌, ◌++◌, take, drop, sym, ap, subst, ◌∙◌, append-nil}
use Rattle.std.specs.List.{AllByRecursion, list_any}
use Rattle.domains.specs.Place.{Place, same_place}
use Rattle.domains.proofs.DriveLemmas.{same_place-sym}
use Rattle.domains.specs.declared.group.Group.{Group}
use Rattle.file_history.specs.Layout.{Layout, all_groups, group_list, places_of}
use Rattle.file_history.specs.Step.{AreDistinct}
use Rattle.map_changes.specs.ChangedMaps.{AreFree, spliced}
use Rattle.map_changes.proofs.Pairs.{All-append, All-left, All-right, All-then, Cross, Cross-turned, Pairs, Pairs-append, Pairs-cross, Pairs-left, Pairs-right}
use Rattle.map_changes.proofs.ChangedPlaces.{apart_all, places_of-append, places_of-spliced}
use Rattle.map_changes.proofs.SplicedLists.{in_three}
use Rattle.map_switches.specs.declared.change.FreshUnit.{FreshUnit}
use Rattle.map_switches.specs.declared.change.FreshUnit.TheVariants.{Kept, New}
use Rattle.map_switches.specs.RepairedUnits.{added_places, places_with}

abbrev Apart : Place → Place → Type 0
Apart s t = same_place s t ≡ false

turned : (s t : Place) → Apart s t → Apart t s
turned s t apart = same_place-sym t s ∙ apart

pairs : (ss : List Place) → AreDistinct ss → Pairs ss Apart
pairs [] distinct = tt
pairs (s ∷ ss) distinct = (distinct.0, pairs ss distinct.1)

distinct_pairs : (ss : List Place) → Pairs ss Apart → AreDistinct ss
distinct_pairs [] all = tt
distinct_pairs (s ∷ ss) all = (all.0, distinct_pairs ss all.1)

all_apart : (ss olds : List Place) → AllByRecursion (λ (s : Place). list_any (same_place s) olds ≡ false) ss → Cross ss olds Apart
all_apart [] olds all = tt
all_apart (s ∷ ss) olds all = (apart_all s olds all.0, all_apart ss olds all.1)

-- each of the first is apart from a part of the second
to_left : (xs ys zs : List Place) → Cross xs (ys ++ zs) Apart → Cross xs ys Apart
to_left xs ys zs all = All-then (λ x. AllByRecursion (Apart x) (ys ++ zs)) (λ x. AllByRecursion (Apart x) ys) xs (λ x here. All-left (Apart x) ys zs here) all

to_right : (xs ys zs : List Place) → Cross xs (ys ++ zs) Apart → Cross xs zs Apart
to_right xs ys zs all = All-then (λ x. AllByRecursion (Apart x) (ys ++ zs)) (λ x. AllByRecursion (Apart x) zs) xs (λ x here. All-right (Apart x) ys zs here) all

to_both : (xs ys zs : List Place) → Cross xs ys Apart → Cross xs zs Apart → Cross xs (ys ++ zs) Apart
to_both [] ys zs one other = tt
to_both (x ∷ xs) ys zs one other = (All-append (Apart x) ys zs one.0 other.0, to_both xs ys zs one.1 other.1)

over : (xs ys : List Place) → Cross xs ys Apart → Cross ys xs Apart
over xs ys all = Cross-turned xs ys Apart Apart turned all

-- four lists of places, all apart
in_four : (a w c i : List Place) → Pairs a Apart → Pairs w Apart → Pairs c Apart → Pairs i Apart → Cross a w Apart → Cross a c Apart → Cross w c Apart
    → Cross a i Apart → Cross w i Apart → Cross c i Apart → Pairs ((a ++ (w ++ c)) ++ i) Apart
in_four a w c i of_a of_w of_c of_i aw ac wc ai wi ci =
    Pairs-append (a ++ (w ++ c)) i Apart
    (Pairs-append a (w ++ c) Apart of_a (Pairs-append w c Apart of_w of_c wc) (to_both a w c aw ac)) of_i
    (All-append (λ x. AllByRecursion (Apart x) i) a (w ++ c) ai (All-append (λ x. AllByRecursion (Apart x) i) w c wi ci))

module _ {S : Type 0} where
  -- what holds of the old places and of the new ones holds of the places of a repaired group
  pub All-with : (P : Place → Type 0) (ss : List Place) (us : List (FreshUnit S)) → AllByRecursion P ss → AllByRecursion P (added_places us) → AllByRecursion P (places_with ss us)
  All-with P [] us old new = tt
  All-with P (s ∷ ss) [] old new = old
  All-with P (s ∷ ss) (Kept generation position ∷ us) old new = (old.0, All-with P ss us old.1 new)
  All-with P (s ∷ ss) (New place slot ∷ us) old new = (new.0, All-with P ss us old.1 new.1)

  cross_with : (xs ss : List Place) (us : List (FreshUnit S)) → Cross xs ss Apart → Cross xs (added_places us) Apart → Cross xs (places_with ss us) Apart
  cross_with [] ss us old new = tt
  cross_with (x ∷ xs) ss us old new = (All-with (Apart x) ss us old.0 new.0, cross_with xs ss us old.1 new.1)

  pairs_with : (ss : List Place) (us : List (FreshUnit S)) → Pairs ss Apart → Pairs (added_places us) Apart → Cross ss (added_places us) Apart → Pairs (places_with ss us) Apart
  pairs_with [] us old new cross = tt
  pairs_with (s ∷ ss) [] old new cross = old
  pairs_with (s ∷ ss) (Kept generation position ∷ us) old new cross = (All-with (Apart s) ss us old.0 cross.0, pairs_with ss us old.1 new cross.1)
  pairs_with (s ∷ ss) (New place slot ∷ us) old new cross = (
    All-with (Apart place) ss us (over ss (place ∷ added_places us) cross.1).0 new.0,
    pairs_with ss us old.1 new.1 (to_right ss (place ∷ []) (added_places us) cross.1),
  )

  apart_with : (a b c d i : List Place) (us : List (FreshUnit S)) → Pairs ((a ++ (b ++ c)) ++ d) Apart → Pairs (added_places us ++ i) Apart
      → Cross (added_places us ++ i) ((a ++ (b ++ c)) ++ d) Apart → Pairs ((a ++ (places_with b us ++ c)) ++ i) Apart
  apart_with a b c d i us old new free =
      let n : List Place = added_places us in
      let abc = Pairs-left (a ++ (b ++ c)) d Apart old in
      let bc = Pairs-right a (b ++ c) Apart abc in
      let a_bc = Pairs-cross a (b ++ c) Apart abc in
      let b_c = Pairs-cross b c Apart bc in
      let n_abc = to_left n (a ++ (b ++ c)) d (All-left (λ x. AllByRecursion (Apart x) ((a ++ (b ++ c)) ++ d)) n i free) in
      let i_abc = to_left i (a ++ (b ++ c)) d (All-right (λ x. AllByRecursion (Apart x) ((a ++ (b ++ c)) ++ d)) n i free) in
      let n_bc = to_right n a (b ++ c) n_abc in
      let i_bc = to_right i a (b ++ c) i_abc in
      let i_c = to_right i b c i_bc in
      in_four a (places_with b us) c i (Pairs-left a (b ++ c) Apart abc)
      (pairs_with b us (Pairs-left b c Apart bc) (Pairs-left n i Apart new) (over n b (to_left n b c n_bc)))
      (Pairs-right b c Apart bc) (Pairs-right n i Apart new)
      (cross_with a b us (to_left a b c a_bc) (over n a (to_left n a (b ++ c) n_abc)))
      (to_right a b c a_bc)
      (over c (places_with b us) (cross_with c b us (over b c b_c) (over n c (to_right n b c n_bc))))
      (over i a (to_left i a (b ++ c) i_abc))
      (over i (places_with b us) (cross_with i b us (to_left i b c i_bc) (over n i (Pairs-cross n i Apart new))))
      (over i c i_c)

  -- no place of a map comes twice in which one group got new units at free places
  pub repaired_places_differ : (l : Layout) (first count : ℕ) (old new inode : Group) (us : List (FreshUnit S)) → take count (drop first l.groups) ≡ old ∷ []
      → new.places ≡ places_with old.places us → AreDistinct (places_of (all_groups l)) → AreFree l (added_places us ++ inode.places)
      → AreDistinct (places_of (spliced l.groups first count (new ∷ []) ++ inode ∷ []))
  repaired_places_differ l first count old new inode us run places distinct free =
      let gs : List Group = l.groups in
      let a : List Place = places_of (take first gs) in
      let c : List Place = places_of (drop (first + count) gs) in
      let d : List Place = places_of (group_list l.inode) in
      let all_old : places_of (all_groups l) ≡ (a ++ (old.places ++ c)) ++ d =
      places_of-append gs (group_list l.inode)
      ∙ ap (λ (x : List Place). x ++ d)
      (ap places_of (in_three gs first count) ∙ places_of-append (take first gs) (take count (drop first gs) ++ drop (first + count) gs)
      ∙ ap (λ (x : List Place). a ++ x)
      (places_of-append (take count (drop first gs)) (drop (first + count) gs)
      ∙ ap (λ (x : List Place). x ++ c) (ap places_of run ∙ append-nil old.places))) in
      let all_new : places_of (spliced gs first count (new ∷ []) ++ inode ∷ []) ≡ (a ++ (places_with old.places us ++ c)) ++ inode.places =
      places_of-append (spliced gs first count (new ∷ [])) (inode ∷ [])
      ∙ ap (λ (x : List Place × List Place). x.0 ++ x.1) (λ i. (places_of-spliced gs first count (new ∷ []) i, append-nil inode.places i))
      ∙ ap (λ (x : List Place). (a ++ (x ++ c)) ++ inode.places) (append-nil new.places ∙ places) in
      subst AreDistinct (sym all_new)
      (distinct_pairs ((a ++ (places_with old.places us ++ c)) ++ inode.places)
      (apart_with a old.places c d inode.places us
      (subst (λ (x : List Place). Pairs x Apart) all_old (pairs (places_of (all_groups l)) distinct))
      (pairs (added_places us ++ inode.places) free.distinct)
      (subst (λ (x : List Place). Cross (added_places us ++ inode.places) x Apart) all_old (all_apart (added_places us ++ inode.places) (places_of (all_groups l)) free.free))))
