-- The places of a changed map.
use Rattle.std.proofs.Common.{◌≡◌, ℕ, ◌+◌, Bool, true, false, ◌&&◌, ◌||◌, ◌==◌, List, [], ◌∷◌, ◌++◌, take, drop, refl, sym, ap, subst, ◌∙◌, arith, append_assoc, append-nil}
use Rattle.std.specs.List.{AllByRecursion, list_any}
use Rattle.std.proofs.lemmas.Bool.{true≢false}
use Rattle.domains.specs.Place.{Place, same_place}
use Rattle.domains.specs.declared.group.Group.{Group}
use Rattle.file_history.specs.Layout.{all_groups, group_list, places_of}
use Rattle.file_history.specs.Step.{AreDistinct}
use Rattle.map_changes.specs.ChangedMaps.{spliced}
use Rattle.map_changes.specs.Laws.{ChangedPlacesDiffer}
use Rattle.map_changes.proofs.Pairs.{All-append, Cross, Cross-turned, Pairs, Pairs-append, Pairs-cross, Pairs-left, Pairs-right, All-left, All-right}
use Rattle.map_changes.proofs.SplicedLists.{in_three}

-- the places differ
abbrev Apart : Place → Place → Type 0
Apart s t = same_place s t ≡ false

pairs : (ss : List Place) → AreDistinct ss → Pairs ss Apart
pairs [] distinct = tt
pairs (s ∷ ss) distinct = (distinct.0, pairs ss distinct.1)

distinct_pairs : (ss : List Place) → Pairs ss Apart → AreDistinct ss
distinct_pairs [] all = tt
distinct_pairs (s ∷ ss) all = (all.0, distinct_pairs ss all.1)

same_numbers : (a b : ℕ) → (a == b) ≡ (b == a)
same_numbers a b = grind arith

same_turned : (s t : Place) → same_place s t ≡ same_place t s
same_turned s t =
    ap (λ (x : Bool × Bool × Bool). (x.0 && x.1) && x.2)
    (λ i. (same_numbers s.drive.node t.drive.node i, same_numbers s.drive.drive t.drive.drive i, same_numbers s.slot t.slot i))

turned : (s t : Place) → Apart s t → Apart t s
turned s t apart = same_turned t s ∙ apart

-- a place that is not taken is apart from all that are
pub apart_all : (s : Place) (ss : List Place) → list_any (same_place s) ss ≡ false → AllByRecursion (Apart s) ss
apart_all s [] none = tt
apart_all s (t ∷ ss) none = let both = none_of (same_place s t) (list_any (same_place s) ss) none in (both.0, apart_all s ss both.1)
  where
    none_of : (a b : Bool) → (a || b) ≡ false → (a ≡ false) × (b ≡ false)
    none_of true b is = absurd (true≢false is)
    none_of false b is = (refl, is)

all_apart : (ss olds : List Place) → AllByRecursion (λ (s : Place). list_any (same_place s) olds ≡ false) ss → Cross ss olds Apart
all_apart [] olds all = tt
all_apart (s ∷ ss) olds all = (apart_all s olds all.0, all_apart ss olds all.1)

pub places_of-append : (gs hs : List Group) → places_of (gs ++ hs) ≡ places_of gs ++ places_of hs
places_of-append [] hs = refl
places_of-append (g ∷ gs) hs = ap (λ (l : List Place). g.places ++ l) (places_of-append gs hs) ∙ sym (append_assoc g.places (places_of gs) (places_of hs))

pub places_of-spliced : (gs : List Group) (first count : ℕ) (new : List Group)
    → places_of (spliced gs first count new) ≡ places_of (take first gs) ++ (places_of new ++ places_of (drop (first + count) gs))
places_of-spliced gs first count new =
    places_of-append (take first gs) (new ++ drop (first + count) gs)
    ∙ ap (λ (l : List Place). places_of (take first gs) ++ l) (places_of-append new (drop (first + count) gs))

-- what stays of old places is apart from new ones that are apart from all old ones
rejoined : (a b c d n i : List Place) → Pairs ((a ++ (b ++ c)) ++ d) Apart → Pairs (n ++ i) Apart → Cross (n ++ i) ((a ++ (b ++ c)) ++ d) Apart
    → Pairs ((a ++ (n ++ c)) ++ i) Apart
rejoined a b c d n i old new free =
    let abc = Pairs-left (a ++ (b ++ c)) d Apart old in
    let bc = Pairs-right a (b ++ c) Apart abc in
    let pc = Pairs-right b c Apart bc in
    let ac = cross_right a b c (Pairs-cross a (b ++ c) Apart abc) in
    let of_n = Cross-left n i ((a ++ (b ++ c)) ++ d) free in
    let of_i = Cross-right n i ((a ++ (b ++ c)) ++ d) free in
    let n_abc = cross_left n (a ++ (b ++ c)) d of_n in
    let i_abc = cross_left i (a ++ (b ++ c)) d of_i in
    let a_n = Cross-turned n a Apart Apart turned (cross_left n a (b ++ c) n_abc) in
    let n_c = cross_right n b c (cross_right n a (b ++ c) n_abc) in
    let i_a = cross_left i a (b ++ c) i_abc in
    let i_c = cross_right i b c (cross_right i a (b ++ c) i_abc) in
    let nc = Pairs-append n c Apart (Pairs-left n i Apart new) pc n_c in
    let anc = Pairs-append a (n ++ c) Apart (Pairs-left a (b ++ c) Apart abc) nc (cross_both a n c a_n ac) in
    Pairs-append (a ++ (n ++ c)) i Apart anc (Pairs-right n i Apart new)
    (cross_append a (n ++ c) i (Cross-turned i a Apart Apart turned i_a)
    (cross_append n c i (Pairs-cross n i Apart new) (Cross-turned i c Apart Apart turned i_c)))
  where
    cross_left : (xs ys zs : List Place) → Cross xs (ys ++ zs) Apart → Cross xs ys Apart
    cross_left [] ys zs all = tt
    cross_left (x ∷ xs) ys zs all = (All-left (Apart x) ys zs all.0, cross_left xs ys zs all.1)

    cross_right : (xs ys zs : List Place) → Cross xs (ys ++ zs) Apart → Cross xs zs Apart
    cross_right [] ys zs all = tt
    cross_right (x ∷ xs) ys zs all = (All-right (Apart x) ys zs all.0, cross_right xs ys zs all.1)

    cross_both : (xs ys zs : List Place) → Cross xs ys Apart → Cross xs zs Apart → Cross xs (ys ++ zs) Apart
    cross_both [] ys zs one other = tt
    cross_both (x ∷ xs) ys zs one other = (both ys zs x one.0 other.0, cross_both xs ys zs one.1 other.1)
      where
        both : (ys zs : List Place) (x : Place) → AllByRecursion (Apart x) ys → AllByRecursion (Apart x) zs → AllByRecursion (Apart x) (ys ++ zs)
        both [] zs x front back = back
        both (y ∷ ys) zs x front back = (front.0, both ys zs x front.1 back)

    cross_append : (xs ys zs : List Place) → Cross xs zs Apart → Cross ys zs Apart → Cross (xs ++ ys) zs Apart
    cross_append [] ys zs front back = back
    cross_append (x ∷ xs) ys zs front back = (front.0, cross_append xs ys zs front.1 back)

    Cross-left : (xs ys zs : List Place) → Cross (xs ++ ys) zs Apart → Cross xs zs Apart
    Cross-left [] ys zs all = tt
    Cross-left (x ∷ xs) ys zs all = (all.0, Cross-left xs ys zs all.1)

    Cross-right : (xs ys zs : List Place) → Cross (xs ++ ys) zs Apart → Cross ys zs Apart
    Cross-right [] ys zs all = all
    Cross-right (x ∷ xs) ys zs all = Cross-right xs ys zs all.1

pub changed_places_differ : ChangedPlacesDiffer
changed_places_differ l first count new inode old free =
    let gs : List Group = l.groups in
    let a : List Place = places_of (take first gs) in
    let b : List Place = places_of (take count (drop first gs)) in
    let c : List Place = places_of (drop (first + count) gs) in
    let d : List Place = places_of (group_list l.inode) in
    let all_old : places_of (all_groups l) ≡ (a ++ (b ++ c)) ++ d =
    places_of-append gs (group_list l.inode)
    ∙ ap (λ (x : List Place). x ++ d)
    (ap places_of (in_three gs first count) ∙ places_of-append (take first gs) (take count (drop first gs) ++ drop (first + count) gs)
    ∙ ap (λ (x : List Place). a ++ x) (places_of-append (take count (drop first gs)) (drop (first + count) gs))) in
    let all_new : places_of (spliced gs first count new ++ inode ∷ []) ≡ (a ++ (places_of new ++ c)) ++ inode.places =
    places_of-append (spliced gs first count new) (inode ∷ [])
    ∙ ap (λ (x : List Place × List Place). x.0 ++ x.1) (λ i. (places_of-spliced gs first count new i, append-nil inode.places i)) in
    subst AreDistinct (sym all_new)
    (distinct_pairs ((a ++ (places_of new ++ c)) ++ inode.places)
    (rejoined a b c d (places_of new) inode.places
    (subst (λ (x : List Place). Pairs x Apart) all_old (pairs (places_of (all_groups l)) old))
    (pairs (places_of new ++ inode.places) free.distinct)
    (subst (λ (x : List Place). Cross (places_of new ++ inode.places) x Apart) all_old (all_apart (places_of new ++ inode.places) (places_of (all_groups l)) free.free))))

-- what holds of each place of each group holds of all places
pub All-places : (P : Place → Type 0) (gs : List Group) → AllByRecursion (λ (g : Group). AllByRecursion P g.places) gs → AllByRecursion P (places_of gs)
All-places P [] all = tt
All-places P (g ∷ gs) all = All-append P g.places (places_of gs) all.0 (All-places P gs all.1)

pub All-of-places : (P : Place → Type 0) (gs : List Group) → AllByRecursion P (places_of gs) → AllByRecursion (λ (g : Group). AllByRecursion P g.places) gs
All-of-places P [] all = tt
All-of-places P (g ∷ gs) all = (All-left P g.places (places_of gs) all, All-of-places P gs (All-right P g.places (places_of gs) all))
