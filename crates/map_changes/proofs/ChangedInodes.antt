-- The inode of a changed map.
use Rattle.std.proofs.Common.{◌≡◌, ℕ, zero, suc, ◌+◌, ◌-◌, ◌*◌, ◌/◌, ◌^◌, ◌<◌, ◌≤◌, ◌⊎◌, inl, inr, List, [], ◌∷◌, ◌++◌, length, map, take, drop, get_or, refl, ap, subst, ◌∙◌, arith, lit≤}
use Rattle.std.specs.List.{AllByRecursion}
use Rattle.std.proofs.lemmas.Nat.{div-add-mod', mod_below, mul-le}
use Rattle.std.proofs.lemmas.List.Sums.{sum_by-cons}
use Rattle.domains.specs.Place.{IsPlace}
use Rattle.domains.specs.Level.{Level, IsLevel, named_levels}
use Rattle.domains.specs.AtLevel.{AtLevel}
use Rattle.domains.specs.declared.group.Group.{Group}
use Rattle.inode_codec.specs.Inode.{AreGenerations, IsInodeGroup, data_units, units_for}
use Rattle.file_history.specs.Step.{AreNumbered}
use Rattle.map_changes.specs.ChangedMaps.{spliced}
use Rattle.map_changes.specs.Laws.{ChangedInodesAreSpelled}
use Rattle.map_changes.proofs.Pairs.{All-append, All-drop, All-take, Cross, Pairs, Pairs-append, Pairs-cross, Pairs-left, Pairs-right}
use Rattle.map_changes.proofs.SplicedLists.{All-spliced, in_three}

-- what holds of all elements holds of one
all_contains : {A : Type 0} (P : A → Type 0) (xs : List A) (k : ℕ) (x : A) → AllByRecursion P xs → k < length xs → get_or xs k x ≡ x → P x
all_contains P [] k x all below is = absurd (omega (arith, below))
all_contains P (y ∷ ys) zero x all below is = subst P is all.0
all_contains P (y ∷ ys) (suc k) x all below is = all_contains P ys k x all.1 (omega (arith, below)) is

-- the numbers of a level: at most 16 data units, 1 to 7 correction units, and at most 4 where it stripes
pub record HasNumbers (level : Level) : Type 0 where
  pub w : level.w ≤ 16
  pub some : 1 ≤ level.m
  pub few : level.m ≤ 7
  pub striped : (level.w ≡ 1) ⊎ (level.m ≤ 4)

stripes : (level : Level) → level.w ≤ 16 → 1 ≤ level.m → level.m ≤ 4 → HasNumbers level
stripes level w some few = record { w = w; some = some; few = omega (arith, few); striped = inr few }

mirrors : (level : Level) → level.w ≡ 1 → 1 ≤ level.m → level.m ≤ 7 → HasNumbers level
mirrors level w some few = record { w = omega (arith, w); some = some; few = few; striped = inl w }

pub level_numbers : (level : Level) → IsLevel level → HasNumbers level
level_numbers level is =
    all_contains HasNumbers (map (λ (named : Level × List ℕ). named.0) named_levels) is.0 level (stripes _ (lit≤ tt) (lit≤ tt) (lit≤ tt), (stripes _ (lit≤ tt) (lit≤ tt) (lit≤ tt), (stripes _ (lit≤ tt) (lit≤ tt) (lit≤ tt), (stripes _ (lit≤ tt) (lit≤ tt) (lit≤ tt), (stripes _ (lit≤ tt) (lit≤ tt) (lit≤ tt), (stripes _ (lit≤ tt) (lit≤ tt) (lit≤ tt), (stripes _ (lit≤ tt) (lit≤ tt) (lit≤ tt), (stripes _ (lit≤ tt) (lit≤ tt) (lit≤ tt), (stripes _ (lit≤ tt) (lit≤ tt) (lit≤ tt), (mirrors _ refl (lit≤ tt) (lit≤ tt), (mirrors _ refl (lit≤ tt) (lit≤ tt), (mirrors _ refl (lit≤ tt) (lit≤ tt), (mirrors _ refl (lit≤ tt) (lit≤ tt), (mirrors _ refl (lit≤ tt) (lit≤ tt), (mirrors _ refl (lit≤ tt) (lit≤ tt), (mirrors _ refl (lit≤ tt) (lit≤ tt), tt)))))))))))))))) is.1 is.2

-- a group at a level is within the limits of an inode
group_at_level : (g : Group) (level : Level) → HasNumbers level → AtLevel g level → AllByRecursion IsPlace g.places → g.generation < 2 ^ 32 → IsInodeGroup g
group_at_level g level numbers at places small =
    let m = at.corrected in
    let some = numbers.some in
    let few = numbers.few in
    let w = numbers.w in
    let narrow = at.narrow in record {
      generation = small;
      some_units = at.some;
      units = omega (arith, w, narrow);
      some_more = omega (arith, m, some);
      more = omega (arith, m, few);
      striped = λ wide. elim numbers.striped [
        | inl one ↦ absurd (omega (arith, one, narrow, wide))
        | inr four ↦ omega (arith, m, four)
      ];
      whole = at.whole;
      places = places;
      apart = at.apart;
    }

-- generations that count up are below a number
pub numbered_below : (next : ℕ) (gs : List Group) (inode : Group) (top : ℕ) → AreNumbered next gs inode → next + length gs < top
    → AllByRecursion (λ (g : Group). g.generation < top) gs
numbered_below next [] inode top are low = tt
numbered_below next (g ∷ gs) inode top are low =
    (let is = are.0 in omega (arith, is, low), numbered_below (next + 1) gs inode top are.1 (omega (arith, low)))

pub numbered_last : (next : ℕ) (gs : List Group) (inode : Group) → AreNumbered next gs inode → inode.generation ≡ next + length gs
numbered_last next [] inode are = are ∙ omega arith
numbered_last next (g ∷ gs) inode are = let rest = numbered_last (next + 1) gs inode are.1 in omega (arith, rest)

numbered_from : (next least : ℕ) (gs : List Group) (inode : Group) → AreNumbered next gs inode → least ≤ next
    → AllByRecursion (λ (g : Group). least ≤ g.generation) gs
numbered_from next least [] inode are low = tt
numbered_from next least (g ∷ gs) inode are low =
    (let is = are.0 in omega (arith, is, low), numbered_from (next + 1) least gs inode are.1 (omega (arith, low)))

-- the generations differ
abbrev Differ : Group → Group → Type 0
Differ g h = g.generation ≡ h.generation → ⊥

pairs : (gs : List Group) → AreGenerations gs → Pairs gs Differ
pairs [] differ = tt
pairs (g ∷ gs) differ = (differ.0, pairs gs differ.1)

differing : (gs : List Group) → Pairs gs Differ → AreGenerations gs
differing [] all = tt
differing (g ∷ gs) all = (all.0, differing gs all.1)

below_from : (g : Group) (hs : List Group) (next : ℕ) → g.generation < next → AllByRecursion (λ (h : Group). next ≤ h.generation) hs → AllByRecursion (Differ g) hs
below_from g [] next low all = tt
below_from g (h ∷ hs) next low all = (λ same. let high = all.0 in absurd (omega (arith, same, low, high)), below_from g hs next low all.1)

all_below_from : (gs hs : List Group) (next : ℕ) → AllByRecursion (λ (g : Group). g.generation < next) gs → AllByRecursion (λ (h : Group). next ≤ h.generation) hs → Cross gs hs Differ
all_below_from [] hs next low high = tt
all_below_from (g ∷ gs) hs next low high = (below_from g hs next low.0 high, all_below_from gs hs next low.1 high)

from_below : (g : Group) (hs : List Group) (next : ℕ) → next ≤ g.generation → AllByRecursion (λ (h : Group). h.generation < next) hs → AllByRecursion (Differ g) hs
from_below g [] next high all = tt
from_below g (h ∷ hs) next high all = (λ same. let low = all.0 in absurd (omega (arith, same, low, high)), from_below g hs next high all.1)

all_from_below : (gs hs : List Group) (next : ℕ) → AllByRecursion (λ (g : Group). next ≤ g.generation) gs → AllByRecursion (λ (h : Group). h.generation < next) hs → Cross gs hs Differ
all_from_below [] hs next high low = tt
all_from_below (g ∷ gs) hs next high low = (from_below g hs next high.0 low, all_from_below gs hs next high.1 low)

numbered_differ : (next : ℕ) (gs : List Group) (inode : Group) → AreNumbered next gs inode → Pairs gs Differ
numbered_differ next [] inode are = tt
numbered_differ next (g ∷ gs) inode are =
    (let is = are.0 in below_from g gs (next + 1) (omega (arith, is)) (numbered_from (next + 1) (next + 1) gs inode are.1 (omega arith)), numbered_differ (next + 1) gs inode are.1)

cross_both : (xs ys zs : List Group) → Cross xs ys Differ → Cross xs zs Differ → Cross xs (ys ++ zs) Differ
cross_both [] ys zs one other = tt
cross_both (x ∷ xs) ys zs one other = (All-append (Differ x) ys zs one.0 other.0, cross_both xs ys zs one.1 other.1)

cross_right : (xs ys zs : List Group) → Cross xs (ys ++ zs) Differ → Cross xs zs Differ
cross_right [] ys zs all = tt
cross_right (x ∷ xs) ys zs all = (right ys zs all.0, cross_right xs ys zs all.1)
  where
    right : (ys zs : List Group) → AllByRecursion (Differ x) (ys ++ zs) → AllByRecursion (Differ x) zs
    right [] zs all = all
    right (y ∷ ys) zs all = right ys zs all.1

spliced_differ : (gs new : List Group) (next first count : ℕ) → AreGenerations gs → Pairs new Differ → AllByRecursion (λ (g : Group). g.generation < next) gs
    → AllByRecursion (λ (g : Group). next ≤ g.generation) new → AreGenerations (spliced gs first count new)
spliced_differ gs new next first count old fresh low high =
    let a = take first gs in
    let b = take count (drop first gs) in
    let c = drop (first + count) gs in
    let all = subst (λ (l : List Group). Pairs l Differ) (in_three gs first count) (pairs gs old) in
    let bc = Pairs-right a (b ++ c) Differ all in
    let nc = Pairs-append new c Differ fresh (Pairs-right b c Differ bc)
    (all_from_below new c next high (All-drop (λ (g : Group). g.generation < next) (first + count) gs low)) in
    differing (spliced gs first count new)
    (Pairs-append a (new ++ c) Differ (Pairs-left a (b ++ c) Differ all) nc
    (cross_both a new c (all_below_from a new next (All-take (λ (g : Group). g.generation < next) first gs low) high)
    (cross_right a b c (Pairs-cross a (b ++ c) Differ all))))

-- groups within the limits have at most 16 data units each
most_units : (gs : List Group) → AllByRecursion IsInodeGroup gs → data_units gs ≤ 16 * length gs
most_units [] all = omega arith
most_units (g ∷ gs) all =
    let units = all.0.units in
    let rest = most_units gs all.1 in
    let whole = sum_by-cons (λ (h : Group). h.n) g gs in
    omega (arith, units, rest, whole)

-- so a file has at most 2^29 bytes
small_size : (unit size units : ℕ) → 1 ≤ unit → unit ≤ 131072 → units ≡ units_for unit size → units ≤ 4096 → size ≤ 2 ^ 29
small_size unit size units some wide is few =
    let parts = div-add-mod' (size + (unit - 1)) unit in
    let left = mod_below (size + (unit - 1)) unit (omega (arith, some)) in
    let most = mul-le units unit 4096 131072 few wide in
    let same : units * unit ≡ (size + (unit - 1)) / unit * unit = ap (λ (n : ℕ). n * unit) is in
    omega (arith, parts, left, most, same, some)

pub changed_inodes_are_spelled : ChangedInodesAreSpelled
changed_inodes_are_spelled unit size first count level l new inode old is low numbered small at places few sum =
    let numbers = level_numbers level is in
    let fits : AllByRecursion IsInodeGroup (spliced l.groups first count new) =
    All-spliced IsInodeGroup l.groups first count new old.groups (fresh new (numbered_below l.next new inode (2 ^ 32) numbered small) at places) in
    let least = old.least_unit in
    let units = most_units (spliced l.groups first count new) fits in record {
      level = is;
      least_unit = old.least_unit;
      most_unit = old.most_unit;
      size = small_size unit size (data_units (spliced l.groups first count new)) (omega (arith, least)) old.most_unit sum (omega (arith, units, few));
      count = few;
      groups = fits;
      generations = spliced_differ l.groups new l.next first count old.generations (numbered_differ l.next new inode numbered) low
          (numbered_from l.next l.next new inode numbered (omega arith));
      sum = sum;
    }
  where
    fresh : (gs : List Group) → AllByRecursion (λ (g : Group). g.generation < 2 ^ 32) gs → AllByRecursion (λ (g : Group). AtLevel g level) gs
        → AllByRecursion (λ (g : Group). AllByRecursion IsPlace g.places) gs → AllByRecursion IsInodeGroup gs
    fresh [] below are stand = tt
    fresh (g ∷ gs) below are stand = (group_at_level g level (level_numbers level is) are.0 stand.0 below.0, fresh gs below.1 are.1 stand.1)
