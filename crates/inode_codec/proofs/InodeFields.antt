-- The numbers of an inode's fields fit exactly if the inode can be spelled.
use Rattle.std.proofs.Common.{◌≡◌, ℕ, ◌+◌, ◌<◌, ◌≤◌, Bool, true, false, cond, ◌&&◌, List, [], ◌∷◌, ◌++◌, length, map, refl, sym, ap, ◌∙◌, arith, eqb, eq-eqb}
use Rattle.std.proofs.lemmas.Bool.{eqb-true}
use Rattle.std.proofs.lemmas.Bool.Decides.{nat_tests}
use Rattle.std.proofs.lemmas.List.{length-map}
use Rattle.std.proofs.lemmas.List.Sums.{sum_by-cons}
use Rattle.std.specs.List.{AllByRecursion}
use Rattle.domains.specs.AtLevel.{drives_of}
use Rattle.domains.specs.Drive.{AreApart, is_in}
use Rattle.domains.specs.Place.{Place, IsPlace}
use Rattle.domains.specs.declared.group.Group.{Group}
use Rattle.domains.proofs.DriveLemmas.{is_in-none, same_drive-sym}
use Rattle.field_readers.proofs.Readers.{EachFits}
use Rattle.inode_codec.specs.Inode.{AreGenerations, IsInode, IsInodeGroup, data_units}
use Rattle.inode_codec.specs.InodeReader.{RawGroup, RawPlace, end_of_m, has_units, push, raw_group, raw_inode, raw_place, raw_units}
use Rattle.inode_codec.specs.declared.inode.Inode.{Inode}
use Rattle.inode_codec.proofs.LevelCodes.{coded_level, level_coded}
use Rattle.inode_codec.proofs.PlacesApart.{Apart, Fresh, apart-fresh, fresh-apart, none_before, not-true, true-not}
use Rattle.inode_codec.proofs.InodeReaders.{GroupFits, InodeFits, PlaceFits}

-- ---- places

abbrev one_drive : RawPlace → RawPlace → Bool
one_drive p q = eqb p.0.0 q.0.0 && eqb p.0.1 q.0.1

fit_places : (earlier : List RawPlace) (ps : List Place) → EachFits PlaceFits push earlier (map raw_place ps)
    → AllByRecursion IsPlace ps × Fresh one_drive earlier (map raw_place ps)
fit_places earlier [] h = (tt, tt)
fit_places earlier (p ∷ ps) h =
    let later = fit_places (earlier ++ raw_place p ∷ []) ps h.1 in
    let node : p.drive.node < 33 = h.0.0.0.0.1 in
    let drive : p.drive.drive < 17 = h.0.0.0.1.1 in
    let is : IsPlace p = record {
      drive = record { some_node = h.0.0.0.0.0; nodes = omega arith; some_drive = h.0.0.0.1.0; drives = omega arith };
      slot = h.0.1.1;
    } in
    ((is, later.0), (not-true _ h.0.0.1, later.1))

places_fit : (earlier : List RawPlace) (ps : List Place) → AllByRecursion IsPlace ps → Fresh one_drive earlier (map raw_place ps)
    → EachFits PlaceFits push earlier (map raw_place ps)
places_fit earlier [] are fresh = tt
places_fit earlier (p ∷ ps) are fresh =
    let is = are.0 in
    let node : p.drive.node ≤ 32 = is.drive.nodes in
    let drive : p.drive.drive ≤ 16 = is.drive.drives in (
      ((((is.drive.some_node, omega arith), (is.drive.some_drive, omega arith)), true-not _ fresh.0), (omega arith, is.slot)),
      places_fit (earlier ++ raw_place p ∷ []) ps are.1 fresh.1,
    )

none_in : (p : Place) (ps : List Place) → AllByRecursion (λ (q : RawPlace). one_drive (raw_place p) q ≡ false) (map raw_place ps) → is_in (drives_of ps) p.drive ≡ false
none_in p [] none = refl
none_in p (q ∷ qs) none =
    ap (λ t. cond t true (is_in (drives_of qs) p.drive)) (same_drive-sym q.drive p.drive ∙ none.0) ∙ none_in p qs none.1

in_none : (p : Place) (ps : List Place) → is_in (drives_of ps) p.drive ≡ false → AllByRecursion (λ (q : RawPlace). one_drive (raw_place p) q ≡ false) (map raw_place ps)
in_none p [] none = tt
in_none p (q ∷ qs) none =
    let both = is_in-none q.drive (drives_of qs) p.drive none in
    (same_drive-sym p.drive q.drive ∙ both.0, in_none p qs both.1)

apart_drives : (ps : List Place) → Apart one_drive (map raw_place ps) → AreApart (drives_of ps)
apart_drives [] apart = tt
apart_drives (p ∷ ps) apart = (none_in p ps apart.0, apart_drives ps apart.1)

drives_apart : (ps : List Place) → AreApart (drives_of ps) → Apart one_drive (map raw_place ps)
drives_apart [] apart = tt
drives_apart (p ∷ ps) apart = (in_none p ps apart.0, drives_apart ps apart.1)

-- ---- groups

m_limits : (n m : ℕ) → m < end_of_m n → (m ≤ 7) × (1 < n → m ≤ 4)
m_limits n m few =
    elim (eqb n 1) as (λ t. eqb n 1 ≡ t → m < cond t 8 5 → (m ≤ 7) × (1 < n → m ≤ 4)) [
      | true ↦ λ same below. (omega arith, λ many. let one : n ≡ 1 = grind (arith, nat_tests) in absurd (omega arith))
      | false ↦ λ _ below. (omega arith, λ many. omega arith)
    ] refl few

m_fits : (n m : ℕ) → 1 ≤ n → m ≤ 7 → (1 < n → m ≤ 4) → m < end_of_m n
m_fits n m some few striped =
    elim (eqb n 1) as (λ t. eqb n 1 ≡ t → m < cond t 8 5) [
      | true ↦ λ _. omega arith
      | false ↦ λ other.
          let apart : n ≡ 1 → ⊥ = λ same. let yes : eqb n 1 ≡ true = eq-eqb n 1 same in cc in
          let most : m ≤ 4 = striped (omega arith) in
          omega arith
    ] refl

fit_group : (earlier : List RawGroup) (g : Group) → GroupFits earlier (raw_group g) → IsInodeGroup g
fit_group earlier g h =
    let n : g.n < 17 = h.1.0.1 in
    let limits = m_limits g.n g.m h.1.1.0.1 in
    let places = fit_places [] g.places h.1.1.1.1 in
    record {
      generation = h.0.0.1;
      some_units = h.1.0.0;
      units = omega arith;
      some_more = h.1.1.0.0;
      more = limits.0;
      striped = limits.1;
      whole = sym (length-map g.places raw_place) ∙ h.1.1.1.0;
      places = places.0;
      apart = apart_drives g.places (fresh-apart one_drive [] (map raw_place g.places) places.1).0;
    }

abbrev one_generation : RawGroup → RawGroup → Bool
one_generation g h = eqb g.0 h.0

fit_groups : (earlier : List RawGroup) (gs : List Group) → EachFits GroupFits push earlier (map raw_group gs)
    → AllByRecursion IsInodeGroup gs × Fresh one_generation earlier (map raw_group gs)
fit_groups earlier [] h = (tt, tt)
fit_groups earlier (g ∷ gs) h =
    let later = fit_groups (earlier ++ raw_group g ∷ []) gs h.1 in
    ((fit_group earlier g h.0, later.0), (not-true _ h.0.0.1, later.1))

groups_fit : (earlier : List RawGroup) (gs : List Group) → AllByRecursion IsInodeGroup gs → Fresh one_generation earlier (map raw_group gs)
    → EachFits GroupFits push earlier (map raw_group gs)
groups_fit earlier [] are fresh = tt
groups_fit earlier (g ∷ gs) are fresh =
    let is = are.0 in
    let n : g.n ≤ 16 = is.units in
    let places = places_fit [] g.places is.places (apart-fresh one_drive [] (map raw_place g.places) (drives_apart g.places is.apart) (none_before one_drive (map raw_place g.places))) in (
      (
        ((omega arith, is.generation), true-not _ fresh.0),
        ((is.some_units, omega arith), ((is.some_more, m_fits g.n g.m is.some_units is.more is.striped), (length-map g.places raw_place ∙ is.whole, places))),
      ),
      groups_fit (earlier ++ raw_group g ∷ []) gs are.1 fresh.1,
    )

others : (g : Group) (gs : List Group) → AllByRecursion (λ (h : RawGroup). one_generation (raw_group g) h ≡ false) (map raw_group gs)
    → AllByRecursion (λ (h : Group). g.generation ≡ h.generation → ⊥) gs
others g [] none = tt
others g (h ∷ hs) none =
    (λ same. let yes : eqb g.generation h.generation ≡ true = eq-eqb g.generation h.generation same in let no : eqb g.generation h.generation ≡ false = none.0 in cc, others g hs none.1)

other_generation : (a b : ℕ) → (a ≡ b → ⊥) → eqb a b ≡ false
other_generation a b other = elim (eqb a b) as (λ t. eqb a b ≡ t → t ≡ false) [ true ↦ λ same. absurd (other (eqb-true a b same)) | false ↦ λ _. refl ] refl

none_of : (g : Group) (gs : List Group) → AllByRecursion (λ (h : Group). g.generation ≡ h.generation → ⊥) gs
    → AllByRecursion (λ (h : RawGroup). one_generation (raw_group g) h ≡ false) (map raw_group gs)
none_of g [] others = tt
none_of g (h ∷ hs) others = (other_generation g.generation h.generation others.0, none_of g hs others.1)

generations_differ : (gs : List Group) → Apart one_generation (map raw_group gs) → AreGenerations gs
generations_differ [] apart = tt
generations_differ (g ∷ gs) apart = (others g gs apart.0, generations_differ gs apart.1)

differing_generations : (gs : List Group) → AreGenerations gs → Apart one_generation (map raw_group gs)
differing_generations [] are = tt
differing_generations (g ∷ gs) are = (none_of g gs are.0, differing_generations gs are.1)

-- ---- inodes

pub raw_units-map : (gs : List Group) → raw_units (map raw_group gs) ≡ data_units gs
raw_units-map [] = refl
raw_units-map (g ∷ gs) =
    sum_by-cons (λ (h : RawGroup). h.1.0) (raw_group g) (map raw_group gs) ∙ ap (λ (n : ℕ). g.n + n) (raw_units-map gs) ∙ sym (sum_by-cons (λ (h : Group). h.n) g gs)

pub fit_inode : (i : Inode) → InodeFits (raw_inode i) → has_units (raw_inode i) ≡ true → IsInode i
fit_inode i h sum =
    let unit : i.unit < 131073 = h.1.1.1.0.1 in
    let size : i.size < 536870913 = h.1.1.1.1.0.1 in
    let count : length i.groups < 257 = h.1.1.1.1.1.0.1 in
    let groups = fit_groups [] i.groups h.1.1.1.1.1.1.1 in
    record {
      level = coded_level i.level h.1.1.0.1;
      least_unit = h.1.1.1.0.0;
      most_unit = omega arith;
      size = omega arith;
      count = omega arith;
      groups = groups.0;
      generations = generations_differ i.groups (fresh-apart one_generation [] (map raw_group i.groups) groups.1).0;
      sum = sym (raw_units-map i.groups) ∙ eqb-true _ _ sum;
    }

pub inode_fits : (i : Inode) → IsInode i → InodeFits (raw_inode i)
inode_fits i is =
    let unit : i.unit ≤ 131072 = is.most_unit in
    let size : i.size ≤ 536870912 = is.size in
    let count : length i.groups ≤ 256 = is.count in
    let fresh = apart-fresh one_generation [] (map raw_group i.groups) (differing_generations i.groups is.generations) (none_before one_generation (map raw_group i.groups)) in (
      (omega arith, omega arith),
      (
        (omega arith, omega arith),
        (
          (omega arith, level_coded i.level is.level),
          ((is.least_unit, omega arith), ((omega arith, omega arith), ((omega arith, omega arith), (length-map i.groups raw_group, groups_fit [] i.groups is.groups fresh)))),
        ),
      ),
    )

pub units_fit : (i : Inode) → IsInode i → has_units (raw_inode i) ≡ true
units_fit i is = eq-eqb _ _ (raw_units-map i.groups ∙ is.sum)
