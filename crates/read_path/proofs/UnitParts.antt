-- The bytes of a range that one unit holds.
use Rattle.std.proofs.Common.{◌≡◌, ℕ, zero, suc, ◌+◌, ◌-◌, ◌*◌, ◌<◌, ◌≤◌, min, max, List, [], ◌∷◌, ◌++◌, length, take, drop, replicate, get_or, Result, Ok, Err, OnOk, append_assoc, refl, sym, ap, subst, ◌∙◌, arith, one-mul, mul-le-mul_right}
use Rattle.std.specs.List.{AllByRecursion}
use Rattle.std.proofs.lemmas.List.{get_or-take, take_all}
use Rattle.galois.specs.Codeword.{unit_at}
use Rattle.rs_codes.specs.Codes.{AreUnitsOf}
use Rattle.rs_codes.specs.Units.{units_in}
use Rattle.pulled_groups.specs.PullAnswers.{ShowsGroup}
use Rattle.pulled_groups.specs.declared.pull_groups.PulledGroup.{PulledGroup}
use Rattle.read_path.specs.Segments.{part_of_group, part_of_units, parts_of, segment}
use Rattle.read_path.proofs.SegmentLemmas.{join, piece, unit_among, unit_within}

All_take : {A : Type 0} (P : A → Type 0) (n : ℕ) (xs : List A) → AllByRecursion P xs → AllByRecursion P (take n xs)
All_take P zero xs all = tt
All_take P (suc n) [] all = tt
All_take P (suc n) (x ∷ xs) all = (all.0, All_take P n xs all.1)

take_count : {A : Type 0} (n m : ℕ) (xs : List A) → length xs ≡ n + m → length (take n xs) ≡ n
take_count zero m xs is = refl
take_count (suc n) m [] is = absurd (omega (arith, is))
take_count (suc n) m (x ∷ xs) is = let rest = take_count n m xs (omega (arith, is)) in omega (arith, rest)

-- a data unit is a piece of the file, which zeros follow
unit_shown : (unit : ℕ) (bytes : List ℕ) (p : PulledGroup) (shows : ShowsGroup unit bytes p) (i : ℕ) → i < p.group.n
    → unit_at shows.word i ≡ take unit (drop ((p.start + i) * unit) (bytes ++ replicate shows.zeros 0))
unit_shown unit bytes p shows i below =
    let n = p.group.n in
    let whole = bytes ++ replicate shows.zeros 0 in
    let count = take_count n p.group.m shows.word shows.units.word_is.count in
    sym (get_or-take n shows.word i [] below)
    ∙ unit_among unit (take n shows.word) i (All_take (λ (u : List ℕ). length u ≡ unit) n shows.word shows.lengths) (omega (arith, count, below))
    ∙ ap (λ (l : List ℕ). take unit (drop (i * unit) l)) shows.joined
    ∙ unit_within whole (p.start * unit) unit n i below
    ∙ ap (λ (k : ℕ). take unit (drop k whole)) (both p.start i unit)
  where
    both : (start i unit : ℕ) → start * unit + i * unit ≡ (start + i) * unit
    both start i unit = search arith

-- what a range takes of a data unit
pub unit_part : (unit : ℕ) (bytes : List ℕ) (p : PulledGroup) (shows : ShowsGroup unit bytes p) (i start stop first : ℕ) → i < p.group.n → stop ≤ length bytes
    → first ≡ (p.start + i) * unit
    → take (stop - max start first) (drop (start - first) (unit_at shows.word i)) ≡ part_of_units unit start stop bytes (p.start + i) (p.start + i + 1)
unit_part unit bytes p shows i start stop first below within is =
    let at = (p.start + i) * unit in
    ap (λ (k : ℕ). take (stop - max start k) (drop (start - k) (unit_at shows.word i))) is
    ∙ ap (λ (u : List ℕ). take (stop - max start at) (drop (start - at) u)) (unit_shown unit bytes p shows i below)
    ∙ piece bytes shows.zeros at unit start stop within
    ∙ ap (λ (k : ℕ). segment bytes (max start at) (min stop k)) (next (p.start + i) unit)
  where
    next : (k unit : ℕ) → k * unit + unit ≡ (k + 1) * unit
    next k unit = search arith

-- what a range took of a data unit was appended
pub pushed_part : (unit : ℕ) (bytes : List ℕ) (p : PulledGroup) (shows : ShowsGroup unit bytes p) (i start stop first : ℕ) (held out now : List ℕ) → i < p.group.n
    → stop ≤ length bytes → first ≡ (p.start + i) * unit → held ≡ unit_at shows.word i
    → now ≡ out ++ take (stop - max start first) (drop (start - first) held)
    → now ≡ out ++ part_of_units unit start stop bytes (p.start + i) (p.start + i + 1)
pushed_part unit bytes p shows i start stop first held out now below within is same pushed =
    pushed ∙ ap (λ (l : List ℕ). out ++ l)
    (ap (λ (u : List ℕ). take (stop - max start first) (drop (start - first) u)) same ∙ unit_part unit bytes p shows i start stop first below within is)

-- a buffer of one unit
pub one_unit : (len : ℕ) (bytes u : List ℕ) (units : List (List ℕ)) → units ≡ u ∷ [] → units_in (length units) len bytes ≡ units
    → length bytes ≡ length units * len → bytes ≡ u
one_unit len bytes u units one are whole =
    let long : length bytes ≡ length (u ∷ []) * len = whole ∙ ap (λ (us : List (List ℕ)). length us * len) one in
    let first : take len bytes ∷ [] ≡ u ∷ [] = ap (λ (us : List (List ℕ)). units_in (length us) len bytes) (sym one) ∙ are ∙ one in
    sym (take_all len bytes (omega (arith, long, one-mul len))) ∙ same_head first
  where
    same_head : take len bytes ∷ [] ≡ u ∷ [] → take len bytes ≡ u
    same_head h = cc

-- the same, where the push was Ok
pub pushed_ok : {T E : Type 0} (r : Result T E) (unit : ℕ) (p : PulledGroup) (i start stop first : ℕ) (held out now : List ℕ) → i < p.group.n → first ≡ (p.start + i) * unit
    → ((word : List (List ℕ)) → AreUnitsOf p.group.n p.group.m word p.have → held ≡ unit_at word i)
    → OnOk r (now ≡ out ++ take (stop - max start first) (drop (start - first) held))
    → OnOk r ((bytes : List ℕ) → stop ≤ length bytes → ShowsGroup unit bytes p → now ≡ out ++ part_of_units unit start stop bytes (p.start + i) (p.start + i + 1))
pushed_ok (Ok x) unit p i start stop first held out now below is same pushed =
    λ bytes within shows. pushed_part unit bytes p shows i start stop first held out now below within is (same shows.word shows.units) pushed
pushed_ok (Err e) unit p i start stop first held out now below is same pushed = pushed

-- the parts of units that follow one another
pub parts_join : (unit start stop : ℕ) (bytes : List ℕ) (a i m : ℕ)
    → part_of_units unit start stop bytes a (a + i) ++ part_of_units unit start stop bytes (a + i) (a + i + m) ≡ part_of_units unit start stop bytes a (a + (i + m))
parts_join unit start stop bytes a i m =
    let low : a * unit ≤ (a + i) * unit = mul-le-mul_right unit (let l : a ≤ a + i = omega arith in l) in
    let high : (a + i) * unit ≤ (a + i + m) * unit = mul-le-mul_right unit (let l : a + i ≤ a + i + m = omega arith in l) in
    let same : a + i + m ≡ a + (i + m) = omega arith in
    join bytes start stop (a * unit) ((a + i) * unit) ((a + i + m) * unit) low high
    ∙ ap (part_of_units unit start stop bytes a) same

-- the first of some groups, and the others
pub groups_cons : (groups : List PulledGroup) (g : PulledGroup) → 1 ≤ length groups → g ≡ get_or groups 0 g → groups ≡ g ∷ take (length groups - 1) (drop 1 groups)
groups_cons [] g some is = absurd (omega (arith, some))
groups_cons (x ∷ xs) g some is =
    let all : length xs ≤ length (x ∷ xs) - 1 = omega arith in
    ap (λ (l : List PulledGroup). x ∷ l) (sym (take_all (length (x ∷ xs) - 1) xs all))
    ∙ ap (λ (y : PulledGroup). y ∷ take (length (x ∷ xs) - 1) xs) (sym is)

-- what a range took of a group, and then of the others, was appended
pub pushed_groups : {T E : Type 0} (r : Result T E) (unit start stop : ℕ) (groups rest : List PulledGroup) (g : PulledGroup) (out mid now : List ℕ) → groups ≡ g ∷ rest
    → ((bytes : List ℕ) → stop ≤ length bytes → ShowsGroup unit bytes g → mid ≡ out ++ part_of_group unit start stop bytes g)
    → OnOk r ((bytes : List ℕ) → stop ≤ length bytes → AllByRecursion (ShowsGroup unit bytes) rest → now ≡ mid ++ parts_of unit start stop bytes rest)
    → OnOk r ((bytes : List ℕ) → stop ≤ length bytes → AllByRecursion (ShowsGroup unit bytes) groups → now ≡ out ++ parts_of unit start stop bytes groups)
pushed_groups (Ok x) unit start stop groups rest g out mid now is here more = λ bytes within all.
    let each = subst (AllByRecursion (ShowsGroup unit bytes)) is all in
    more bytes within each.1 ∙ ap (λ (l : List ℕ). l ++ parts_of unit start stop bytes rest) (here bytes within each.0)
    ∙ append_assoc out (part_of_group unit start stop bytes g) (parts_of unit start stop bytes rest)
    ∙ ap (λ (gs : List PulledGroup). out ++ parts_of unit start stop bytes gs) (sym is)
pushed_groups (Err e) unit start stop groups rest g out mid now is here more = more
