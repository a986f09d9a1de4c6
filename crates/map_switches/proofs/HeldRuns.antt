-- Groups whose slots hold bytes, one after the other, and a run of them that makes way for others.
use Rattle.std.proofs.Common.{◌≡◌, ℕ, suc, ◌+◌, ◌-◌, ◌*◌, ◌<◌, ◌≤◌, min, ◌⊎◌, inl, inr, List, [], ◌∷◌, ◌++◌, length, map, take, drop, replicate, refl, sym, ap, subst, ◌∙◌, arith, append_assoc, length-append}
use Rattle.std.specs.List.{AllByRecursion, flat_map}
use Rattle.std.proofs.lemmas.List.{ext_get_or, get_or_append_left, get_or-append_right, length-take}
use Rattle.std.proofs.lemmas.List.Sums.{sum_by-cons}
use Rattle.domains.specs.declared.group.Group.{Group}
use Rattle.inode_codec.specs.Inode.{data_units}
use Rattle.map_changes.specs.ChangedMaps.{spliced}
use Rattle.map_changes.proofs.Pairs.{All-take}
use Rattle.map_changes.proofs.SplicedLists.{in_three}
use Rattle.map_switches.proofs.RewrittenBytes.{rewritten}
use Rattle.write_rule.specs.NewBytes.{padded_slice}
use Rattle.write_rule.proofs.NewBytesByPlace.{at, padded_at, slice_at, slice_length}
use Rattle.striped_groups.specs.StoredGroups.{Content, StoredGroup, HoldRun, HoldsUnits}

abbrev pub mapped : List StoredGroup → List Group
mapped xs = map (λ (g : StoredGroup). g.group) xs

HoldRun-split : (xs ys : List StoredGroup) (bytes : List ℕ) (unit : ℕ) → HoldRun (xs ++ ys) bytes unit
    → (fb : List ℕ) × (bb : List ℕ) × (bytes ≡ fb ++ bb) × HoldRun xs fb unit × HoldRun ys bb unit
HoldRun-split [] ys bytes unit run = ([], bytes, refl, refl, run)
HoldRun-split (x ∷ xs) ys bytes unit run =
    let rest = HoldRun-split xs ys run.1 unit run.4 in (
      run.0 ++ rest.0,
      rest.1,
      run.2 ∙ ap (λ (l : List ℕ). run.0 ++ l) rest.2 ∙ sym (append_assoc run.0 rest.0 rest.1),
      (run.0, rest.0, refl, run.3, rest.3),
      rest.4,
    )

HoldRun-join : (xs ys : List StoredGroup) (fb bb : List ℕ) (unit : ℕ) → HoldRun xs fb unit → HoldRun ys bb unit → HoldRun (xs ++ ys) (fb ++ bb) unit
HoldRun-join [] ys fb bb unit front back = subst (λ (l : List ℕ). HoldRun ys l unit) (sym (ap (λ (l : List ℕ). l ++ bb) front)) back
HoldRun-join (x ∷ xs) ys fb bb unit front back = (
  front.0,
  front.1 ++ bb,
  ap (λ (l : List ℕ). l ++ bb) front.2 ∙ append_assoc front.0 front.1 bb,
  front.3,
  HoldRun-join xs ys front.1 bb unit front.4 back,
)

joined_length : (us : List (List ℕ)) (unit : ℕ) → AllByRecursion (λ (u : List ℕ). length u ≡ unit) us → length (flat_map (λ (u : List ℕ). u) us) ≡ length us * unit
joined_length [] unit all = omega arith
joined_length (u ∷ us) unit all =
    let whole = length-append u (flat_map (λ (v : List ℕ). v) us) in
    let rest = joined_length us unit all.1 in
    let one = all.0 in
    let times = more_times (length us) unit in
    omega (arith, whole, rest, one, times)
  where
    more_times : (n unit : ℕ) → (n + 1) * unit ≡ n * unit + unit
    more_times n unit = grind arith

HoldsUnits-length : (unit n m : ℕ) (bytes : List ℕ) (x : List Content) → HoldsUnits unit n m bytes x → length bytes ≡ n * unit
HoldsUnits-length unit n m bytes x holds =
    let count = holds.codeword.count in
    let taken = length-take n holds.units in
    sym (ap (λ (l : List ℕ). length l) holds.joined)
    ∙ joined_length (take n holds.units) unit (All-take (λ (u : List ℕ). length u ≡ unit) n holds.units holds.lengths)
    ∙ ap (λ (k : ℕ). k * unit) (enough (length (take n holds.units)) (length holds.units) n m taken count)
  where
    enough : (a b n m : ℕ) → a ≡ min n b → b ≡ n + m → a ≡ n
    enough a b n m taken count = omega (arith, taken, count)

pub HoldRun-length : (xs : List StoredGroup) (bytes : List ℕ) (unit : ℕ) → HoldRun xs bytes unit → length bytes ≡ data_units (mapped xs) * unit
HoldRun-length [] bytes unit run = ap (λ (l : List ℕ). length l) run ∙ none unit
  where
    none : (unit : ℕ) → 0 ≡ 0 * unit
    none unit = omega arith
HoldRun-length (x ∷ xs) bytes unit run =
    ap (λ (l : List ℕ). length l) run.2 ∙ length-append run.0 run.1
    ∙ sums (length run.0) (length run.1) x.group.n (data_units (mapped xs)) unit (HoldsUnits-length unit x.group.n x.group.m run.0 x.contents run.3) (HoldRun-length xs run.1 unit run.4)
    ∙ ap (λ (k : ℕ). k * unit) (sym (sum_by-cons (λ (h : Group). h.n) x.group (mapped xs)))
  where
    sums : (a b n d unit : ℕ) → a ≡ n * unit → b ≡ d * unit → a + b ≡ (n + d) * unit
    sums a b n d unit first rest = grind (arith, first, rest)

no_bytes : (xs : List StoredGroup) (bytes : List ℕ) (unit : ℕ) → xs ≡ [] → HoldRun xs bytes unit → bytes ≡ []
no_bytes [] bytes unit none run = run
no_bytes (x ∷ xs) bytes unit none run = absurd (omega (arith, long))
  where
    long : suc (length xs) ≡ 0
    long = ap (λ (l : List StoredGroup). length l) none

-- the bytes of a part, between others, are those of the whole from there on
middle_at : (old fb rb bb : List ℕ) (z s j : ℕ) → old ++ replicate z 0 ≡ fb ++ (rb ++ bb) → length fb ≡ s → j < length rb → at rb j ≡ at old (s + j)
middle_at old fb rb bb z s j parts fl below =
    sym (get_or_append_left rb bb 0 j below) ∙ sym (ap (λ (n : ℕ). at (rb ++ bb) n) (left s j))
    ∙ sym (get_or-append_right fb (rb ++ bb) s (s + j) 0 fl (omega arith)) ∙ sym (ap (λ (l : List ℕ). at l (s + j)) parts) ∙ padded_at old z (s + j)
  where
    left : (s j : ℕ) → s + j - s ≡ j
    left s j = omega arith

-- a run of groups holds its part of the bytes
pub HoldRun-middle : (xs : List StoredGroup) (first count : ℕ) (old : List ℕ) (z unit : ℕ) → HoldRun xs (old ++ replicate z 0) unit
    → HoldRun (take count (drop first xs))
    (padded_slice old (data_units (mapped (take first xs)) * unit) (data_units (mapped (take count (drop first xs))) * unit)) unit
HoldRun-middle xs first count old z unit run =
    let front = take first xs in
    let middle = take count (drop first xs) in
    let back = drop (first + count) xs in
    let whole = subst (λ (l : List StoredGroup). HoldRun l (old ++ replicate z 0) unit) (in_three xs first count) run in
    let a = HoldRun-split front (middle ++ back) (old ++ replicate z 0) unit whole in
    let b = HoldRun-split middle back a.1 unit a.4 in
    let s = data_units (mapped front) * unit in
    let k = data_units (mapped middle) * unit in
    subst (λ (l : List ℕ). HoldRun middle l unit)
    (part b.0 s k (HoldRun-length middle b.0 unit b.3)
    (λ j below. middle_at old a.0 b.0 b.1 z s j (a.2 ∙ ap (λ (l : List ℕ). a.0 ++ l) b.2) (HoldRun-length front a.0 unit a.3) below)) b.3
  where
    part : (rb : List ℕ) (s k : ℕ) → length rb ≡ k → ((j : ℕ) → j < length rb → at rb j ≡ at old (s + j)) → rb ≡ padded_slice old s k
    part rb s k long same =
        let other = slice_length old s k in
        ext_get_or 0 rb (padded_slice old s k) (long ∙ sym other) (λ j below. same j below ∙ sym (slice_at old s k j (subst (λ (n : ℕ). j < n) long below)))

-- The slots hold the old bytes; new groups in the place of a run hold their part of the new bytes, which differ from the old ones only
-- between `offset` and `stop`. The run is the last and reaches the end, or has as many data units as before and all that differs.
pub HoldRun-spliced : (xs fresh : List StoredGroup) (first count : ℕ) (old new part : List ℕ) (z offset stop unit : ℕ)
    → HoldRun xs (old ++ replicate z 0) unit → HoldRun fresh part unit
    → ((j : ℕ) → j < length part → at part j ≡ at new (data_units (mapped (take first xs)) * unit + j))
    → data_units (mapped (take first xs)) * unit ≤ offset
    → ((i : ℕ) → i < offset → at new i ≡ at old i) → ((i : ℕ) → stop ≤ i → at new i ≡ at old i)
    → length new ≡ stop + (length old - stop)
    → ((drop (first + count) xs ≡ []) × (length new ≤ data_units (mapped (take first xs)) * unit + data_units (mapped fresh) * unit))
    ⊎ ((data_units (mapped fresh) ≡ data_units (mapped (take count (drop first xs))))
    × (stop ≤ data_units (mapped (take first xs)) * unit + data_units (mapped (take count (drop first xs))) * unit))
    → (more : ℕ) × HoldRun (spliced xs first count fresh) (new ++ replicate more 0) unit
HoldRun-spliced xs fresh first count old new part z offset stop unit run news slice before unchanged behind long covers =
    let front = take first xs in
    let middle = take count (drop first xs) in
    let back = drop (first + count) xs in
    let whole = subst (λ (l : List StoredGroup). HoldRun l (old ++ replicate z 0) unit) (in_three xs first count) run in
    let a = HoldRun-split front (middle ++ back) (old ++ replicate z 0) unit whole in
    let b = HoldRun-split middle back a.1 unit a.4 in
    let s = data_units (mapped front) * unit in
    let made = rewritten old a.0 b.0 b.1 new part z s (length part) offset stop (a.2 ∙ ap (λ (l : List ℕ). a.0 ++ l) b.2) (HoldRun-length front a.0 unit a.3) before
    refl slice unchanged behind long (covered b.0 b.1 (HoldRun-length middle b.0 unit b.3) (HoldRun-length fresh part unit news) b.4 covers) in (
      made.0,
      subst (λ (l : List ℕ). HoldRun (spliced xs first count fresh) l unit) made.1
          (HoldRun-join front (fresh ++ back) a.0 (part ++ b.1) unit a.3 (HoldRun-join fresh back part b.1 unit news b.4)),
    )
  where
    covered : (rb bb : List ℕ) → length rb ≡ data_units (mapped (take count (drop first xs))) * unit → length part ≡ data_units (mapped fresh) * unit
        → HoldRun (drop (first + count) xs) bb unit
        → ((drop (first + count) xs ≡ []) × (length new ≤ data_units (mapped (take first xs)) * unit + data_units (mapped fresh) * unit))
        ⊎ ((data_units (mapped fresh) ≡ data_units (mapped (take count (drop first xs))))
        × (stop ≤ data_units (mapped (take first xs)) * unit + data_units (mapped (take count (drop first xs))) * unit))
        → ((bb ≡ []) × (length new ≤ data_units (mapped (take first xs)) * unit + length part))
        ⊎ ((length part ≡ length rb) × (stop ≤ data_units (mapped (take first xs)) * unit + length rb))
    covered rb bb rl pl held (inl last) =
        inl (no_bytes (drop (first + count) xs) bb unit last.0 held, subst (λ (n : ℕ). length new ≤ data_units (mapped (take first xs)) * unit + n) (sym pl) last.1)
    covered rb bb rl pl held (inr within) =
        inr (pl ∙ ap (λ (n : ℕ). n * unit) within.0 ∙ sym rl, subst (λ (n : ℕ). stop ≤ data_units (mapped (take first xs)) * unit + n) (sym rl) within.1)
