-- The groups that a write needs cover its run.
use Rattle.std.proofs.Common.{◌≡◌, ℕ, zero, suc, ◌+◌, ◌-◌, ◌*◌, ◌/◌, ◌<◌, ◌≤◌, ◌⊎◌, inl, inr, min, Bool, true, false, ◌&&◌, ◌||◌, ltb, ◌==◌, List, [], ◌∷◌, length, take, drop, refl, sym, ap, subst, ◌∙◌, arith}
use Rattle.std.proofs.lemmas.Bool.{cases_eq, cases_lt, both_ways, leb-true, ltb-true, ltb-false, lt-ltb, le-leb, eqb-true, eq-eqb, and_parts, and_cases, and_from, or_cases, or_parts, or_left, or_right}
use Rattle.std.proofs.lemmas.List.{length-take, length-drop, take_all}
use Rattle.std.proofs.lemmas.Nat.{div-add-mod', mod_below, mul-le}
use Rattle.domains.specs.declared.group.Group.{Group}
use Rattle.inode_codec.specs.Inode.{IsInode, IsInodeGroup, data_units, units_for}
use Rattle.file_history.specs.Layout.{Layout}
use Rattle.file_history.specs.Live.{write, is_touched, is_filled_up, has_bytes_outside}
use Rattle.file_history.specs.Stored.{inode_of}
use Rattle.file_heads.specs.Parts.{needs}
use Rattle.write_rule.specs.Runs.{first_replaced, last_unit, run_of, stop_replaced}
use Rattle.write_rule.specs.WriteRuns.{IsRunOfWrite}
use Rattle.write_rule.specs.declared.run.ReplacedRun.{ReplacedRun}
use Rattle.write_rule.specs.Laws.{AffectedAreRuns}
use Rattle.write_units.specs.Laws.{HoldsRange, NeededGroupsCoverRuns}
use Rattle.write_units.specs.Spans.{Span, spans_with, units_from, units_up_to}
use Rattle.write_units.proofs.GroupsAt.{IsAtPosition, StandsAt, at_position, begins_by, ends_within, finds, first_ends, front_grows, one_of, units_cons}

-- the units of a file hold its bytes
units_hold : (unit size : ℕ) → 1 ≤ unit → size ≤ units_for unit size * unit
units_hold unit size wide =
    let parts = div-add-mod' (size + (unit - 1)) unit in
    let rest = mod_below (size + (unit - 1)) unit (omega (arith, wide)) in
    omega (arith, parts, rest, wide)

-- a byte is behind the units before that of an earlier byte
before_unit : (unit offset k : ℕ) → 1 ≤ unit → offset / unit < k → offset ≤ k * unit
before_unit unit offset k wide less =
    let parts = div-add-mod' offset unit in
    let rest = mod_below offset unit (omega (arith, wide)) in
    let whole = mul-le (offset / unit + 1) unit k unit (omega (arith, less)) (omega arith) in
    let more = one_unit (offset / unit) unit in
    omega (arith, parts, rest, whole, more)
  where
    one_unit : (n unit : ℕ) → (n + 1) * unit ≡ n * unit + unit
    one_unit n unit = grind arith

first_byte : (unit offset : ℕ) → offset / unit * unit ≤ offset
first_byte unit offset = let parts = div-add-mod' offset unit in omega (arith, parts)

-- a unit that the write reaches begins by its end
reached : (unit offset len s : ℕ) → 1 ≤ unit → 1 ≤ len → s ≤ (offset + len - 1) / unit → s * unit ≤ offset + len
reached unit offset len s wide some less =
    let low = first_byte unit (offset + len - 1) in
    let whole = mul-le s unit ((offset + len - 1) / unit) unit less (omega arith) in
    omega (arith, low, whole, some)

-- a run of the groups, of which one list is known, is determined
same_length : (gs : List Group) (i j : ℕ) → i ≤ length gs → j ≤ length gs → take i gs ≡ take j gs → i ≡ j
same_length gs i j low high is =
    let left = length-take i gs in
    let right = length-take j gs in
    let same = ap length is in
    omega (arith, left, right, same, low, high)

none_taken : (k : ℕ) → data_units (take k []) ≡ 0
none_taken zero = refl
none_taken (suc k) = refl

-- the groups up to the end of a run are those before it and its own
take_run : (gs : List Group) (first count : ℕ) → data_units (take (first + count) gs) ≡ data_units (take first gs) + data_units (run_of gs first count)
take_run gs zero count =
    let none : zero + count ≡ count = omega arith in
    let same : data_units (take (zero + count) gs) ≡ data_units (take count gs) = ap (λ (k : ℕ). data_units (take k gs)) none in
    let front : data_units (take zero gs) ≡ 0 = refl in
    omega (arith, same, front)
take_run [] (suc first) count =
    let all = none_taken (suc first + count) in
    let front : data_units (take (suc first) []) ≡ 0 = refl in
    let rest = none_taken count in
    omega (arith, all, front, rest)
take_run (g ∷ gs) (suc first) count =
    let next : suc first + count ≡ suc (first + count) = omega arith in
    let same : data_units (take (suc first + count) (g ∷ gs)) ≡ data_units (g ∷ take (first + count) gs) = ap (λ (k : ℕ). data_units (take k (g ∷ gs))) next in
    let parts = take_run gs first count in
    let whole = units_cons g (take (first + count) gs) in
    let front = units_cons g (take first gs) in
    omega (arith, parts, whole, front, same)

module _ (rules : AffectedAreRuns) (unit : ℕ) (l : Layout) (offset len width : ℕ) (run : ReplacedRun) (valid : IsInode (inode_of unit l)) (some : 1 ≤ len) (is : IsRunOfWrite unit l offset len width run)
    (holds : HoldsRange unit l.size offset len run) where
  abbrev U : ℕ
  U = units_for unit l.size

  abbrev a : ℕ
  a = min (offset / unit) U

  abbrev test : ℕ → Group → Bool → Bool
  test s g ends = is_touched unit l.size offset len s g.n || (ends && is_filled_up unit l.size offset len width g.n)

  wide : 1 ≤ unit
  wide = let low = valid.least_unit in omega (arith, low)

  -- the run is the one that the rule names
  first_is : run.first ≡ first_replaced unit l offset len width
  first_is =
      let rule = rules unit l offset len width valid some in
      let within = is.affected.within in
      let other = rule.1.within in
      same_length l.groups run.first (first_replaced unit l offset len width) (omega (arith, within)) (omega (arith, other)) (sym is.affected.before ∙ rule.1.before)

  stop_is : run.first + run.count ≡ stop_replaced unit l offset len
  stop_is =
      let rule = rules unit l offset len width valid some in
      let ordered = rule.0 in
      let first = first_is in
      let within = is.affected.within in
      let other = rule.1.within in
      let many = long run.first run.count within in
      let more = long (first_replaced unit l offset len width) (stop_replaced unit l offset len - first_replaced unit l offset len width) other in
      let same = ap length (sym is.affected.run ∙ rule.1.run) in
      omega (arith, ordered, first, many, more, same)
    where
      long : (first count : ℕ) → first + count ≤ length l.groups → length (take count (drop first l.groups)) ≡ count
      long first count within =
          let taken = length-take count (drop first l.groups) in
          let left = length-drop first l.groups in
          omega (arith, taken, left, within)

  -- what the test tells of a group of the map
  pub record IsTested (s : ℕ) (g : Group) : Type 0 where
    pub begins : s * unit ≤ offset + len
    pub holds_before : min offset l.size ≤ (s + g.n) * unit

  tested : (s : ℕ) (g : Group) (ends : Bool) → StandsAt l.groups 0 s g ends → test s g ends ≡ true → IsTested s g
  tested s g ends at passes = elim (or_cases (is_touched unit l.size offset len s g.n) (ends && is_filled_up unit l.size offset len width g.n) passes) [
    | inl touched ↦
        let parts = and_parts _ _ touched in
        let early = leb-true s (last_unit unit offset len) parts.0 in
        let late = ltb-true a (s + g.n) parts.1 in record {
          begins = reached unit offset len s wide some early;
          holds_before = before late;
        }
    | inr filled ↦
        let parts = and_parts ends _ filled in
        let more = and_parts _ _ parts.1 in
        let past = leb-true U (last_unit unit offset len) more.0 in
        let sum : data_units l.groups ≡ U = valid.sum in
        let stop = (ends_within l.groups 0 s g ends at).1 parts.0 in
        let whole : s + g.n ≡ U = omega (arith, stop, sum) in
        let size = units_hold unit l.size wide in record {
          begins = reached unit offset len s wide some (omega (arith, whole, past));
          holds_before = subst (λ (n : ℕ). min offset l.size ≤ n * unit) (sym whole) (omega (arith, size));
        }
  ]
    where
      before : a < s + g.n → min offset l.size ≤ (s + g.n) * unit
      before late = elim (cases_lt (offset / unit) (s + g.n)) [
        | inl here ↦ let low = before_unit unit offset (s + g.n) wide here in omega (arith, low)
        | inr past ↦
            let size = units_hold unit l.size wide in
            let whole = mul-le U unit (s + g.n) unit (omega (arith, late, past)) (omega arith) in
            omega (arith, size, whole)
      ]

  -- a group for which the test passes, and that is not needed, has no bytes outside the range
  none_outside : (s : ℕ) (g : Group) (ends : Bool) → test s g ends ≡ true → needs unit l.size (write offset len width) s g ends ≡ false → has_bytes_outside unit l.size offset len s g.n ≡ false
  none_outside s g ends passes fails = elim (and_cases (test s g ends) (has_bytes_outside unit l.size offset len s g.n) fails) [
    | inl fails_test ↦ absurd (both_ways (test s g ends) fails_test passes)
    | inr none ↦ none
  ]

  none_before : (s : ℕ) (g : Group) → has_bytes_outside unit l.size offset len s g.n ≡ false → min offset l.size ≤ s * unit
  none_before s g none = elim (and_cases (ltb (s * unit) l.size) _ none) [
    | inl past ↦ let low = ltb-false (s * unit) l.size past in omega (arith, low)
    | inr inside ↦ let low = ltb-false (s * unit) offset (or_parts (ltb (s * unit) offset) _ inside).0 in omega (arith, low)
  ]

  none_behind : (s : ℕ) (g : Group) → has_bytes_outside unit l.size offset len s g.n ≡ false → s * unit ≤ offset + len
      → (l.size ≤ offset + len) ⊎ ((s + g.n) * unit ≤ offset + len)
  none_behind s g none begins = elim (and_cases (ltb (s * unit) l.size) _ none) [
    | inl past ↦ inl (let low = ltb-false (s * unit) l.size past in omega (arith, low, begins))
    | inr inside ↦ elim (and_cases (ltb (offset + len) l.size) _ (or_parts (ltb (s * unit) offset) _ inside).1) [
      | inl small ↦ inl (ltb-false (offset + len) l.size small)
      | inr short ↦ inr (ltb-false (offset + len) ((s + g.n) * unit) short)
    ]
  ]

  -- the group at this position of the map is one of those that the test lets through
  pub record IsOfRun (k : ℕ) : Type 0 where
    pub s : ℕ
    pub g : Group
    pub ends : Bool
    pub at : StandsAt l.groups 0 s g ends
    pub s_is : s ≡ data_units (take k l.groups)
    pub stop_is : s + g.n ≡ data_units (take (k + 1) l.groups)
    pub passes : test s g ends ≡ true

  of_run : (k : ℕ) → run.first ≤ k → k < run.first + run.count → IsOfRun k
  of_run k low high =
      let within = is.affected.within in
      let p = at_position l.groups 0 k (omega (arith, high, within)) in
      let s_is = p.s_is in
      let next = p.next in record {
        s = p.s;
        g = p.g;
        ends = p.ends;
        at = p.at;
        s_is = omega (arith, s_is);
        stop_is = omega (arith, next);
        passes = lets_through p;
      }
    where
      touched : (p : IsAtPosition l.groups 0 k) → a < p.s + p.g.n → test p.s p.g p.ends ≡ true
      touched p late =
          let early = begins_by l.groups 0 (last_unit unit offset len) k (let stop = stop_is in omega (arith, stop, high)) in
          let s_is = p.s_is in
          or_left _ _ (and_from _ _ (le-leb p.s (last_unit unit offset len) (omega (arith, early, s_is))) (lt-ltb a (p.s + p.g.n) late))

      filled : (p : IsAtPosition l.groups 0 k) → k + 1 ≡ length l.groups → is_filled_up unit l.size offset len width p.g.n ≡ true → test p.s p.g p.ends ≡ true
      filled p ends fills = or_right _ _ (and_from p.ends _ (p.last ends) fills)

      lets_through : (p : IsAtPosition l.groups 0 k) → test p.s p.g p.ends ≡ true
      lets_through p =
          let within = is.affected.within in
          let p_s = p.s_is in
          let p_next = p.next in
          elim (cases_eq k run.first) [
            | inl same ↦ elim (first_ends l.groups 0 a (is_filled_up unit l.size offset len width) k p.g.n (same ∙ first_is) (omega (arith, high, within)) (omega (arith, p_s, p_next))) [
              | inl late ↦ touched p (omega (arith, late, p_next))
              | inr last ↦ filled p last.0 last.1
            ]
            | inr other ↦
                let past : run.first < k = above low other in
                let q = at_position l.groups 0 run.first (omega (arith, past, high, within)) in
                let q_s = q.s_is in
                let q_next = q.next in
                elim (first_ends l.groups 0 a (is_filled_up unit l.size offset len width) run.first q.g.n first_is (omega (arith, past, high, within)) (omega (arith, q_s, q_next))) [
                  | inl late ↦ let grows = front_grows l.groups (run.first + 1) (k + 1) (omega (arith, past)) in touched p (omega (arith, late, grows, p_next))
                  | inr last ↦ absurd (let end = last.0 in omega (arith, end, past, high, within))
                ]
          ]
        where
          above : run.first ≤ k → (k ≡ run.first → ⊥) → run.first < k
          above low other = elim (cases_lt run.first k) [
            | inl past ↦ past
            | inr less ↦ absurd (other (omega (arith, low, less)))
          ]

  none_replaced : run.count ≡ 0 → (run.start ≡ U) × (run.units ≡ 0)
  none_replaced none =
      let sum : data_units l.groups ≡ U = valid.sum in (
        is.start ∙ ap data_units (take_all run.first l.groups (let all = is.affected.none none in omega (arith, all))) ∙ sum,
        is.units ∙ ap (λ (n : ℕ). data_units (take n (drop run.first l.groups))) none,
      )

  abbrev spans : List Span
  spans = spans_with l.groups 0 (needs unit l.size (write offset len width))

  needed_test : (s : ℕ) (g : Group) (ends : Bool) → needs unit l.size (write offset len width) s g ends ≡ true → test s g ends ≡ true
  needed_test s g ends needed = (and_parts (test s g ends) _ needed).0

  before_run : min offset l.size ≤ (run.start + units_from spans run.start) * unit
  before_run = elim (finds l.groups 0 (needs unit l.size (write offset len width)) (λ (x : Span). x.start == run.start)) [
    | inl found ↦
        let here = eqb-true found.s run.start found.is in
        let count = found.count_is in
        let whole : found.s + found.g.n ≡ run.start + units_from spans run.start = omega (arith, here, count) in
        subst (λ (n : ℕ). min offset l.size ≤ n * unit) whole (tested found.s found.g found.ends found.at (needed_test found.s found.g found.ends found.passes)).holds_before
    | inr missing ↦ subst (λ (n : ℕ). min offset l.size ≤ (run.start + n) * unit) (sym missing.none) (elim (cases_eq run.count 0) [
      | inl empty ↦
          let size = units_hold unit l.size wide in
          subst (λ (n : ℕ). min offset l.size ≤ (n + 0) * unit) (sym (none_replaced empty).0) (at_end size)
      | inr more ↦
          let r = of_run run.first (omega arith) (omega (arith, more)) in
          let here : r.s ≡ run.start = r.s_is ∙ sym is.start in
          let outside = none_outside r.s r.g r.ends r.passes (missing.each r.s r.g r.ends r.at (eq-eqb r.s run.start here)) in
          let low = none_before r.s r.g outside in
          subst (λ (n : ℕ). min offset l.size ≤ n * unit) (let sum : r.s ≡ run.start + 0 = omega (arith, here) in sum) low
    ])
  ]
    where
      at_end : l.size ≤ U * unit → min offset l.size ≤ (U + 0) * unit
      at_end size = let none : U + 0 ≡ U = omega arith in subst (λ (n : ℕ). min offset l.size ≤ n * unit) (sym none) (omega (arith, size))

  abbrev stop : ℕ
  stop = run.start + run.units

  within_run : 1 ≤ units_up_to spans stop → (stop - units_up_to spans stop) * unit ≤ offset + len
  within_run some_units = elim (finds l.groups 0 (needs unit l.size (write offset len width)) (λ (x : Span). x.start + x.count == stop)) [
    | inl found ↦
        let here = eqb-true (found.s + found.g.n) stop found.is in
        let count = found.count_is in
        let first : found.s ≡ stop - units_up_to spans stop = omega (arith, here, count) in
        subst (λ (n : ℕ). n * unit ≤ offset + len) first (tested found.s found.g found.ends found.at (needed_test found.s found.g found.ends found.passes)).begins
    | inr missing ↦ absurd (let none = missing.none in omega (arith, none, some_units))
  ]

  behind_run : units_up_to spans stop ≡ 0 → min ((run.start + run.new_units) * unit) l.size ≤ offset + len
  behind_run none_units =
      let behind = holds.behind in
      let begins = holds.begins in
      elim (finds l.groups 0 (needs unit l.size (write offset len width)) (λ (x : Span). x.start + x.count == stop)) [
        | inl found ↦
            absurd (let count = found.count_is in
            let wide_group = (one_of IsInodeGroup l.groups 0 found.s found.g found.ends valid.groups found.at).some_units in
            omega (arith, count, none_units, wide_group))
        | inr missing ↦ elim (cases_eq run.count 0) [
          | inl empty ↦
              let units = (none_replaced empty).1 in
              let same : stop * unit ≡ run.start * unit = ap (λ (n : ℕ). n * unit) (let sum : stop ≡ run.start = omega (arith, units) in sum) in
              omega (arith, behind, begins, same)
          | inr more ↦
              let r = of_run (run.first + run.count - 1) (omega (arith, more)) (omega (arith, more)) in
              let whole : data_units (take (run.first + run.count - 1 + 1) l.groups) ≡ stop =
              ap (λ (n : ℕ). data_units (take n l.groups)) (let sum : run.first + run.count - 1 + 1 ≡ run.first + run.count = omega (arith, more) in sum)
              ∙ take_run l.groups run.first run.count ∙ (λ i. sym is.start i + sym is.units i) in
              let here : r.s + r.g.n ≡ stop = r.stop_is ∙ whole in
              let outside = none_outside r.s r.g r.ends r.passes (missing.each r.s r.g r.ends r.at (eq-eqb (r.s + r.g.n) stop here)) in
              let early = (tested r.s r.g r.ends r.at r.passes).begins in
              let same : (r.s + r.g.n) * unit ≡ stop * unit = ap (λ (n : ℕ). n * unit) here in
              elim (none_behind r.s r.g outside early) [
                | inl small ↦ omega (arith, small)
                | inr short ↦ omega (arith, behind, short, same)
              ]
        ]
      ]

pub needed_cover_runs : AffectedAreRuns → NeededGroupsCoverRuns
needed_cover_runs rules unit l offset len width run valid some is holds = record {
  before = before_run rules unit l offset len width run valid some is holds;
  within = within_run rules unit l offset len width run valid some is holds;
  behind = behind_run rules unit l offset len width run valid some is holds;
}
