-- Where groups stand in a map, counted in data units.
use Rattle.std.proofs.Common.{◌≡◌, ℕ, zero, suc, ◌+◌, ◌<◌, ◌≤◌, ◌⊎◌, inl, inr, Bool, true, false, not, ◌&&◌, cond, leb, List, [], ◌∷◌, length, take, refl, sym, ap, subst, ◌∙◌, arith}
use Rattle.std.specs.List.{AllByRecursion}
use Rattle.std.proofs.lemmas.Bool.{cases_Bool, both_ways, cond-true, cond-false, leb-true, leb-false, and_cases, not-false}
use Rattle.std.proofs.lemmas.List.Sums.{sum_by-cons}
use Rattle.domains.specs.declared.group.Group.{Group}
use Rattle.inode_codec.specs.Inode.{data_units}
use Rattle.write_rule.specs.Runs.{first_from, begun_by, widths_of}
use Rattle.file_heads.specs.Parts.{is_last}
use Rattle.write_units.specs.Spans.{Span, spans_with, units_where}

-- the group begins with this unit, and is the last of the map or not
abbrev pub StandsAt : List Group → ℕ → ℕ → Group → Bool → Type 0
StandsAt [] start s g ends = ⊥
StandsAt (h ∷ hs) start s g ends = ((start ≡ s) × (h ≡ g) × (is_last hs ≡ ends)) ⊎ StandsAt hs (start + h.n) s g ends

pub units_cons : (g : Group) (gs : List Group) → data_units (g ∷ gs) ≡ g.n + data_units gs
units_cons g gs = sum_by-cons (λ (h : Group). h.n) g gs

-- it ends no later than the map, and the last with it
pub ends_within : (gs : List Group) (start s : ℕ) (g : Group) (ends : Bool) → StandsAt gs start s g ends
    → (s + g.n ≤ start + data_units gs) × (ends ≡ true → s + g.n ≡ start + data_units gs)
ends_within [] start s g ends at = absurd at
ends_within (h ∷ hs) start s g ends (inl here) =
    let all = units_cons h hs in
    let n = ap (λ (x : Group). x.n) here.1 in
    let first = here.0 in
    (omega (arith, all, n, first), λ is. last hs (here.2 ∙ is) all n first)
  where
    last : (hs : List Group) → is_last hs ≡ true → data_units (h ∷ hs) ≡ h.n + data_units hs → h.n ≡ g.n → start ≡ s → s + g.n ≡ start + data_units (h ∷ hs)
    last [] is all n first = let none : data_units [] ≡ 0 = refl in omega (arith, all, none, n, first)
    last (x ∷ xs) is all n first = absurd (both_ways false refl is)
ends_within (h ∷ hs) start s g ends (inr rest) =
    let all = units_cons h hs in
    let later = ends_within hs (start + h.n) s g ends rest in
    let less = later.0 in
    (omega (arith, all, less), λ is. let same = later.1 is in omega (arith, all, same))

pub one_of : (P : Group → Type 0) (gs : List Group) (start s : ℕ) (g : Group) (ends : Bool) → AllByRecursion P gs → StandsAt gs start s g ends → P g
one_of P [] start s g ends all at = absurd at
one_of P (h ∷ hs) start s g ends all (inl here) = subst P here.1 all.0
one_of P (h ∷ hs) start s g ends all (inr rest) = one_of P hs (start + h.n) s g ends all.1 rest

-- the span that a test of spans finds among those of the groups that a test of groups lets through
pub record IsFound (gs : List Group) (start : ℕ) (test : ℕ → Group → Bool → Bool) (p : Span → Bool) (count : ℕ) : Type 0 where
  pub s : ℕ
  pub g : Group
  pub ends : Bool
  pub at : StandsAt gs start s g ends
  pub passes : test s g ends ≡ true
  pub is : p (record { start = s; count = g.n }) ≡ true
  pub count_is : count ≡ g.n

pub record FindsNone (gs : List Group) (start : ℕ) (test : ℕ → Group → Bool → Bool) (p : Span → Bool) (count : ℕ) : Type 0 where
  pub none : count ≡ 0
  pub each : (s : ℕ) (g : Group) (ends : Bool) → StandsAt gs start s g ends → p (record { start = s; count = g.n }) ≡ true → test s g ends ≡ false

abbrev Finds : List Group → ℕ → (ℕ → Group → Bool → Bool) → (Span → Bool) → ℕ → Type 0
Finds gs start test p count = IsFound gs start test p count ⊎ FindsNone gs start test p count

abbrev span_of : ℕ → Group → Span
span_of start g = record { start = start; count = g.n }

further : (h : Group) (hs : List Group) (start : ℕ) (test : ℕ → Group → Bool → Bool) (p : Span → Bool) (count : ℕ)
    → (p (span_of start h) ≡ true → test start h (is_last hs) ≡ false) → Finds hs (start + h.n) test p count → Finds (h ∷ hs) start test p count
further h hs start test p count skips (inl found) = inl (record {
  s = found.s;
  g = found.g;
  ends = found.ends;
  at = inr found.at;
  passes = found.passes;
  is = found.is;
  count_is = found.count_is;
})
further h hs start test p count skips (inr none) = inr (record { none = none.none; each = each })
  where
    each : (s : ℕ) (g : Group) (ends : Bool) → StandsAt (h ∷ hs) start s g ends → p (span_of s g) ≡ true → test s g ends ≡ false
    each s g ends (inl here) is =
        (λ i. test (sym here.0 i) (sym here.1 i) (sym here.2 i)) ∙ skips ((λ i. p (span_of (here.0 i) (here.1 i))) ∙ is)
    each s g ends (inr rest) is = none.each s g ends rest is

-- the test finds one of them, or passes for none
pub finds : (gs : List Group) (start : ℕ) (test : ℕ → Group → Bool → Bool) (p : Span → Bool)
    → IsFound gs start test p (units_where p (spans_with gs start test)) ⊎ FindsNone gs start test p (units_where p (spans_with gs start test))
finds [] start test p = inr (record { none = refl; each = λ s g ends at is. absurd at })
finds (h ∷ hs) start test p = elim (cases_Bool (test start h (is_last hs))) [
  | inl passes ↦
      subst (λ (l : List Span). Finds (h ∷ hs) start test p (units_where p l))
      (sym (cond-true (test start h (is_last hs)) (span_of start h ∷ spans_with hs (start + h.n) test) (spans_with hs (start + h.n) test) passes))
      (elim (cases_Bool (p (span_of start h))) [
        | inl is ↦
            subst (λ (n : ℕ). Finds (h ∷ hs) start test p n) (sym (cond-true (p (span_of start h)) h.n (units_where p (spans_with hs (start + h.n) test)) is))
            (inl (record { s = start; g = h; ends = is_last hs; at = inl (refl, refl, refl); passes = passes; is = is; count_is = refl }))
        | inr other ↦
            subst (λ (n : ℕ). Finds (h ∷ hs) start test p n) (sym (cond-false (p (span_of start h)) h.n (units_where p (spans_with hs (start + h.n) test)) other))
            (further h hs start test p _ (λ is. absurd (both_ways (p (span_of start h)) other is)) (finds hs (start + h.n) test p))
      ])
  | inr fails ↦
      subst (λ (l : List Span). Finds (h ∷ hs) start test p (units_where p l))
      (sym (cond-false (test start h (is_last hs)) (span_of start h ∷ spans_with hs (start + h.n) test) (spans_with hs (start + h.n) test) fails))
      (further h hs start test p _ (λ is. fails) (finds hs (start + h.n) test p))
]

-- a position of the map
pub record IsAtPosition (gs : List Group) (start k : ℕ) : Type 0 where
  pub s : ℕ
  pub g : Group
  pub ends : Bool
  pub at : StandsAt gs start s g ends
  pub s_is : s ≡ start + data_units (take k gs)
  pub next : s + g.n ≡ start + data_units (take (k + 1) gs)
  pub last : k + 1 ≡ length gs → ends ≡ true

pub at_position : (gs : List Group) (start k : ℕ) → k < length gs → IsAtPosition gs start k
at_position [] start k below = absurd (omega (arith, below))
at_position (h ∷ hs) start zero below = record {
  s = start;
  g = h;
  ends = is_last hs;
  at = inl (refl, refl, refl);
  s_is = let none : data_units (take zero (h ∷ hs)) ≡ 0 = refl in omega (arith, none);
  next = ap (λ (n : ℕ). start + n) (sym (let all = units_cons h [] in let none : data_units [] ≡ 0 = refl in one (omega (arith, all, none))));
  last = λ is. only hs is;
}
  where
    one : data_units (h ∷ []) ≡ h.n → data_units (take (zero + 1) (h ∷ hs)) ≡ h.n
    one is = let n : zero + 1 ≡ suc zero = refl in is

    only : (xs : List Group) → zero + 1 ≡ length (h ∷ xs) → is_last xs ≡ true
    only [] is = refl
    only (x ∷ xs) is = absurd (omega (arith, is))
at_position (h ∷ hs) start (suc k) below =
    let rest = at_position hs (start + h.n) k (omega (arith, below)) in
    let all = units_cons h (take k hs) in
    let more = units_cons h (take (k + 1) hs) in
    let s = rest.s_is in
    let next = rest.next in
    let same : data_units (take (suc k + 1) (h ∷ hs)) ≡ data_units (h ∷ take (k + 1) hs) = ap (λ (n : ℕ). data_units (take n (h ∷ hs))) (let n : suc k + 1 ≡ suc (k + 1) = omega arith in n) in record {
      s = rest.s;
      g = rest.g;
      ends = rest.ends;
      at = inr rest.at;
      s_is = omega (arith, s, all);
      next = omega (arith, next, more, same);
      last = λ is. rest.last (omega (arith, is));
    }

-- what the groups at a front have is no less of a longer one
pub front_grows : (gs : List Group) (i j : ℕ) → i ≤ j → data_units (take i gs) ≤ data_units (take j gs)
front_grows gs zero j less = let none : data_units (take zero gs) ≡ 0 = refl in omega (arith, none)
front_grows [] (suc i) j less = let none : data_units (take (suc i) []) ≡ 0 = refl in omega (arith, none)
front_grows (g ∷ gs) (suc i) zero less = absurd (omega (arith, less))
front_grows (g ∷ gs) (suc i) (suc j) less =
    let rest = front_grows gs i j (omega (arith, less)) in
    let short = units_cons g (take i gs) in
    let long = units_cons g (take j gs) in
    omega (arith, rest, short, long)

-- the first group that is replaced ends behind the unit, or is the last and is filled up
pub first_ends : (gs : List Group) (start a : ℕ) (fills : ℕ → Bool) (k n : ℕ) → k ≡ first_from (widths_of gs) start a fills → k < length gs
    → data_units (take k gs) + n ≡ data_units (take (k + 1) gs) → (a < start + data_units (take (k + 1) gs)) ⊎ ((k + 1 ≡ length gs) × (fills n ≡ true))
first_ends [] start a fills k n is below wide = absurd (omega (arith, below))
first_ends (g ∷ []) start a fills (suc k) n is below wide = absurd (omega (arith, below))
first_ends (g ∷ []) start a fills zero n is below wide =
    let one : data_units (take (zero + 1) (g ∷ [])) ≡ g.n = alone g in
    let none : data_units (take zero (g ∷ [])) ≡ 0 = refl in
    elim (and_cases (leb (start + g.n) a) (not (fills g.n)) (stays (leb (start + g.n) a && not (fills g.n)) is)) [
      | inl behind ↦ inl (let past = leb-false (start + g.n) a behind in omega (arith, past, one))
      | inr filled ↦ inr (refl, ap fills (omega (arith, one, none, wide)) ∙ not-false (fills g.n) filled)
    ]
  where
    alone : (g : Group) → data_units (take (zero + 1) (g ∷ [])) ≡ g.n
    alone g = let all = units_cons g [] in let none : data_units [] ≡ 0 = refl in let sum : data_units (g ∷ []) ≡ g.n = omega (arith, all, none) in sum

    stays : (b : Bool) → zero ≡ cond b 1 0 → b ≡ false
    stays false is = refl
    stays true is = absurd (omega (arith, is))
first_ends (g ∷ h ∷ gs) start a fills k n is below wide = elim (cases_Bool (leb (start + g.n) a)) [
  | inl before ↦ later (λ j. first_ends (h ∷ gs) (start + g.n) a fills j n) k (is ∙ cond-true (leb (start + g.n) a) (1 + first_from (widths_of (h ∷ gs)) (start + g.n) a fills) 0 before) below wide
  | inr behind ↦ here k (is ∙ cond-false (leb (start + g.n) a) (1 + first_from (widths_of (h ∷ gs)) (start + g.n) a fills) 0 behind) (leb-false (start + g.n) a behind)
]
  where
    here : (k : ℕ) → k ≡ 0 → a < start + g.n → (a < start + data_units (take (k + 1) (g ∷ h ∷ gs))) ⊎ ((k + 1 ≡ length (g ∷ h ∷ gs)) × (fills n ≡ true))
    here zero is past =
        inl (let all = units_cons g (take zero (h ∷ gs)) in let none : data_units (take zero (h ∷ gs)) ≡ 0 = refl in
        let same : data_units (take (zero + 1) (g ∷ h ∷ gs)) ≡ data_units (g ∷ take zero (h ∷ gs)) = refl in omega (arith, past, all, none, same))
    here (suc k) is past = absurd (omega (arith, is))

    later : ((j : ℕ) → j ≡ first_from (widths_of (h ∷ gs)) (start + g.n) a fills → j < length (h ∷ gs) → data_units (take j (h ∷ gs)) + n ≡ data_units (take (j + 1) (h ∷ gs))
        → (a < start + g.n + data_units (take (j + 1) (h ∷ gs))) ⊎ ((j + 1 ≡ length (h ∷ gs)) × (fills n ≡ true)))
        → (k : ℕ) → k ≡ 1 + first_from (widths_of (h ∷ gs)) (start + g.n) a fills → k < length (g ∷ h ∷ gs)
        → data_units (take k (g ∷ h ∷ gs)) + n ≡ data_units (take (k + 1) (g ∷ h ∷ gs))
        → (a < start + data_units (take (k + 1) (g ∷ h ∷ gs))) ⊎ ((k + 1 ≡ length (g ∷ h ∷ gs)) × (fills n ≡ true))
    later rest zero is below wide = absurd (omega (arith, is))
    later rest (suc k) is below wide =
        let front = units_cons g (take k (h ∷ gs)) in
        let more = units_cons g (take (k + 1) (h ∷ gs)) in
        let same : data_units (take (suc k + 1) (g ∷ h ∷ gs)) ≡ data_units (g ∷ take (k + 1) (h ∷ gs)) = ap (λ (m : ℕ). data_units (take m (g ∷ h ∷ gs))) (let m : suc k + 1 ≡ suc (k + 1) = omega arith in m) in
        elim (rest k (omega (arith, is)) (omega (arith, below)) (omega (arith, wide, front, more, same))) [
          | inl past ↦ inl (omega (arith, past, more, same))
          | inr filled ↦ inr (let last = filled.0 in omega (arith, last), filled.1)
        ]

-- a group of those that begin by a unit does so
pub begins_by : (gs : List Group) (start b k : ℕ) → k < begun_by (widths_of gs) start b → start + data_units (take k gs) ≤ b
begins_by [] start b k below = absurd (omega (arith, below))
begins_by (g ∷ gs) start b k below = elim (cases_Bool (leb start b)) [
  | inl here ↦ by_position (begins_by gs (start + g.n) b) k (leb-true start b here) (subst (λ (n : ℕ). k < n) (cond-true (leb start b) (1 + begun_by (widths_of gs) (start + g.n) b) 0 here) below)
  | inr past ↦ absurd (let none = subst (λ (n : ℕ). k < n) (cond-false (leb start b) (1 + begun_by (widths_of gs) (start + g.n) b) 0 past) below in omega (arith, none))
]
  where
    by_position : ((j : ℕ) → j < begun_by (widths_of gs) (start + g.n) b → start + g.n + data_units (take j gs) ≤ b) → (k : ℕ) → start ≤ b → k < 1 + begun_by (widths_of gs) (start + g.n) b → start + data_units (take k (g ∷ gs)) ≤ b
    by_position later zero here below = let none : data_units (take zero (g ∷ gs)) ≡ 0 = refl in omega (arith, here, none)
    by_position later (suc k) here below =
        let rest = later k (omega (arith, below)) in
        let all = units_cons g (take k gs) in
        omega (arith, rest, all)
