-- Drives that are among the first of one order because they are among the first of another.
use Rattle.std.proofs.Common.{◌≡◌, ℕ, suc, zero, ◌+◌, ◌-◌, ◌<◌, ◌≤◌, ◌⊎◌, inl, inr, Bool, true, false, cond, ◌||◌, List, [], ◌∷◌, ◌++◌, filter, filter_map, length, slice_get, take, count_by, Option, Some, None, refl, sym, ap, subst, ◌∙◌, arith}
use Rattle.std.specs.List.{cons_option}
use Rattle.std.proofs.lemmas.Bool.{both_ways, cases_Bool, cases_lt, false_from_ne_true, le-leb, lt-leb}
use Rattle.domains.specs.Counts.{one_if}
use Rattle.domains.specs.Drive.{Drive, same_drive, is_in}
use Rattle.domains.specs.Room.{drives_on}
use Rattle.domains.proofs.DriveLemmas.{is_in-first, is_in-rest, same_drive-eq}
use Rattle.domains.proofs.CountLemmas.{count_by-cons}
use Rattle.placement_order.specs.Order.{DrawRequest, nodes_of, visits_after, visits_in, visits_of}
use Rattle.placement_order.specs.Turns.{left_on, turn_of}
use Rattle.placement_order.proofs.ApartDrives.{is_in-later}
use Rattle.placement_order.proofs.CycleLemmas.{AreWithin, IsOneOf, within_all}
use Rattle.placement_order.proofs.NodeTurns.{is_it, take_none}

-- along the visits, g gives the drive no later than f
abbrev pub Earlier : List (ℕ × ℕ) → (ℕ × ℕ → Option Drive) → (ℕ × ℕ → Option Drive) → Drive → Type 0
Earlier [] f g e = Unit {0}
Earlier (w ∷ ws) f g e = (is_it (g w) e ≡ true) ⊎ ((is_it (f w) e ≡ false) × Earlier ws f g e)

-- while f has given fewer than c drives, g has given fewer than n
abbrev pub IsPaced : List (ℕ × ℕ) → (ℕ × ℕ → Option Drive) → (ℕ × ℕ → Option Drive) → ℕ → ℕ → Type 0
IsPaced ws f g c n = (before after : List (ℕ × ℕ)) → ws ≡ before ++ after → length (filter_map f before) < c → length (filter_map g before) < n

abbrev less : Option Drive → ℕ → ℕ
less None c = c
less (Some x) zero = 0
less (Some x) (suc c) = c

less-more : (o : Option Drive) (xs : List Drive) (c : ℕ) → length xs < less o c → length (cons_option o xs) < c
less-more None xs c low = low
less-more (Some x) xs zero low = absurd (omega (arith, low))
less-more (Some x) xs (suc c) low = omega (arith, low)

more-less : (o : Option Drive) (xs : List Drive) (c : ℕ) → length (cons_option o xs) < c → length xs < less o c
more-less None xs c low = low
more-less (Some x) xs zero low = absurd (omega (arith, low))
more-less (Some x) xs (suc c) low = omega (arith, low)

given_now : (o : Option Drive) (xs : List Drive) (c : ℕ) (e : Drive) → is_it o e ≡ true → 0 < c → is_in (take c (cons_option o xs)) e ≡ true
given_now None xs c e here some = absurd (both_ways false refl here)
given_now (Some x) xs zero e here some = absurd (omega (arith, some))
given_now (Some x) xs (suc c) e here some = ap (λ b. cond b true (is_in (take c xs) e)) here

given_later : (o : Option Drive) (xs : List Drive) (c : ℕ) (e : Drive) → is_it o e ≡ false → is_in (take c (cons_option o xs)) e ≡ true → is_in (take (less o c) xs) e ≡ true
given_later None xs c e other there = there
given_later (Some x) xs zero e other there = absurd (both_ways false refl there)
given_later (Some x) xs (suc c) e other there = is_in-later x (take c xs) e other there

given_before : (o : Option Drive) (xs : List Drive) (c : ℕ) (e : Drive) → is_in (take (less o c) xs) e ≡ true → is_in (take c (cons_option o xs)) e ≡ true
given_before None xs c e there = there
given_before (Some x) xs zero e there = absurd (both_ways _ (take_none xs e) there)
given_before (Some x) xs (suc c) e there = is_in-rest x (take c xs) e there

some_taken : (c : ℕ) (xs : List Drive) (e : Drive) → is_in (take c xs) e ≡ true → 0 < c
some_taken zero xs e there = absurd (both_ways _ (take_none xs e) there)
some_taken (suc c) xs e there = omega arith

-- one of the first c of f's drives is one of the first n of g's
pub is_in-paced : (ws : List (ℕ × ℕ)) (f g : ℕ × ℕ → Option Drive) (c n : ℕ) (e : Drive) → IsPaced ws f g c n → Earlier ws f g e
    → is_in (take c (filter_map f ws)) e ≡ true → is_in (take n (filter_map g ws)) e ≡ true
is_in-paced [] f g c n e paced earlier there = absurd (both_ways _ (none_of c) there)
  where
    none_of : (c : ℕ) → is_in (take c []) e ≡ false
    none_of zero = refl
    none_of (suc c) = refl
is_in-paced (w ∷ ws) f g c n e paced earlier there = elim earlier [
  | inl here ↦ given_now (g w) (filter_map g ws) n e here (paced [] (w ∷ ws) refl (some_taken c _ e there))
  | inr later ↦
      given_before (g w) (filter_map g ws) n e
      (is_in-paced ws f g (less (f w) c) (less (g w) n) e
      (λ before after is low. more-less (g w) (filter_map g before) n (paced (w ∷ before) after (ap (λ vs. w ∷ vs) is) (less-more (f w) (filter_map f before) c low)))
      later.1 (given_later (f w) (filter_map f ws) c e later.0 there))
]

module _ (s : DrawRequest) (f g : ℕ × ℕ → Option Drive) (e : Drive) where
  -- what f gives in a round g gives at the same node, in that round or an earlier one
  abbrev pub IsNoLater : Type 0
  IsNoLater = (round node : ℕ) → 1 ≤ node → node ≤ s.shape.nodes → is_it (f (round, node)) e ≡ true
      → (r : ℕ) × (1 ≤ r) × (r ≤ round) × (is_it (g (r, node)) e ≡ true)

  abbrev NoneBefore : ℕ → List ℕ → Type 0
  NoneBefore done nodes = (r node : ℕ) → 1 ≤ r → r ≤ done → IsOneOf node nodes → is_it (g (r, node)) e ≡ false

  in_round : IsNoLater → (ns nodes : List ℕ) (rest : List (ℕ × ℕ)) (done : ℕ) → ((m : ℕ) → IsOneOf m ns → IsOneOf m nodes) → AreWithin s.shape.nodes ns → NoneBefore done nodes
      → (((m : ℕ) → IsOneOf m ns → is_it (g (suc done, m)) e ≡ false) → Earlier rest f g e) → Earlier (visits_in (suc done) ns ++ rest) f g e
  in_round late [] nodes rest done among within none next = next (λ m there. absurd there)
  in_round late (n ∷ ns) nodes rest done among within none next = elim (cases_Bool (is_it (g (suc done, n)) e)) [
    | inl here ↦ inl here
    | inr other ↦ inr (
      false_from_ne_true _ (λ given.
          let first = late (suc done) n within.0 within.1 given in
          elim (cases_lt first.0 (suc done)) [
            | inl below ↦ both_ways _ (none first.0 n first.1 (omega (arith, below)) (among n (inl refl))) first.3
            | inr above ↦
                let low = first.2 in
                let same : first.0 ≡ suc done = omega (arith, above, low) in
                both_ways _ other (subst (λ r. is_it (g (r, n)) e ≡ true) same first.3)
          ]),
      in_round late ns nodes rest done (λ m there. among m (inr there)) within.2 none (λ others. next (λ m there. elim there [
        | inl here ↦ subst (λ k. is_it (g (suc done, k)) e ≡ false) here other
        | inr later ↦ others m later
      ])),
    )
  ]

  all_rounds : IsNoLater → (left done : ℕ) (nodes : List ℕ) → AreWithin s.shape.nodes nodes → NoneBefore done nodes → Earlier (visits_after done left nodes) f g e
  all_rounds late zero done nodes within none = tt
  all_rounds late (suc left) done nodes within none =
      in_round late nodes nodes (visits_after (suc done) left nodes) done (λ m there. there) within none
      (λ others. all_rounds late left (suc done) nodes within (λ r node some low there. elim (cases_lt r (suc done)) [
        | inl below ↦ none r node some (omega (arith, below)) there
        | inr above ↦
            let same : suc done ≡ r = omega (arith, above, low) in
            subst (λ k. is_it (g (k, node)) e ≡ false) same (others node there)
      ]))

  pub earlier_in_all : IsNoLater → Earlier (visits_of s) f g e
  earlier_in_all late =
      all_rounds late s.level.k 0 (nodes_of s) (within_all s.shape.nodes s.spin) (λ r node some low there. absurd (omega (arith, some, low)))

abbrev used_on : DrawRequest → ℕ → ℕ
used_on s node = drives_on s.shape.drives node s.used

abbrev turn_if : List Drive → ℕ → Bool → Option Drive
turn_if lefts i full = cond full None (slice_get lefts i)

-- the round in which a node gives one of its drives that are left
pub turn-at : (s : DrawRequest) (spent : Drive → Bool) (node i : ℕ) → turn_of s spent (used_on s node + i + 1, node) ≡ slice_get (left_on s spent node) i
turn-at s spent node i =
    let index : used_on s node + i + 1 - 1 - used_on s node ≡ i = omega arith in
    ap (turn_if (left_on s spent node) (used_on s node + i + 1 - 1 - used_on s node)) (lt-leb (used_on s node + i + 1) (used_on s node) (omega arith))
    ∙ ap (slice_get (left_on s spent node)) index

-- a round in which a node gives a drive is above the units that it had, and the drive is the next of those left
pub turn-given : (s : DrawRequest) (spent : Drive → Bool) (test : Option Drive → Bool) → test None ≡ false → (round node : ℕ) → test (turn_of s spent (round, node)) ≡ true
    → (i : ℕ) × (round ≡ used_on s node + i + 1) × (test (slice_get (left_on s spent node) i) ≡ true)
turn-given s spent test none round node given = elim (cases_lt (used_on s node) round) [
  | inl above ↦
      let i : ℕ = round - 1 - used_on s node in
      let is : round ≡ used_on s node + i + 1 = omega (arith, above) in
      (i, is, ap test (sym (ap (λ r. turn_of s spent (r, node)) is ∙ turn-at s spent node i)) ∙ given)
  | inr full ↦ absurd (both_ways _ none (sym (ap (λ b. test (turn_if (left_on s spent node) (round - 1 - used_on s node) b)) (le-leb round (used_on s node) full)) ∙ given))
]

-- the drive at this place of a list is in it
pub is_in-slice_get : (xs : List Drive) (k n : ℕ) (e : Drive) → is_it (slice_get xs k) e ≡ true → k < n → is_in (take n xs) e ≡ true
is_in-slice_get [] k n e here low = absurd (both_ways false refl here)
is_in-slice_get (x ∷ xs) k zero e here low = absurd (omega (arith, low))
is_in-slice_get (x ∷ xs) zero (suc n) e here low = ap (λ b. cond b true (is_in (take n xs) e)) here
is_in-slice_get (x ∷ xs) (suc k) (suc n) e here low = is_in-rest x (take n xs) e (is_in-slice_get xs k n e here (omega (arith, low)))

abbrev found_at : Drive → List Drive → ℕ → Drive → Bool → Bool
found_at x rest k e b = is_it (slice_get (cond b (x ∷ rest) rest) k) e

-- where a drive of a filtered list stands among those that pass another test: at most as many places later as drives pass a third, if all
-- that pass the other test pass the one or the third
pub slice_get-moved : (xs : List Drive) (q p r : Drive → Bool) → ((d : Drive) → is_in xs d ≡ true → p d ≡ true → (q d || r d) ≡ true)
    → (j : ℕ) (e : Drive) → p e ≡ true → is_it (slice_get (filter q xs) j) e ≡ true
    → (i : ℕ) × (i ≤ j + count_by r xs) × (is_it (slice_get (filter p xs) i) e ≡ true)
slice_get-moved [] q p r each j e passes here = absurd (both_ways false refl here)
slice_get-moved (x ∷ xs) q p r each zero e passes here =
    let counts = count_by-cons r x xs in
    let later = slice_get-moved xs q p r (λ d there. each d (is_in-rest x xs d there)) zero e passes in
    elim (cases_Bool (q x)) [
      | inl in_q ↦
          let this : same_drive x e ≡ true = ap (found_at x (filter q xs) 0 e) (sym in_q) ∙ here in
          let in_p : p x ≡ true = ap p (same_drive-eq x e this) ∙ passes in
          (0, omega arith, ap (found_at x (filter p xs) 0 e) in_p ∙ this)
      | inr out_q ↦
          let rest = later (ap (found_at x (filter q xs) 0 e) (sym out_q) ∙ here) in
          let low = rest.1 in
          elim (cases_Bool (p x)) [
            | inl in_p ↦
                let one = ap one_if (ap (λ b. b || r x) (sym out_q) ∙ each x (is_in-first x xs) in_p) in
                (suc rest.0, omega (arith, counts, one, low), ap (found_at x (filter p xs) (suc rest.0) e) in_p ∙ rest.2)
            | inr out_p ↦ (rest.0, omega (arith, counts, low), ap (found_at x (filter p xs) rest.0 e) out_p ∙ rest.2)
          ]
    ]
slice_get-moved (x ∷ xs) q p r each (suc j) e passes here =
    let counts = count_by-cons r x xs in
    let among : (d : Drive) → is_in xs d ≡ true → p d ≡ true → (q d || r d) ≡ true = λ d there. each d (is_in-rest x xs d there) in
    elim (cases_Bool (q x)) [
      | inl in_q ↦
          let rest = slice_get-moved xs q p r among j e passes (ap (found_at x (filter q xs) (suc j) e) (sym in_q) ∙ here) in
          let low = rest.1 in
          elim (cases_Bool (p x)) [
            | inl in_p ↦ (suc rest.0, omega (arith, counts, low), ap (found_at x (filter p xs) (suc rest.0) e) in_p ∙ rest.2)
            | inr out_p ↦ (rest.0, omega (arith, counts, low), ap (found_at x (filter p xs) rest.0 e) out_p ∙ rest.2)
          ]
      | inr out_q ↦
          let rest = slice_get-moved xs q p r among (suc j) e passes (ap (found_at x (filter q xs) (suc j) e) (sym out_q) ∙ here) in
          let low = rest.1 in
          elim (cases_Bool (p x)) [
            | inl in_p ↦
                let one = ap one_if (ap (λ b. b || r x) (sym out_q) ∙ each x (is_in-first x xs) in_p) in
                (suc rest.0, omega (arith, counts, one, low), ap (found_at x (filter p xs) (suc rest.0) e) in_p ∙ rest.2)
            | inr out_p ↦ (rest.0, omega (arith, counts, low), ap (found_at x (filter p xs) rest.0 e) out_p ∙ rest.2)
          ]
    ]
