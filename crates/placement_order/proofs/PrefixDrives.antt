-- Which drives stay among the first of the order, and which come among them.
use Rattle.std.proofs.Common.{◌≡◌, ℕ, suc, zero, ◌+◌, ◌-◌, ◌<◌, ◌≤◌, ◌⊎◌, inl, inr, Bool, true, false, not, ◌&&◌, ◌||◌, List, [], ◌∷◌, ◌++◌, filter, filter_map, length, slice_get, take, count_by, Option, Some, None, eqb, refl, sym, ap, subst, ◌∙◌, arith}
use Rattle.std.specs.List.{AllByRecursion, cons_option}
use Rattle.std.proofs.lemmas.Bool.{and_right, both_ways, cases_Bool, cases_lt, or_left, or_parts, or_right}
use Rattle.std.proofs.lemmas.List.{length-take}
use Rattle.std.proofs.lemmas.List.Elements.{filter_map-append}
use Rattle.std.proofs.lemmas.List.Sums.{length-filter}
use Rattle.domains.specs.Counts.{one_if}
use Rattle.domains.specs.Drive.{Drive, same_drive, is_in, AreApart}
use Rattle.domains.specs.Room.{drives_on}
use Rattle.domains.specs.Shape.{is_of}
use Rattle.domains.proofs.DriveLemmas.{is_in-append, is_in-first, is_in-rest, is_in-take}
use Rattle.domains.proofs.CountLemmas.{count_by-cons, count_by-none, count_by-not, one_if-or}
use Rattle.placement_order.specs.Order.{DrawRequest, drives_of, order_of, visits_of}
use Rattle.placement_order.specs.OrderLaws.{MayGive, PrefixesKeepTheirDrives, ReplacementsAreOfThePrefix, UsesToo, WholePrefixesAreTheOrder}
use Rattle.placement_order.specs.Room.{is_left}
use Rattle.placement_order.specs.Turns.{left_on, turn_of}
use Rattle.placement_order.proofs.ApartDrives.{apart-filter, apart-take, is_in-all, is_in-filter, is_in-later}
use Rattle.placement_order.proofs.EarlierTurns.{IsNoLater, IsPaced, earlier_in_all, is_in-paced, is_in-slice_get, slice_get-moved, turn-at, turn-given}
use Rattle.placement_order.proofs.NodeCounts.{counted, drives_of-counted, drives_on-le, drives_on-sum}
use Rattle.placement_order.proofs.NodeDrives.{drives_of-apart, drives_of-on, is_of-on, on-is_of}
use Rattle.placement_order.proofs.NodeTurns.{is_it}
use Rattle.placement_order.proofs.OrderByRounds.{order-by_turns}
use Rattle.placement_order.proofs.OrderMembers.{order-apart, order-of_shape}
use Rattle.placement_order.proofs.RoomFilled.{length-by_nodes}
use Rattle.placement_order.proofs.VisitOutcomes.{IsVisit, are_visits}

abbrev has_some : Option Drive → Bool
has_some None = false
has_some (Some x) = true

some_within : (xs : List Drive) (k : ℕ) → has_some (slice_get xs k) ≡ true → k < length xs
some_within [] k given = absurd (both_ways false refl given)
some_within (x ∷ xs) zero given = omega arith
some_within (x ∷ xs) (suc k) given = let rest = some_within xs k given in omega (arith, rest)

within_some : (xs : List Drive) (k : ℕ) → k < length xs → has_some (slice_get xs k) ≡ true
within_some [] k low = absurd (omega (arith, low))
within_some (x ∷ xs) zero low = refl
within_some (x ∷ xs) (suc k) low = within_some xs k (omega (arith, low))

is_it-some : (o : Option Drive) (e : Drive) → is_it o e ≡ true → has_some o ≡ true
is_it-some None e here = here
is_it-some (Some x) e here = refl

fewer_cons : (a b : Option Drive) (xs ys : List Drive) → (has_some a ≡ true → has_some b ≡ true) → length xs ≤ length ys
    → length (cons_option a xs) ≤ length (cons_option b ys)
fewer_cons None None xs ys more low = low
fewer_cons None (Some y) xs ys more low = omega (arith, low)
fewer_cons (Some x) None xs ys more low = absurd (both_ways false refl (more refl))
fewer_cons (Some x) (Some y) xs ys more low = omega (arith, low)

-- if f gives wherever g gives, g gives no more
fewer : (ws : List (ℕ × ℕ)) (f g : ℕ × ℕ → Option Drive) → ((w : ℕ × ℕ) → has_some (g w) ≡ true → has_some (f w) ≡ true)
    → length (filter_map g ws) ≤ length (filter_map f ws)
fewer [] f g more = omega arith
fewer (w ∷ ws) f g more = fewer_cons (g w) (f w) _ _ (more w) (fewer ws f g more)

abbrev used_on : DrawRequest → ℕ → ℕ
used_on s node = drives_on s.shape.drives node s.used

left_still : (a b c e : Bool) → (a && (b && not c)) ≡ true → e ≡ false → (a && (b && not e)) ≡ true
left_still true true c false h k = refl
left_still true true c true h k = absurd (both_ways _ k refl)
left_still true false c e h k = absurd (both_ways false refl h)
left_still false b c e h k = absurd (both_ways false refl h)

left_before : (a b c e : Bool) → (c ≡ true → e ≡ true) → (a && (b && not e)) ≡ true → ((a && (b && not c)) || false) ≡ true
left_before true true false e more h = refl
left_before true true true e more h = absurd (both_ways _ (ap not (more refl)) h)
left_before true false c e more h = absurd (both_ways false refl h)
left_before false b c e more h = absurd (both_ways false refl h)

or_false : (a : Bool) → (a || false) ≡ true → a ≡ true
or_false true h = refl
or_false false h = h

none_more : (xs : List Drive) → count_by (λ (d : Drive). false) xs ≡ 0
none_more xs = count_by-none xs

in_length : (xs : List Drive) (k : ℕ) (e : Drive) → is_it (slice_get xs k) e ≡ true → is_in xs e ≡ true
in_length xs k e here = is_in-take (suc k) xs e (is_in-slice_get xs k (suc k) e here (omega arith))

one_le : (a b : Bool) → (a ≡ true → b ≡ true) → one_if a ≤ one_if b
one_le false b h = omega arith
one_le true b h = let both = ap one_if (h refl) in omega (arith, both)

-- what passes one of two tests if it passes a third
count_by-either : (xs : List Drive) (p q r : Drive → Bool) → ((d : Drive) → is_in xs d ≡ true → p d ≡ true → (q d || r d) ≡ true)
    → count_by p xs ≤ count_by q xs + count_by r xs
count_by-either [] p q r each = omega arith
count_by-either (x ∷ xs) p q r each =
    let mine = count_by-cons p x xs in
    let one = count_by-cons q x xs in
    let two = count_by-cons r x xs in
    let here = one_le (p x) (q x || r x) (each x (is_in-first x xs)) in
    let both = one_if-or (q x) (r x) in
    let rest = count_by-either xs p q r (λ d there. each d (is_in-rest x xs d there)) in
    omega (arith, mine, one, two, here, both, rest)

length-either : (xs : List Drive) (p q r : Drive → Bool) → ((d : Drive) → is_in xs d ≡ true → p d ≡ true → (q d || r d) ≡ true)
    → length (filter p xs) ≤ length (filter q xs) + count_by r xs
length-either xs p q r each =
    let mine = length-filter p xs in
    let others = length-filter q xs in
    let low = count_by-either xs p q r each in
    omega (arith, mine, others, low)

module _ (s : DrawRequest) (spent more : Drive → Bool) (all : (e : Drive) → spent e ≡ true → more e ≡ true) where
  more_left : (d : Drive) → is_left s more d ≡ true → (is_left s spent d || false) ≡ true
  more_left d left = left_before (s.usable d) (not (s.used d)) (spent d) (more d) (all d) left

  no_later : (d : Drive) → more d ≡ false → IsNoLater s (turn_of s spent) (turn_of s more) d
  no_later d unspent round node some within given =
      let turn = turn-given s spent (λ o. is_it o d) refl round node given in
      let left = (is_in-filter (is_left s spent) (drives_of s node) d (in_length (left_on s spent node) turn.0 d turn.2)).1 in
      let moved = slice_get-moved (drives_of s node) (is_left s spent) (is_left s more) (λ (e : Drive). false)
      (λ e there. more_left e) turn.0 d (left_still (s.usable d) (not (s.used d)) (spent d) (more d) left unspent) turn.2 in
      let none = none_more (drives_of s node) in
      let low = moved.1 in
      let is = turn.1 in
      (used_on s node + moved.0 + 1, omega arith, omega (arith, none, low, is), ap (λ o. is_it o d) (turn-at s more node moved.0) ∙ moved.2)

  shorter : (node : ℕ) → length (left_on s more node) ≤ length (left_on s spent node)
  shorter node =
      let low = length-either (drives_of s node) (is_left s more) (is_left s spent) (λ (e : Drive). false) (λ e there. more_left e) in
      let none = none_more (drives_of s node) in
      omega (arith, low, none)

  gives_too : (w : ℕ × ℕ) → has_some (turn_of s more w) ≡ true → has_some (turn_of s spent w) ≡ true
  gives_too w given =
      let turn = turn-given s more has_some refl w.0 w.1 given in
      let low = some_within (left_on s more w.1) turn.0 turn.2 in
      let fewer = shorter w.1 in
      ap (λ r. has_some (turn_of s spent (r, w.1))) turn.1 ∙ ap has_some (turn-at s spent w.1 turn.0)
      ∙ within_some (left_on s spent w.1) turn.0 (omega (arith, low, fewer))

  keeps : (count : ℕ) (d : Drive) → more d ≡ false → is_in (take count (order_of s spent)) d ≡ true → is_in (take count (order_of s more)) d ≡ true
  keeps count d unspent there =
      ap (λ xs. is_in (take count xs) d) (order-by_turns s more)
      ∙ is_in-paced (visits_of s) (turn_of s spent) (turn_of s more) count count d
      (λ before after is low. let few = fewer before (turn_of s spent) (turn_of s more) gives_too in omega (arith, low, few))
      (earlier_in_all s (turn_of s spent) (turn_of s more) d (no_later d unspent))
      (ap (λ xs. is_in (take count xs) d) (sym (order-by_turns s spent)) ∙ there)

pub prefixes-keep : PrefixesKeepTheirDrives
prefixes-keep s spent more all count d unspent there = keeps s spent more all count d unspent there

unused : (a b c : Bool) → (a && (not b && c)) ≡ true → b ≡ false
unused true false c h = refl
unused true true c h = absurd (both_ways false refl h)
unused false b c h = absurd (both_ways false refl h)

as_many : (a b c : Bool) → c ≡ (a || b) → (b ≡ true → a ≡ false) → one_if c ≡ one_if a + one_if b
as_many false b c is apart = let same = ap one_if is in omega (arith, same)
as_many true true c is apart = absurd (both_ways _ (apart refl) refl)
as_many true false c is apart = let same = ap one_if is in omega (arith, same)

left_or_taken : (a b c e f : Bool) → f ≡ (b || e) → (a && (not b && c)) ≡ true → ((a && (not f && c)) || e) ≡ true
left_or_taken a b c true f is h = or_right (a && (not f && c)) true refl
left_or_taken true false true false f is h = ap (λ x. (true && (not x && true)) || false) is
left_or_taken true false false e f is h = absurd (both_ways false refl h)
left_or_taken true true c e f is h = absurd (both_ways false refl h)
left_or_taken false b c e f is h = absurd (both_ways false refl h)

left_then : (a b c e f : Bool) → f ≡ (b || e) → (a && (not f && c)) ≡ true → (a && (not b && c)) ≡ true
left_then true false true e f is h = refl
left_then true true c e f is h = absurd (both_ways _ (ap (λ x. true && (not x && c)) is) h)
left_then true false false e f is h = absurd (both_ways _ (and_right true (not f && false) (and_right (not f) false refl)) h)
left_then false b c e f is h = absurd (both_ways false refl h)

apart-first : (xs ys : List Drive) → AreApart (xs ++ ys) → AreApart xs
apart-first [] ys apart = tt
apart-first (x ∷ xs) ys apart = ((or_parts (is_in xs x) (is_in ys x) (sym (is_in-append xs ys x) ∙ apart.0)).0, apart-first xs ys apart.1)

all-first : (P : ℕ × ℕ → Type 0) (xs ys : List (ℕ × ℕ)) → AllByRecursion P (xs ++ ys) → AllByRecursion P xs
all-first P [] ys all = tt
all-first P (x ∷ xs) ys all = (all.0, all-first P xs ys all.1)

none_given : (o : Option Drive) (xs : List Drive) → length (cons_option o xs) < 1 → (has_some o ≡ false) × (length xs < 1)
none_given None xs low = (refl, low)
none_given (Some x) xs low = absurd (omega (arith, low))

in_cons : (o : Option Drive) (xs : List Drive) (d : Drive) → is_in (cons_option o xs) d ≡ true → (is_it o d ≡ true) ⊎ (is_in xs d ≡ true)
in_cons None xs d there = inr there
in_cons (Some x) xs d there = elim (cases_Bool (same_drive x d)) [
  | inl here ↦ inl here
  | inr other ↦ inr (is_in-later x xs d other there)
]

module _ (s : DrawRequest) (spent : Drive → Bool) (drives : List Drive) (used : Drive → Bool) (may : MayGive s spent drives) (too : UsesToo s drives used) where
  abbrev then : DrawRequest
  then = record s { used = used }

  abbrev taken_on : ℕ → ℕ
  taken_on node = drives_on s.shape.drives node (is_in drives)

  used_more : (node : ℕ) → 1 ≤ node → node ≤ s.shape.nodes → used_on then node ≡ used_on s node + taken_on node
  used_more node some within =
      drives_on-sum s.shape.drives node used s.used (is_in drives)
      (λ d on. as_many (s.used d) (is_in drives d) (used d) (too d (is_of-on s node d some within on)) (λ there. unused (s.usable d) (s.used d) (not (spent d)) (may.left d there)))

  left_or : (node : ℕ) → 1 ≤ node → node ≤ s.shape.nodes → (d : Drive) → is_in (drives_of s node) d ≡ true → is_left s spent d ≡ true
      → (is_left then spent d || is_in drives d) ≡ true
  left_or node some within d there left =
      left_or_taken (s.usable d) (s.used d) (not (spent d)) (is_in drives d) (used d) (too d (is_of-on s node d some within (drives_of-on s node d there))) left

  given_no_later : (d : Drive) → IsNoLater s (turn_of then spent) (turn_of s spent) d
  given_no_later d round node some within given =
      let turn = turn-given then spent (λ o. is_it o d) refl round node given in
      let among = is_in-filter (is_left then spent) (drives_of s node) d (in_length (left_on then spent node) turn.0 d turn.2) in
      let of = is_of-on s node d some within (drives_of-on s node d among.0) in
      let moved = slice_get-moved (drives_of s node) (is_left then spent) (is_left s spent) (is_in drives) (left_or node some within)
      turn.0 d (left_then (s.usable d) (s.used d) (not (spent d)) (is_in drives d) (used d) (too d of) among.1) turn.2 in
      let low = moved.1 in
      let is = turn.1 in
      let more = used_more node some within in
      let counts = drives_of-counted s node (is_in drives) in
      (used_on s node + moved.0 + 1, omega arith, omega (arith, low, is, more, counts), ap (λ o. is_it o d) (turn-at s spent node moved.0) ∙ moved.2)

  -- what the node gives in a round in which it gives none with the drives used too is one of the first that are left
  one_given : (round node : ℕ) → 1 ≤ node → node ≤ s.shape.nodes → has_some (turn_of then spent (round, node)) ≡ false
      → (d : Drive) → is_it (turn_of s spent (round, node)) d ≡ true → (d.node ≡ node) × (is_in (take (taken_on node) (left_on s spent node)) d ≡ true)
  one_given round node some within none d given =
      let turn = turn-given s spent (λ o. is_it o d) refl round node given in
      let there = in_length (left_on s spent node) turn.0 d turn.2 in
      let on = drives_of-on s node d (is_in-filter (is_left s spent) (drives_of s node) d there).0 in (
        on.node_is,
        elim (cases_lt turn.0 (taken_on node)) [
          | inl low ↦ is_in-slice_get (left_on s spent node) turn.0 (taken_on node) d turn.2 low
          | inr high ↦
              let long = some_within (left_on s spent node) turn.0 (is_it-some (slice_get (left_on s spent node) turn.0) d turn.2) in
              let fewer = length-either (drives_of s node) (is_left s spent) (is_left then spent) (is_in drives) (left_or node some within) in
              let counts = drives_of-counted s node (is_in drives) in
              let more = used_more node some within in
              let is = turn.1 in
              let i : ℕ = turn.0 - taken_on node in
              let round_is : round ≡ used_on then node + i + 1 = omega (arith, is, more, high) in
              let gives : has_some (turn_of then spent (round, node)) ≡ true =
              ap (λ r. has_some (turn_of then spent (r, node))) round_is ∙ ap has_some (turn-at then spent node i)
              ∙ within_some (left_on then spent node) i (omega (arith, long, fewer, counts, high)) in
              absurd (both_ways _ none gives)
        ],
      )

  all_given : (ws : List (ℕ × ℕ)) → AllByRecursion (IsVisit s) ws → length (filter_map (turn_of then spent) ws) < 1
      → (d : Drive) → is_in (filter_map (turn_of s spent) ws) d ≡ true → is_in (take (taken_on d.node) (left_on s spent d.node)) d ≡ true
  all_given [] all low d there = absurd (both_ways false refl there)
  all_given (w ∷ ws) all low d there =
      let none = none_given (turn_of then spent w) (filter_map (turn_of then spent) ws) low in
      elim (in_cons (turn_of s spent w) (filter_map (turn_of s spent) ws) d there) [
        | inl here ↦
            let one = one_given w.0 w.1 all.0.some all.0.within none.0 d here in
            subst (λ n. is_in (take (taken_on n) (left_on s spent n)) d ≡ true) (sym one.0) one.1
        | inr later ↦ all_given ws all.1 none.1 d later
      ]

  bounds : (d : Drive) → is_of s.shape d ≡ true → (1 ≤ d.drive) × (d.drive ≤ s.shape.drives)
  bounds d of = let on = (on-is_of s d of).2 in (on.some, on.within)

  -- before the first drive is given with the drives used too, no more are given without than these are
  paced : (count : ℕ) → length drives < count → IsPaced (visits_of s) (turn_of then spent) (turn_of s spent) 1 count
  paced count few before after is low =
      let given : List Drive = filter_map (turn_of s spent) before in
      let whole : order_of s spent ≡ given ++ filter_map (turn_of s spent) after =
      order-by_turns s spent ∙ ap (filter_map (turn_of s spent)) is ∙ filter_map-append (turn_of s spent) before after in
      let apart : AreApart given = apart-first given _ (subst AreApart whole (order-apart s spent)) in
      let of : (d : Drive) → is_in given d ≡ true → is_of s.shape d ≡ true = λ d there.
      order-of_shape s spent d (ap (λ xs. is_in xs d) whole ∙ is_in-append given _ d ∙ or_left _ _ there) in
      let visits = all-first (IsVisit s) before after (subst (AllByRecursion (IsVisit s)) is (are_visits s)) in
      let fewer = length-by_nodes s given drives of (λ node some within.
      let firsts : List Drive = take (taken_on node) (left_on s spent node) in
      let mine = counted s.shape.drives node given apart (λ d there. bounds d (of d there)) in
      let among = drives_on-le s.shape.drives node (is_in given) (is_in firsts)
      (λ d on there. subst (λ n. is_in (take (taken_on n) (left_on s spent n)) d ≡ true) on.node_is (all_given before visits low d there)) in
      let theirs = counted s.shape.drives node firsts (apart-take (taken_on node) _ (apart-filter (is_left s spent) (drives_of s node) (drives_of-apart s node)))
      (λ d there. let on = drives_of-on s node d (is_in-filter (is_left s spent) (drives_of s node) d (is_in-take (taken_on node) _ d there)).0 in (on.some, on.within)) in
      let most = count_by-not firsts (λ (d : Drive). eqb d.node node) in
      let long = length-take (taken_on node) (left_on s spent node) in
      let all = counted s.shape.drives node drives may.apart (λ d there. bounds d (may.of_shape d there)) in
      omega (arith, mine, among, theirs, most, long, all)) in
      omega (arith, fewer, few)

  comes : (count : ℕ) → length drives < count → (d : Drive) → is_in (take 1 (order_of then spent)) d ≡ true → is_in (take count (order_of s spent)) d ≡ true
  comes count few d there =
      ap (λ xs. is_in (take count xs) d) (order-by_turns s spent)
      ∙ is_in-paced (visits_of s) (turn_of then spent) (turn_of s spent) 1 count d (paced count few)
      (earlier_in_all s (turn_of then spent) (turn_of s spent) d (given_no_later d))
      (ap (λ xs. is_in (take 1 xs) d) (sym (order-by_turns then spent)) ∙ there)

pub replacements-of : ReplacementsAreOfThePrefix
replacements-of s spent drives used may too count few d there = comes s spent drives used may too count few d there

both_true : (a b : Bool) → (a ≡ true → b ≡ true) → (b ≡ true → a ≡ true) → a ≡ b
both_true true b h k = sym (h refl)
both_true false true h k = k refl
both_true false false h k = refl

pub whole-prefixes : WholePrefixesAreTheOrder
whole-prefixes s spent drives apart among d =
    let firsts : List Drive = take (length drives) (order_of s spent) in
    let long = length-take (length drives) (order_of s spent) in
    both_true (is_in drives d) (is_in firsts d) (among d) (is_in-all drives firsts apart among (omega (arith, long)) d)
