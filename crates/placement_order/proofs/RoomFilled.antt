-- A full group has as many drives as further units find a place.
use Rattle.std.proofs.Common.{◌≡◌, ℕ, suc, zero, ◌+◌, ◌-◌, ◌<◌, ◌≤◌, max, inl, inr, Bool, true, false, not, ◌&&◌, List, [], ◌∷◌, length, count_by, min, eqb, leb, refl, sym, ap, ap₂, subst, ◌∙◌, le_trans, length-take-le, arith}
use Rattle.std.proofs.Math.Nat.{le-min, max-eq_left, max-eq_right, min-eq_left, min-eq_right, min-le_left, min-le_right}
use Rattle.std.proofs.lemmas.Bool.{cases_eq, cases_lt, eq-eqb, ne_eqb, le-leb, lt-leb, and_right, both_ways, true≢false}
use Rattle.domains.specs.Drive.{Drive, is_in}
use Rattle.domains.specs.Room.{drives_on, room_up_to}
use Rattle.domains.specs.Shape.{is_of}
use Rattle.placement_order.specs.Order.{DrawRequest, units_on, order_of}
use Rattle.placement_order.specs.Room.{is_left, marked_up_to, room_left_up_to}
use Rattle.placement_order.specs.OrderLaws.{FullGroupsFillTheRoom, MayGive, NewGroupsFindTheRoom, NoneIsLeft, OrderFillsTheRoom, PrefixesAreWhole, RoomIsWithinTheLevel, SpentDrivesMakeNoRoom, UsedDrivesTakeTheirRoom}
use Rattle.domains.specs.Counts.{one_if}
use Rattle.domains.proofs.DriveLemmas.{is_in-first, is_in-rest}
use Rattle.domains.proofs.CountLemmas.{count_by-cons, count_by-not}
use Rattle.placement_order.proofs.NodeDrives.{is_of-on, on-is_of}
use Rattle.placement_order.proofs.OrderMembers.{order-may_give}
use Rattle.placement_order.proofs.NodeCounts.{counted, drives_on-agree, drives_on-le, drives_on-sum}
use Rattle.placement_order.proofs.OrderComplete.{order-complete}

abbrev on : ℕ → List Drive → ℕ
on node xs = count_by (λ (d : Drive). eqb d.node node) xs

-- a group that may give slots together has on a node at most as many drives as the group may have further units there
few_on : (s : DrawRequest) (drives : List Drive) (node : ℕ) → units_on s drives node ≤ max s.level.k (drives_on s.shape.drives node s.used)
    → on node drives ≤ s.level.k - drives_on s.shape.drives node s.used
few_on s drives node spread =
    let used : ℕ = drives_on s.shape.drives node s.used in
    elim (cases_lt used s.level.k) [
      | inl below ↦ let most = max-eq_left {n = s.level.k} {m = used} (omega (arith, below)) in omega (arith, spread, most)
      | inr full ↦ let most = max-eq_right {n = s.level.k} {m = used} full in omega (arith, spread, most)
    ]

-- on a node a full group has as many drives as are left there, or as many as it may have further units there
on_node : (s : DrawRequest) (spent : Drive → Bool) (drives : List Drive) → MayGive s spent drives → NoneIsLeft s spent drives
    → (node : ℕ) → 1 ≤ node → node ≤ s.shape.nodes
    → on node drives ≡ min (drives_on s.shape.drives node (is_left s spent)) (s.level.k - drives_on s.shape.drives node s.used)
on_node s spent drives may all node some within =
    let count : ℕ = s.shape.drives in
    let used : ℕ = drives_on count node s.used in
    let here : ℕ = drives_on count node (is_left s spent) in
    let counts = counted count node drives may.apart (λ d there. let on = (on-is_of s d (may.of_shape d there)).2 in (on.some, on.within)) in
    let few = few_on s drives node (may.spread node) in
    let among = drives_on-le count node (is_in drives) (is_left s spent) (λ d there. may.left d) in
    let most : on node drives ≤ min here (s.level.k - used) = le-min (omega (arith, counts, among)) few in
    let low = min-le_left here (s.level.k - used) in
    let high = min-le_right here (s.level.k - used) in
    elim (cases_lt (used + on node drives) s.level.k) [
      | inr full ↦ omega (arith, most, high, full)
      | inl below ↦
          let each = drives_on-le count node (is_left s spent) (is_in drives) (λ d there left. elim (all d (is_of-on s node d some within there) left) [
            | inl is ↦ is
            | inr full ↦ let here = subst (λ n. s.level.k ≤ units_on s drives n) there.node_is full in absurd (omega (arith, here, below))
          ]) in
          omega (arith, most, low, counts, each)
    ]

one_node_more : (m n : ℕ) → one_if (leb m (suc n)) ≡ one_if (leb m n) + one_if (eqb m (suc n))
one_node_more m n = elim (cases_lt m (suc n)) [
  | inl below ↦
      let now = ap one_if (le-leb m (suc n) (omega arith)) in
      let before = ap one_if (le-leb m n (omega arith)) in
      let other = ap one_if (ne_eqb m (suc n) (λ h. omega (arith, h, below))) in
      omega (arith, now, before, other)
  | inr above ↦ elim (cases_eq m (suc n)) [
    | inl same ↦
        let now = ap one_if (le-leb m (suc n) (omega arith)) in
        let before = ap one_if (lt-leb m n (omega arith)) in
        let this = ap one_if (eq-eqb m (suc n) same) in
        omega (arith, now, before, this)
    | inr apart ↦
        let past : suc n < m = omega (arith, above, apart) in
        let now = ap one_if (lt-leb m (suc n) past) in
        let before = ap one_if (lt-leb m n (omega arith)) in
        let other = ap one_if (ne_eqb m (suc n) apart) in
        omega (arith, now, before, other)
  ]
]

up_to : (n : ℕ) (xs : List Drive) → count_by (λ d. leb d.node (suc n)) xs ≡ count_by (λ d. leb d.node n) xs + on (suc n) xs
up_to n [] = refl
up_to n (x ∷ xs) =
    let now = count_by-cons (λ d. leb d.node (suc n)) x xs in
    let before = count_by-cons (λ d. leb d.node n) x xs in
    let here = count_by-cons (λ d. eqb d.node (suc n)) x xs in
    let this = one_node_more x.node n in
    let rest = up_to n xs in
    omega (arith, now, before, here, this, rest)

-- if each drive of a list passes, as many pass as it has
count_all : (p : Drive → Bool) (xs : List Drive) → ((d : Drive) → is_in xs d ≡ true → p d ≡ true) → count_by p xs ≡ length xs
count_all p [] all = refl
count_all p (x ∷ xs) all =
    let step = count_by-cons p x xs in
    let this = ap one_if (all x (is_in-first x xs)) in
    let rest = count_all p xs (λ d there. all d (is_in-rest x xs d there)) in
    omega (arith, step, this, rest)

count_no : (p : Drive → Bool) (xs : List Drive) → ((d : Drive) → is_in xs d ≡ true → p d ≡ false) → count_by p xs ≡ 0
count_no p [] none = refl
count_no p (x ∷ xs) none =
    let step = count_by-cons p x xs in
    let this = ap one_if (none x (is_in-first x xs)) in
    let rest = count_no p xs (λ d there. none d (is_in-rest x xs d there)) in
    omega (arith, step, this, rest)

-- on the first n nodes a full group has as many drives as further units find a place there
on_nodes : (n : ℕ) (s : DrawRequest) (spent : Drive → Bool) (drives : List Drive) → MayGive s spent drives → NoneIsLeft s spent drives → n ≤ s.shape.nodes
    → count_by (λ d. leb d.node n) drives ≡ room_left_up_to n s spent
on_nodes zero s spent drives may all within =
    count_no (λ d. leb d.node 0) drives (λ d there. lt-leb d.node 0 (let some = (on-is_of s d (may.of_shape d there)).0 in omega (arith, some)))
on_nodes (suc n) s spent drives may all within =
    let step = up_to n drives in
    let here = on_node s spent drives may all (suc n) (omega arith) within in
    let rest = on_nodes n s spent drives may all (omega arith) in
    omega (arith, step, here, rest)

pub full-fills : FullGroupsFillTheRoom
full-fills s spent drives may all =
    sym (count_all (λ d. leb d.node s.shape.nodes) drives (λ d there. le-leb d.node s.shape.nodes (on-is_of s d (may.of_shape d there)).1))
    ∙ on_nodes s.shape.nodes s spent drives may all (omega arith)

pub order-fills : OrderFillsTheRoom
order-fills s spent = full-fills s spent (order_of s spent) (order-may_give s spent) (order-complete s spent)

pub prefixes-whole : PrefixesAreWhole
prefixes-whole s spent count room =
    let fills = order-fills s spent in length-take-le count (order_of s spent) (omega (arith, room, fills))

node_by_node : (n : ℕ) (s : DrawRequest) (xs ys : List Drive) → ((d : Drive) → is_in xs d ≡ true → is_of s.shape d ≡ true)
    → ((node : ℕ) → 1 ≤ node → node ≤ s.shape.nodes → on node xs ≤ on node ys) → n ≤ s.shape.nodes
    → count_by (λ d. leb d.node n) xs ≤ count_by (λ d. leb d.node n) ys
node_by_node zero s xs ys of each within =
    let none = count_no (λ d. leb d.node 0) xs (λ d there. lt-leb d.node 0 (let some = (on-is_of s d (of d there)).0 in omega (arith, some))) in
    omega (arith, none)
node_by_node (suc n) s xs ys of each within =
    let mine = up_to n xs in
    let others = up_to n ys in
    let here = each (suc n) (omega arith) within in
    let rest = node_by_node n s xs ys of each (omega arith) in
    omega (arith, mine, others, here, rest)

count_most : (p : Drive → Bool) (xs : List Drive) → count_by p xs ≤ length xs
count_most p xs = let sum = count_by-not xs p in omega (arith, sum)

-- drives of the cluster of which there are no more than others on each node are no more than those
pub length-by_nodes : (s : DrawRequest) (xs ys : List Drive) → ((d : Drive) → is_in xs d ≡ true → is_of s.shape d ≡ true)
    → ((node : ℕ) → 1 ≤ node → node ≤ s.shape.nodes → on node xs ≤ on node ys) → length xs ≤ length ys
length-by_nodes s xs ys of each =
    let all = count_all (λ d. leb d.node s.shape.nodes) xs (λ d there. le-leb d.node s.shape.nodes (on-is_of s d (of d there)).1) in
    let fewer = node_by_node s.shape.nodes s xs ys of each (omega arith) in
    let most = count_most (λ d. leb d.node s.shape.nodes) ys in
    omega (arith, all, fewer, most)

unused_test : (a b c : Bool) → b ≡ false → (a && (not b && not c)) ≡ (a && not c)
unused_test a true c h = absurd (true≢false h)
unused_test a false c h = refl

none_used : (count node : ℕ) (used : Drive → Bool) → ((d : Drive) → used d ≡ false) → drives_on count node used ≡ 0
none_used zero node used none = refl
none_used (suc n) node used none =
    let last = ap one_if (none (record { node = node; drive = suc n })) in let rest = none_used n node used none in omega (arith, last, rest)

new_room : (n : ℕ) (s : DrawRequest) (spent : Drive → Bool) → ((d : Drive) → s.used d ≡ false)
    → room_left_up_to n s spent ≡ room_up_to n s.level s.shape (λ d. s.usable d && not (spent d))
new_room zero s spent none = refl
new_room (suc n) s spent none =
    let count : ℕ = s.shape.drives in
    let here = drives_on-agree count (suc n) (is_left s spent) (λ d. s.usable d && not (spent d)) (λ d on. unused_test (s.usable d) (s.used d) (spent d) (none d)) in
    let all : s.level.k - drives_on count (suc n) s.used ≡ s.level.k = ap (λ (u : ℕ). s.level.k - u) (none_used count (suc n) s.used none) ∙ omega arith in
    ap₂ ◌+◌ (new_room n s spent none) (ap₂ min here all)

pub new-groups : NewGroupsFindTheRoom
new-groups s spent none = new_room s.shape.nodes s spent none

less_left : (a b c e : Bool) → (c ≡ true → e ≡ true) → (a && (b && not e)) ≡ true → (a && (b && not c)) ≡ true
less_left true true false e h k = refl
less_left true true true e h k = absurd (both_ways _ (ap not (h refl)) k)
less_left true false c e h k = k
less_left false b c e h k = k

less_room : (n : ℕ) (s : DrawRequest) (spent more : Drive → Bool) → ((d : Drive) → spent d ≡ true → more d ≡ true)
    → room_left_up_to n s more ≤ room_left_up_to n s spent
less_room zero s spent more all = omega arith
less_room (suc n) s spent more all =
    let count : ℕ = s.shape.drives in
    let fewer = drives_on-le count (suc n) (is_left s more) (is_left s spent) (λ d on. less_left (s.usable d) (not (s.used d)) (spent d) (more d) (all d)) in
    let rest = less_room n s spent more all in
    let limit : ℕ = s.level.k - drives_on count (suc n) s.used in
    let low = min-le_left (drives_on count (suc n) (is_left s more)) limit in
    let high = min-le_right (drives_on count (suc n) (is_left s more)) limit in
    let here = le-min {k = min (drives_on count (suc n) (is_left s more)) limit} (le_trans low fewer) high in
    omega (arith, here, rest)

pub spent-drives : SpentDrivesMakeNoRoom
spent-drives s spent more all = less_room s.shape.nodes s spent more all

left_usable : (a b c : Bool) → (a && (not b && c)) ≡ true → (a && c) ≡ true
left_usable true false c h = h
left_usable true true c h = absurd (both_ways false refl h)
left_usable false b c h = h

pub room_within : RoomIsWithinTheLevel
room_within s spent = up_to_node s.shape.nodes
  where
    at_node : (node : ℕ) → min (drives_on s.shape.drives node (is_left s spent)) (s.level.k - drives_on s.shape.drives node s.used)
        ≤ min (drives_on s.shape.drives node (λ d. s.usable d && not (spent d))) s.level.k
    at_node node =
        let here : ℕ = drives_on s.shape.drives node (is_left s spent) in
        let limit : ℕ = s.level.k - drives_on s.shape.drives node s.used in
        let fewer = drives_on-le s.shape.drives node (is_left s spent) (λ d. s.usable d && not (spent d)) (λ d on. left_usable (s.usable d) (s.used d) (not (spent d))) in
        let low = min-le_left here limit in
        let high = min-le_right here limit in
        le-min {k = min here limit} (le_trans low fewer) (omega (arith, high))

    up_to_node : (n : ℕ) → room_left_up_to n s spent ≤ room_up_to n s.level s.shape (λ d. s.usable d && not (spent d))
    up_to_node zero = omega arith
    up_to_node (suc n) = let here = at_node (suc n) in let rest = up_to_node n in omega (arith, here, rest)

left_or_used : (a b c : Bool) → (b ≡ true → (a && c) ≡ true) → one_if (a && c) ≡ one_if (a && (not b && c)) + one_if b
left_or_used true true true h = refl
left_or_used a true false h = absurd (both_ways (a && false) (and_right a false refl) (h refl))
left_or_used false true c h = absurd (both_ways false refl (h refl))
left_or_used true false c h = omega arith
left_or_used false false c h = refl

min_beside : (left used k : ℕ) → used ≤ k → min left (k - used) + used ≡ min (left + used) k
min_beside left used k few = elim (cases_lt (left + used) k) [
  | inl below ↦
      let one = min-eq_left {n = left} {m = k - used} (omega (arith, below)) in
      let two = min-eq_left {n = left + used} {m = k} (omega (arith, below)) in
      omega (arith, one, two)
  | inr above ↦
      let one = min-eq_right {n = k - used} {m = left} (omega (arith, above)) in
      let two = min-eq_right {n = k} {m = left + used} above in
      omega (arith, one, two, few)
]

beside : (n : ℕ) (s : DrawRequest) (spent : Drive → Bool) → ((d : Drive) → s.used d ≡ true → (s.usable d && not (spent d)) ≡ true)
    → ((node : ℕ) → drives_on s.shape.drives node s.used ≤ s.level.k)
    → room_left_up_to n s spent + marked_up_to n s.shape.drives s.used ≡ room_up_to n s.level s.shape (λ d. s.usable d && not (spent d))
beside zero s spent usable few = refl
beside (suc n) s spent usable few =
    let count : ℕ = s.shape.drives in
    let all = drives_on-sum count (suc n) (λ d. s.usable d && not (spent d)) (is_left s spent) s.used (λ d on. left_or_used (s.usable d) (s.used d) (not (spent d)) (usable d)) in
    let here = min_beside (drives_on count (suc n) (is_left s spent)) (drives_on count (suc n) s.used) s.level.k (few (suc n)) in
    let same = ap (λ m. min m s.level.k) all in
    let rest = beside n s spent usable few in
    omega (arith, here, same, rest)

pub used-take_room : UsedDrivesTakeTheirRoom
used-take_room s spent usable few = beside s.shape.nodes s spent usable few
