-- What a node gives in a round.
use Rattle.std.proofs.Common.{◌≡◌, ℕ, suc, zero, ◌+◌, ◌-◌, ◌≤◌, inl, inr, Bool, true, false, cond, not, ◌&&◌, ◌||◌, List, [], ◌∷◌, take, filter, slice_get, count_by, Option, Some, None, eqb, refl, sym, ap, subst, ◌∙◌, arith}
use Rattle.std.proofs.lemmas.Bool.{cases_Bool, cases_lt, and_left, ne_eqb, le-leb, lt-leb}
use Rattle.domains.specs.Drive.{Drive, same_drive, is_in, AreApart}
use Rattle.domains.specs.Room.{drives_on}
use Rattle.placement_order.specs.Order.{DrawRequest, drives_of, is_open, first_open, given_at, with_drive}
use Rattle.placement_order.specs.Room.{is_left}
use Rattle.placement_order.specs.Turns.{left_on, turn_of}
use Rattle.domains.specs.Counts.{one_if}
use Rattle.domains.proofs.DriveLemmas.{is_in-push, is_in-first, is_in-rest}
use Rattle.domains.proofs.CountLemmas.{count_by-push, one_if-most}
use Rattle.placement_order.proofs.ApartDrives.{is_another}
use Rattle.placement_order.proofs.NodeDrives.{drives_of-apart, drives_of-on}
use Rattle.placement_order.proofs.VisitOutcomes.{at_visit}

left_open : (a b c e : Bool) → ((a && not b) && (not c && not e)) ≡ ((a && (not b && not c)) && not e)
left_open true false false e = refl
left_open true false true e = refl
left_open true true c e = refl
left_open false b c e = refl

-- a drive is open where it is left and has not been drawn
is_open-is : (s : DrawRequest) (spent : Drive → Bool) (drawn : List Drive) (d : Drive) → is_open s spent drawn d ≡ (is_left s spent d && not (is_in drawn d))
is_open-is s spent drawn d = left_open (s.usable d) (s.used d) (spent d) (is_in drawn d)

abbrev choose : Drive → Option Drive → Bool → Option Drive
choose d rest b = cond b (Some d) rest

pub take_none : (ys : List Drive) (d : Drive) → is_in (take 0 ys) d ≡ false
take_none [] d = refl
take_none (y ∷ ys) d = refl

next_left : (m : ℕ) (x : Drive) (xs rest : List Drive) (s : DrawRequest) (spent : Drive → Bool) (drawn : List Drive) → is_in xs x ≡ false → is_left s spent x ≡ true
    → ((k : ℕ) → ((d : Drive) → is_in xs d ≡ true → is_in drawn d ≡ is_in (take k rest) d) → first_open s spent drawn xs ≡ slice_get rest k)
    → ((d : Drive) → is_in (x ∷ xs) d ≡ true → is_in drawn d ≡ is_in (take m (x ∷ rest)) d)
    → first_open s spent drawn (x ∷ xs) ≡ slice_get (x ∷ rest) m
next_left zero x xs rest s spent drawn apart left next all =
    let out : is_in drawn x ≡ false = all x (is_in-first x xs) in
    ap (choose x (first_open s spent drawn xs)) (is_open-is s spent drawn x ∙ ap (λ b. b && not (is_in drawn x)) left ∙ ap not out)
next_left (suc k) x xs rest s spent drawn apart left next all =
    let there : is_in drawn x ≡ true = all x (is_in-first x xs) ∙ is_in-first x (take k rest) in
    ap (choose x (first_open s spent drawn xs)) (is_open-is s spent drawn x ∙ ap (λ b. b && not (is_in drawn x)) left ∙ ap not there)
    ∙ next k (λ d among. all d (is_in-rest x xs d among) ∙ ap (λ b. cond b true (is_in (take k rest) d)) (is_another xs x d apart among))

-- where the first m of those left have been drawn, the first open drive is the next of them
next_open : (ds : List Drive) (m : ℕ) (s : DrawRequest) (spent : Drive → Bool) (drawn : List Drive) → AreApart ds
    → ((d : Drive) → is_in ds d ≡ true → is_in drawn d ≡ is_in (take m (filter (is_left s spent) ds)) d)
    → first_open s spent drawn ds ≡ slice_get (filter (is_left s spent) ds) m
next_open [] m s spent drawn apart all = refl
next_open (x ∷ xs) m s spent drawn apart all =
    let rest : List Drive = filter (is_left s spent) xs in
    let tail : Option Drive = first_open s spent drawn xs in
    elim (cases_Bool (is_left s spent x)) [
      | inr out ↦
          let shut = is_open-is s spent drawn x ∙ ap (λ b. b && not (is_in drawn x)) out in
          let skips : filter (is_left s spent) (x ∷ xs) ≡ rest = ap (λ b. cond b (x ∷ rest) rest) out in
          ap (choose x tail) shut
          ∙ next_open xs m s spent drawn apart.1 (λ d there. all d (is_in-rest x xs d there) ∙ ap (λ ys. is_in (take m ys) d) skips)
          ∙ ap (λ ys. slice_get ys m) (sym skips)
      | inl left ↦
          let has : filter (is_left s spent) (x ∷ xs) ≡ x ∷ rest = ap (λ b. cond b (x ∷ rest) rest) left in
          next_left m x xs rest s spent drawn apart.0 left (λ k. next_open xs k s spent drawn apart.1) (λ d there. all d there ∙ ap (λ ys. is_in (take m ys) d) has)
          ∙ ap (λ ys. slice_get ys m) (sym has)
    ]

first_or : (b c e f : Bool) → c ≡ (e || f) → cond b true c ≡ (cond b true e || f)
first_or true c e f h = refl
first_or false c e f h = h

abbrev pub is_it : Option Drive → Drive → Bool
is_it None d = false
is_it (Some x) d = same_drive x d

or_false : (b : Bool) → b ≡ (b || false)
or_false true = refl
or_false false = refl

-- one more of a list is the next one, if there is one
take_next : (ys : List Drive) (m : ℕ) (d : Drive) → is_in (take (suc m) ys) d ≡ (is_in (take m ys) d || is_it (slice_get ys m) d)
take_next [] zero d = refl
take_next [] (suc m) d = refl
take_next (y ∷ ys) zero d = first_of_one (same_drive y d) (is_in (take 0 ys) d) (take_none ys d)
  where
    first_of_one : (b c : Bool) → c ≡ false → cond b true c ≡ b
    first_of_one true c h = refl
    first_of_one false c h = h
take_next (y ∷ ys) (suc m) d = first_or (same_drive y d) _ _ _ (take_next ys m d)

drawn_next : (drawn : List Drive) (next : Option Drive) (d : Drive) → is_in (with_drive drawn next) d ≡ (is_in drawn d || is_it next d)
drawn_next drawn None d = or_false (is_in drawn d)
drawn_next drawn (Some x) d = is_in-push drawn x d

abbrev on : ℕ → List Drive → ℕ
on node xs = count_by (λ (d : Drive). eqb d.node node) xs

on_next : (drawn : List Drive) (next : Option Drive) (node : ℕ) → on node (with_drive drawn next) ≤ on node drawn + 1
on_next drawn None node = omega arith
on_next drawn (Some x) node =
    let step = count_by-push (λ (d : Drive). eqb d.node node) drawn x in
    let one = one_if-most (eqb x.node node) in
    omega (arith, step, one)

abbrev pub used_on : DrawRequest → ℕ → ℕ
used_on s node = drives_on s.shape.drives node s.used

-- the node has given the first n of its drives that are left
pub record HasGiven (s : DrawRequest) (spent : Drive → Bool) (drawn : List Drive) (many node : ℕ) : Type 0 where
  pub drives : (d : Drive) → d.node ≡ node → is_in drawn d ≡ is_in (take many (left_on s spent node)) d
  pub few : on node drawn ≤ many

-- a visit of another node leaves that so
pub other_visit : (s : DrawRequest) (spent : Drive → Bool) (drawn : List Drive) (many node : ℕ) (visit : ℕ × ℕ) → (visit.1 ≡ node → ⊥)
    → HasGiven s spent drawn many node → HasGiven s spent (with_drive drawn (given_at s spent drawn visit)) many node
other_visit s spent drawn many node visit other given = elim (at_visit s spent drawn visit) [
  | inr nothing ↦ subst (λ xs. HasGiven s spent xs many node) (sym nothing.is) given
  | inl found ↦
      let x : Drive = found.0 in
      let away : x.node ≡ node → ⊥ = λ h. other (sym (drives_of-on s visit.1 x found.1.among).node_is ∙ h) in
      subst (λ xs. HasGiven s spent xs many node) (sym found.1.is) (record {
        drives = λ d on.
            is_in-push drawn x d
            ∙ ap (λ b. is_in drawn d || b) (and_left _ _ (ne_eqb x.node d.node (λ h. away (h ∙ on))))
            ∙ sym (or_false (is_in drawn d)) ∙ given.drives d on;
        few =
            let step = count_by-push (λ (d : Drive). eqb d.node node) drawn x in
            let none = ap one_if (ne_eqb x.node node away) in
            let few = given.few in
            omega (arith, step, none, few);
      })
]

given_next : (s : DrawRequest) (spent : Drive → Bool) (drawn : List Drive) (many node : ℕ) → HasGiven s spent drawn many node
    → HasGiven s spent (with_drive drawn (slice_get (left_on s spent node) many)) (suc many) node
given_next s spent drawn many node given =
    let next : Option Drive = slice_get (left_on s spent node) many in
    record {
      drives = λ d on. drawn_next drawn next d ∙ ap (λ b. b || is_it next d) (given.drives d on) ∙ sym (take_next (left_on s spent node) many d);
      few = let step = on_next drawn next node in let few = given.few in omega (arith, step, few);
    }

abbrev unless : Option Drive → Bool → Option Drive
unless next b = cond b None next

-- what a visit draws is the node's turn of that round, once the node has given its turns of the rounds before
pub record TakesTurn (s : DrawRequest) (spent : Drive → Bool) (drawn : List Drive) (round node : ℕ) : Type 0 where
  pub turn : given_at s spent drawn (suc round, node) ≡ turn_of s spent (suc round, node)
  pub given : HasGiven s spent (with_drive drawn (given_at s spent drawn (suc round, node))) (suc round - used_on s node) node

pub takes_turn : (s : DrawRequest) (spent : Drive → Bool) (drawn : List Drive) (round node : ℕ) → HasGiven s spent drawn (round - used_on s node) node
    → TakesTurn s spent drawn round node
takes_turn s spent drawn round node given =
    let used : ℕ = used_on s node in
    let many : ℕ = round - used in
    let lefts : List Drive = left_on s spent node in
    let first : Option Drive = first_open s spent drawn (drives_of s node) in
    let few = given.few in
    elim (cases_lt round used) [
      | inl full ↦
          let none = ap (unless first) (le-leb (suc round) (used + on node drawn) (omega (arith, full))) in
          let same : round - used ≡ suc round - used = omega (arith, full) in
          record {
            turn = none ∙ sym (ap (unless (slice_get lefts (suc round - 1 - used))) (le-leb (suc round) used (omega (arith, full))));
            given = subst (λ o. HasGiven s spent (with_drive drawn o) (suc round - used) node) (sym none) (subst (λ m. HasGiven s spent drawn m node) same given);
          }
      | inr room ↦
          let next = next_open (drives_of s node) many s spent drawn (drives_of-apart s node) (λ d there. given.drives d (drives_of-on s node d there).node_is) in
          let is : given_at s spent drawn (suc round, node) ≡ slice_get lefts many =
          ap (unless first) (lt-leb (suc round) (used + on node drawn) (omega (arith, room, few))) ∙ next in
          let place : many ≡ suc round - 1 - used = omega arith in
          let more : suc many ≡ suc round - used = omega (arith, room) in
          record {
            turn = is ∙ ap (slice_get lefts) place ∙ sym (ap (unless (slice_get lefts (suc round - 1 - used))) (lt-leb (suc round) used (omega (arith, room))));
            given =
                subst (λ o. HasGiven s spent (with_drive drawn o) (suc round - used) node) (sym is)
                (subst (λ m. HasGiven s spent (with_drive drawn (slice_get lefts many)) m node) more (given_next s spent drawn many node given));
          }
    ]
