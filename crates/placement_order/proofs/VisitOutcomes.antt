-- What a visit of a node draws, and what holds after all visits.
use Rattle.std.proofs.Common.{◌≡◌, ℕ, suc, zero, ◌+◌, ◌<◌, ◌≤◌, ◌⊎◌, inl, inr, Bool, true, false, cond, List, [], ◌∷◌, ◌++◌, Option, Some, None, leb, refl, sym, ap, subst, ◌∙◌, arith}
use Rattle.std.proofs.lemmas.Bool.{cases_Bool, leb-true, leb-false, both_ways}
use Rattle.domains.specs.Drive.{Drive, same_drive, is_in}
use Rattle.std.specs.List.{AllByRecursion}
use Rattle.placement_order.specs.Order.{DrawRequest, nodes_of, drives_of, units_on, is_open, first_open, visits_in, visits_after, visits_of, given_at, with_drive, drawn_in, order_of}
use Rattle.domains.proofs.DriveLemmas.{same_drive-eq, is_in-first, is_in-rest}
use Rattle.placement_order.proofs.CycleLemmas.{AreWithin, within_all}

-- what the first open drive of a list is
pub record IsFound (s : DrawRequest) (spent : Drive → Bool) (drawn ds : List Drive) (d : Drive) : Type 0 where
  pub is : first_open s spent drawn ds ≡ Some d
  pub opens : is_open s spent drawn d ≡ true
  pub among : is_in ds d ≡ true

-- no drive of the list is open
pub record IsShut (s : DrawRequest) (spent : Drive → Bool) (drawn ds : List Drive) : Type 0 where
  pub is : first_open s spent drawn ds ≡ None
  pub shut : (d : Drive) → is_in ds d ≡ true → is_open s spent drawn d ≡ false

abbrev if_open : Drive → Option Drive → Bool → Option Drive
if_open d rest b = cond b (Some d) rest

-- the first open drive of a list is open and in it, or none is
pub first_of : (s : DrawRequest) (spent : Drive → Bool) (drawn ds : List Drive)
    → ((d : Drive) × IsFound s spent drawn ds d) ⊎ IsShut s spent drawn ds
first_of s spent drawn [] = inr (record { is = refl; shut = λ d h. absurd (both_ways false refl h) })
first_of s spent drawn (x ∷ xs) = elim (cases_Bool (is_open s spent drawn x)) [
  | inl opens ↦ inl (
    x,
    record {
      is = ap (if_open x (first_open s spent drawn xs)) opens;
      opens = opens;
      among = is_in-first x xs;
    },
  )
  | inr shut ↦ elim (first_of s spent drawn xs) [
    | inl found ↦ inl (
      found.0,
      record {
        is = ap (if_open x (first_open s spent drawn xs)) shut ∙ found.1.is;
        opens = found.1.opens;
        among = is_in-rest x xs found.0 found.1.among;
      },
    )
    | inr none ↦ inr (record {
      is = ap (if_open x (first_open s spent drawn xs)) shut ∙ none.is;
      shut = λ d h. elim (cases_Bool (same_drive x d)) [
        | inl this ↦ ap (is_open s spent drawn) (sym (same_drive-eq x d this)) ∙ shut
        | inr other ↦ none.shut d (sym (ap (λ b. cond b true (is_in xs d)) other) ∙ h)
      ];
    })
  ]
]

-- the visit draws the drive
pub record IsDrawn (s : DrawRequest) (spent : Drive → Bool) (drawn : List Drive) (visit : ℕ × ℕ) (d : Drive) : Type 0 where
  pub is : with_drive drawn (given_at s spent drawn visit) ≡ drawn ++ d ∷ []
  pub below : units_on s drawn visit.1 < visit.0
  pub opens : is_open s spent drawn d ≡ true
  pub among : is_in (drives_of s visit.1) d ≡ true

-- the visit draws nothing: the node has as many units as the round's number, or no open drive
pub record DrawsNothing (s : DrawRequest) (spent : Drive → Bool) (drawn : List Drive) (visit : ℕ × ℕ) : Type 0 where
  pub is : with_drive drawn (given_at s spent drawn visit) ≡ drawn
  pub why : (visit.0 ≤ units_on s drawn visit.1) ⊎ ((d : Drive) → is_in (drives_of s visit.1) d ≡ true → is_open s spent drawn d ≡ false)

abbrev drawn_if : List Drive → Bool → Option Drive → List Drive
drawn_if drawn full first = with_drive drawn (cond full None first)

pub at_visit : (s : DrawRequest) (spent : Drive → Bool) (drawn : List Drive) (visit : ℕ × ℕ)
    → ((d : Drive) × IsDrawn s spent drawn visit d) ⊎ DrawsNothing s spent drawn visit
at_visit s spent drawn visit =
    let first : Option Drive = first_open s spent drawn (drives_of s visit.1) in
    elim (cases_Bool (leb visit.0 (units_on s drawn visit.1))) [
      | inl full ↦ inr (record {
        is = ap (λ b. drawn_if drawn b first) full;
        why = inl (leb-true visit.0 (units_on s drawn visit.1) full);
      })
      | inr room ↦ elim (first_of s spent drawn (drives_of s visit.1)) [
        | inl found ↦ inl (
          found.0,
          record {
            is = ap (λ b. drawn_if drawn b first) room ∙ ap (with_drive drawn) found.1.is;
            below = leb-false visit.0 (units_on s drawn visit.1) room;
            opens = found.1.opens;
            among = found.1.among;
          },
        )
        | inr none ↦ inr (record {
          is = ap (λ b. drawn_if drawn b first) room ∙ ap (with_drive drawn) none.is;
          why = inr none.shut;
        })
      ]
    ]

-- what holds of a list, and of the longer one wherever a visit draws, holds after all visits
pub drawn_keeps : (visits : List (ℕ × ℕ)) (s : DrawRequest) (spent : Drive → Bool) (V : ℕ × ℕ → Type 0) (P : List Drive → Type 0)
    → ((visit : ℕ × ℕ) → V visit → (drawn : List Drive) (d : Drive) → IsDrawn s spent drawn visit d → P drawn → P (drawn ++ d ∷ []))
    → AllByRecursion V visits → (drawn : List Drive) → P drawn → P (drawn_in visits s spent drawn)
drawn_keeps [] s spent V P step all drawn p = p
drawn_keeps (visit ∷ visits) s spent V P step all drawn p =
    drawn_keeps visits s spent V P step all.1 (with_drive drawn (given_at s spent drawn visit))
    (elim (at_visit s spent drawn visit) [
      | inl found ↦ subst P (sym found.1.is) (step visit all.0 drawn found.0 found.1 p)
      | inr nothing ↦ subst P (sym nothing.is) p
    ])

-- a visit of a node of the cluster, in one of the rounds of the level
pub record IsVisit (s : DrawRequest) (visit : ℕ × ℕ) : Type 0 where
  pub round : visit.0 ≤ s.level.k
  pub some : 1 ≤ visit.1
  pub within : visit.1 ≤ s.shape.nodes

are_visits_in : (s : DrawRequest) (round : ℕ) (nodes : List ℕ) (rest : List (ℕ × ℕ)) → round ≤ s.level.k → AreWithin s.shape.nodes nodes
    → AllByRecursion (IsVisit s) rest → AllByRecursion (IsVisit s) (visits_in round nodes ++ rest)
are_visits_in s round [] rest low within after = after
are_visits_in s round (n ∷ ns) rest low within after =
    (record { round = low; some = within.0; within = within.1 }, are_visits_in s round ns rest low within.2 after)

are_visits_after : (left done : ℕ) (s : DrawRequest) (nodes : List ℕ) → done + left ≤ s.level.k → AreWithin s.shape.nodes nodes
    → AllByRecursion (IsVisit s) (visits_after done left nodes)
are_visits_after zero done s nodes low within = tt
are_visits_after (suc left) done s nodes low within =
    are_visits_in s (suc done) nodes (visits_after (suc done) left nodes) (omega arith) within
    (are_visits_after left (suc done) s nodes (omega arith) within)

pub are_visits : (s : DrawRequest) → AllByRecursion (IsVisit s) (visits_of s)
are_visits s = are_visits_after s.level.k 0 s (nodes_of s) (omega arith) (within_all s.shape.nodes s.spin)

-- what holds of the empty list, and of a longer one wherever a visit draws, holds of the order
pub order_keeps : (s : DrawRequest) (spent : Drive → Bool) (P : List Drive → Type 0) → P []
    → ((visit : ℕ × ℕ) → IsVisit s visit → (drawn : List Drive) (d : Drive) → IsDrawn s spent drawn visit d → P drawn → P (drawn ++ d ∷ []))
    → P (order_of s spent)
order_keeps s spent P none step = drawn_keeps (visits_of s) s spent (IsVisit s) P step (are_visits s) [] none
