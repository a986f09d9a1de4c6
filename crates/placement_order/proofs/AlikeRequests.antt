-- Two requests in one cluster that find the same drives left, as far as the first n drives of the order go.
use Rattle.std.proofs.Common.{◌≡◌, ℕ, ◌+◌, ◌<◌, ◌≤◌, inl, inr, Bool, true, false, cond, not, ◌&&◌, ◌||◌, List, [], ◌∷◌, ◌++◌, length, take, zero, suc, count_by, eqb, Option, Some, None, nat_le, append-nil, append_assoc, refl, sym, ap, subst, ◌∙◌, arith}
use Rattle.std.specs.List.{AllByRecursion}
use Rattle.std.proofs.lemmas.Bool.{both_ways, cases_Bool, cases_lt, false_from_ne_true, or_right}
use Rattle.std.proofs.lemmas.List.{length_push}
use Rattle.domains.specs.Drive.{Drive, is_in, same_drive}
use Rattle.domains.specs.Room.{drives_on}
use Rattle.domains.specs.Shape.{is_of}
use Rattle.domains.proofs.DriveLemmas.{is_in-append, is_in-first, is_in-push, is_in-rest, same_drive-self}
use Rattle.placement_order.specs.Order.{DrawRequest, drawn_in, drives_of, first_open, given_at, is_open, order_of, units_on, visits_of, with_drive}
use Rattle.placement_order.specs.PassedDrives.{passed_at, passed_in, passed_of, passed_on}
use Rattle.placement_order.specs.Room.{is_left}
use Rattle.placement_order.proofs.ApartDrives.{is_in-later}
use Rattle.placement_order.proofs.GroupChanges.{is_left-from, is_left-parts}
use Rattle.placement_order.proofs.NodeDrives.{drives_of-on, is_of-on}
use Rattle.placement_order.proofs.OrderMembers.{each_push, is_open-parts}
use Rattle.placement_order.proofs.PassedVisits.{passed_if, passed_in-enough, passed_in-next, passed_on-given, passed_on-shut, passed_on-spent}
use Rattle.placement_order.proofs.VisitOutcomes.{IsVisit, are_visits}
use Rattle.placement_order.proofs.VisitsLeft.{begins, first_open-is, first_open-next, open_from, take-drawn}

-- two tries of a drive, of which each knows other drives to be spent
same_tries : (free other p q e : Bool) → other ≡ free → (free ≡ true → q ≡ p) → (other && (not q && not e)) ≡ (free && (not p && not e))
same_tries true true p q e same known = ap (λ b. not b && not e) (known refl)
same_tries false false p q e same known = refl
same_tries true false p q e same known = absurd (both_ways false refl same)
same_tries false true p q e same known = absurd (both_ways true same refl)

-- what begins a list is in a prefix of it that is no shorter
is_in-beginning : (n : ℕ) (xs ys : List Drive) (d : Drive) → length xs ≤ n → is_in xs d ≡ true → is_in (take n (xs ++ ys)) d ≡ true
is_in-beginning n [] ys d low there = absurd (both_ways false refl there)
is_in-beginning zero (x ∷ xs) ys d low there = absurd (omega (arith, low))
is_in-beginning (suc n) (x ∷ xs) ys d low there = elim (cases_Bool (same_drive x d)) [
  | inl here ↦ ap (λ b. cond b true (is_in (take n (xs ++ ys)) d)) here
  | inr other ↦ is_in-rest x (take n (xs ++ ys)) d (is_in-beginning n xs ys d (omega (arith, low)) (is_in-later x xs d other there))
]

open_left : (s : DrawRequest) (spent : Drive → Bool) (drawn : List Drive) (d : Drive) → is_left s spent d ≡ true → is_in drawn d ≡ false → is_open s spent drawn d ≡ true
open_left s spent drawn d left out =
    let parts = is_left-parts s spent d left in open_from (s.usable d) (s.used d) (spent d) (is_in drawn d) parts.0 parts.1 parts.2 out

-- a drive that is open to a request that knows other drives to be spent is left, if it is not spent
left_if : (s : DrawRequest) (known spent : Drive → Bool) (drawn : List Drive) (d : Drive) → is_open s known drawn d ≡ true → spent d ≡ false → is_left s spent d ≡ true
left_if s known spent drawn d opens unspent =
    let parts = is_left-parts s known d (is_open-parts s known drawn d opens).0 in is_left-from s spent d parts.0 parts.1 unspent

length-with : (drawn : List Drive) (given : Option Drive) → length (with_drive drawn given) ≤ length drawn + 1
length-with drawn None = omega arith
length-with drawn (Some d) = let long = length_push drawn d in omega (arith, long)

abbrev given_if : Bool → Option Drive → Option Drive
given_if full first = cond full None first

module _ (s : DrawRequest) (spent usable used more : Drive → Bool) where
  -- the other request
  abbrev pub other : DrawRequest
  other = record s { usable = usable; used = used }

  -- what the other request finds left the one does too, and so do both of the first n drives of the order; on each node as many are used
  pub record FindsLeft (count : ℕ) : Type 0 where
    pub units : (node : ℕ) → 1 ≤ node → node ≤ s.shape.nodes → drives_on s.shape.drives node used ≡ drives_on s.shape.drives node s.used
    pub less : (d : Drive) → is_of s.shape d ≡ true → is_left other more d ≡ true → is_left s spent d ≡ true
    pub kept : (d : Drive) → is_in (take count (order_of s spent)) d ≡ true → is_left other more d ≡ true

  -- both let the same drives be tried, none of which is one of these, and these come before
  pub record TriesSame (before : List Drive) : Type 0 where
    pub free : (d : Drive) → is_of s.shape d ≡ true → (usable d && not (used d)) ≡ (s.usable d && not (s.used d))
    pub shut : (d : Drive) → is_of s.shape d ≡ true → is_in before d ≡ true → (s.usable d && not (s.used d)) ≡ false

  abbrev AreOf : List Drive → Type 0
  AreOf ds = (d : Drive) → is_in ds d ≡ true → is_of s.shape d ≡ true

  abbrev FirstIsLeft : List Drive → List Drive → Type 0
  FirstIsLeft drawn ds = (d : Drive) → first_open s spent drawn ds ≡ Some d → is_left other more d ≡ true

  abbrev AreSpent : List Drive → Type 0
  AreSpent passed = (d : Drive) → is_in passed d ≡ true → spent d ≡ true

  module _ (less : (d : Drive) → is_of s.shape d ≡ true → is_left other more d ≡ true → is_left s spent d ≡ true) where
    first_open-kept : (drawn ds : List Drive) → AreOf ds → FirstIsLeft drawn ds → first_open other more drawn ds ≡ first_open s spent drawn ds
    first_open-kept drawn [] of kept = refl
    first_open-kept drawn (d ∷ ds) of kept = elim (cases_Bool (is_open s spent drawn d)) [
      | inl opens ↦
          let left = kept d (first_open-is s spent drawn d ds opens) in
          first_open-is other more drawn d ds (open_left other more drawn d left (is_open-parts s spent drawn d opens).1)
          ∙ sym (first_open-is s spent drawn d ds opens)
      | inr shut ↦
          let shut_too : is_open other more drawn d ≡ false
          = false_from_ne_true _ (λ opens.
          let parts = is_open-parts other more drawn d opens in
          both_ways _ shut (open_left s spent drawn d (less d (of d (is_in-first d ds)) parts.0) parts.1)) in
          first_open-next other more drawn d ds shut_too
          ∙ first_open-kept drawn ds (λ e there. of e (is_in-rest d ds e there)) (λ e is. kept e (first_open-next s spent drawn d ds shut ∙ is))
          ∙ sym (first_open-next s spent drawn d ds shut)
    ]

    module _ (before : List Drive) (tries : TriesSame before) where
      same_try : (drawn passed : List Drive) (d : Drive) → is_of s.shape d ≡ true → is_open other (is_in (before ++ passed)) drawn d ≡ is_open s (is_in passed) drawn d
      same_try drawn passed d of =
          same_tries (s.usable d && not (s.used d)) (usable d && not (used d)) (is_in passed d) (is_in (before ++ passed) d) (is_in drawn d) (tries.free d of)
          (λ free.
          let out : is_in before d ≡ false = false_from_ne_true _ (λ there. both_ways _ (tries.shut d of there) free) in
          is_in-append before passed d ∙ ap (λ b. b || is_in passed d) out)

      -- what both pass over on a node, and that it is spent
      passed_on-kept : (drawn ds passed : List Drive) → AreOf ds → FirstIsLeft drawn ds → AreSpent passed
          → (passed_on other more drawn ds (before ++ passed) ≡ before ++ passed_on s spent drawn ds passed) × AreSpent (passed_on s spent drawn ds passed)
      passed_on-kept drawn [] passed of kept known = (refl, known)
      passed_on-kept drawn (d ∷ ds) passed of kept known =
          let here = of d (is_in-first d ds) in
          let rest : AreOf ds = λ e there. of e (is_in-rest d ds e there) in
          let same = same_try drawn passed d here in
          elim (cases_Bool (is_open s (is_in passed) drawn d)) [
            | inl tried ↦
                let tried_too = same ∙ tried in
                let out = (is_open-parts s (is_in passed) drawn d tried).1 in
                elim (cases_Bool (spent d)) [
                  | inl gone ↦
                      let gone_too : more d ≡ true = elim (cases_Bool (more d)) [
                        | inl is ↦ is
                        | inr still ↦
                            let left = less d here (left_if other (is_in (before ++ passed)) more drawn d tried_too still) in
                            absurd (both_ways _ (is_left-parts s spent d left).2 gone)
                      ] in
                      let closed : is_open s spent drawn d ≡ false
                      = false_from_ne_true _ (λ opens. both_ways _ (is_left-parts s spent d (is_open-parts s spent drawn d opens).0).2 gone) in
                      let later = passed_on-kept drawn ds (passed ++ d ∷ []) rest (λ e is. kept e (first_open-next s spent drawn d ds closed ∙ is))
                      (each_push (λ e. spent e ≡ true) passed d known gone) in
                      let mine = passed_on-spent s spent drawn d ds passed tried gone in (
                        passed_on-spent other more drawn d ds (before ++ passed) tried_too gone_too
                            ∙ ap (passed_on other more drawn ds) (append_assoc before passed (d ∷ []))
                            ∙ later.0 ∙ ap (λ xs. before ++ xs) (sym mine),
                        subst AreSpent (sym mine) later.1,
                      )
                  | inr left ↦
                      let opens = open_left s spent drawn d (left_if s (is_in passed) spent drawn d tried left) out in
                      let left_too = (is_left-parts other more d (kept d (first_open-is s spent drawn d ds opens))).2 in
                      let mine = passed_on-given s spent drawn d ds passed tried left in (
                        passed_on-given other more drawn d ds (before ++ passed) tried_too left_too ∙ ap (λ xs. before ++ xs) (sym mine),
                        subst AreSpent (sym mine) known,
                      )
                ]
            | inr untried ↦
                let closed : is_open s spent drawn d ≡ false
                = false_from_ne_true _ (λ opens.
                let unspent = (is_left-parts s spent d (is_open-parts s spent drawn d opens).0).2 in
                let unpassed : is_in passed d ≡ false = false_from_ne_true _ (λ there. both_ways _ unspent (known d there)) in
                both_ways _ untried (open_left s (is_in passed) drawn d (left_if s spent (is_in passed) drawn d opens unpassed) (is_open-parts s spent drawn d opens).1)) in
                let later = passed_on-kept drawn ds passed rest (λ e is. kept e (first_open-next s spent drawn d ds closed ∙ is)) known in
                let mine = passed_on-shut s spent drawn d ds passed untried in (
                  passed_on-shut other more drawn d ds (before ++ passed) (same ∙ untried) ∙ later.0 ∙ ap (λ xs. before ++ xs) (sym mine),
                  subst AreSpent (sym mine) later.1,
                )
          ]

  module _ (count : ℕ) (units : (node : ℕ) → 1 ≤ node → node ≤ s.shape.nodes → drives_on s.shape.drives node used ≡ drives_on s.shape.drives node s.used)
      (less : (d : Drive) → is_of s.shape d ≡ true → is_left other more d ≡ true → is_left s spent d ≡ true) where
    abbrev PrefixIsLeft : List Drive → Type 0
    PrefixIsLeft drives = (d : Drive) → is_in (take count drives) d ≡ true → is_left other more d ≡ true

    full-kept : (drawn : List Drive) (visit : ℕ × ℕ) → IsVisit s visit → nat_le visit.0 (units_on other drawn visit.1) ≡ nat_le visit.0 (units_on s drawn visit.1)
    full-kept drawn visit is = ap (λ n. nat_le visit.0 (n + count_by (λ (d : Drive). eqb d.node visit.1) drawn)) (units visit.1 is.some is.within)

    drives-of : (visit : ℕ × ℕ) → IsVisit s visit → AreOf (drives_of s visit.1)
    drives-of visit is d there = is_of-on s visit.1 d is.some is.within (drives_of-on s visit.1 d there)

    -- the first open drive of a visit that is made is one of the first n of the order
    first-left : (drawn : List Drive) (visit : ℕ × ℕ) (visits : List (ℕ × ℕ)) → length drawn < count → nat_le visit.0 (units_on s drawn visit.1) ≡ false
        → PrefixIsLeft (drawn_in (visit ∷ visits) s spent drawn) → FirstIsLeft drawn (drives_of s visit.1)
    first-left drawn visit visits wanted room kept d is =
        let given : given_at s spent drawn visit ≡ Some d = ap (λ b. given_if b (first_open s spent drawn (drives_of s visit.1))) room ∙ is in
        let drawn_too : List Drive = drawn ++ d ∷ [] in
        let all = begins visits s spent drawn_too in
        let order : drawn_in (visit ∷ visits) s spent drawn ≡ drawn_too ++ all.0 = ap (λ g. drawn_in visits s spent (with_drive drawn g)) given ∙ all.1 in
        let long = length_push drawn d in
        kept d
        (ap (λ xs. is_in (take count xs) d) order
        ∙ is_in-beginning count drawn_too all.0 d (omega (arith, long, wanted)) (is_in-push drawn d d ∙ or_right (is_in drawn d) (same_drive d d) (same_drive-self d)))

    given-kept : (drawn : List Drive) (visit : ℕ × ℕ) (visits : List (ℕ × ℕ)) → IsVisit s visit → length drawn < count
        → PrefixIsLeft (drawn_in (visit ∷ visits) s spent drawn) → given_at other more drawn visit ≡ given_at s spent drawn visit
    given-kept drawn visit visits is wanted kept =
        ap (λ b. given_if b (first_open other more drawn (drives_of s visit.1))) (full-kept drawn visit is)
        ∙ elim (cases_Bool (nat_le visit.0 (units_on s drawn visit.1))) [
          | inl full ↦
              ap (λ b. given_if b (first_open other more drawn (drives_of s visit.1))) full ∙ sym (ap (λ b. given_if b (first_open s spent drawn (drives_of s visit.1))) full)
          | inr room ↦
              ap (given_if (nat_le visit.0 (units_on s drawn visit.1)))
              (first_open-kept less drawn (drives_of s visit.1) (drives-of visit is) (first-left drawn visit visits wanted room kept))
        ]

    drawn-kept : (visits : List (ℕ × ℕ)) → AllByRecursion (IsVisit s) visits → (drawn : List Drive) → length drawn ≤ count → PrefixIsLeft (drawn_in visits s spent drawn)
        → take count (drawn_in visits other more drawn) ≡ take count (drawn_in visits s spent drawn)
    drawn-kept [] all drawn low kept = refl
    drawn-kept (visit ∷ visits) all drawn low kept = elim (cases_lt (length drawn) count) [
      | inl wanted ↦
          let given = given_at s spent drawn visit in
          let more_drawn = length-with drawn given in
          ap (λ g. take count (drawn_in visits other more (with_drive drawn g))) (given-kept drawn visit visits all.0 wanted kept)
          ∙ drawn-kept visits all.1 (with_drive drawn given) (omega (arith, more_drawn, wanted)) kept
      | inr enough ↦
          let many : length drawn ≡ count = omega (arith, low, enough) in
          take-drawn count (visit ∷ visits) other more drawn many ∙ sym (take-drawn count (visit ∷ visits) s spent drawn many)
    ]

    module _ (before : List Drive) (tries : TriesSame before) where
      passed_at-kept : (drawn passed : List Drive) (visit : ℕ × ℕ) (visits : List (ℕ × ℕ)) → IsVisit s visit → length drawn < count
          → PrefixIsLeft (drawn_in (visit ∷ visits) s spent drawn) → AreSpent passed
          → (passed_at other more drawn (before ++ passed) visit ≡ before ++ passed_at s spent drawn passed visit) × AreSpent (passed_at s spent drawn passed visit)
      passed_at-kept drawn passed visit visits is wanted kept known =
          let theirs = passed_on other more drawn (drives_of s visit.1) (before ++ passed) in
          let mine = passed_on s spent drawn (drives_of s visit.1) passed in
          let same = full-kept drawn visit is in
          elim (cases_Bool (nat_le visit.0 (units_on s drawn visit.1))) [
            | inl full ↦ (
              ap (λ b. passed_if b (before ++ passed) theirs) (same ∙ full) ∙ sym (ap (λ b. before ++ passed_if b passed mine) full),
              subst AreSpent (sym (ap (λ b. passed_if b passed mine) full)) known,
            )
            | inr room ↦
                let later = passed_on-kept less before tries drawn (drives_of s visit.1) passed (drives-of visit is) (first-left drawn visit visits wanted room kept) known in (
                  ap (λ b. passed_if b (before ++ passed) theirs) (same ∙ room) ∙ later.0 ∙ sym (ap (λ b. before ++ passed_if b passed mine) room),
                  subst AreSpent (sym (ap (λ b. passed_if b passed mine) room)) later.1,
                )
          ]

      passed-kept : (visits : List (ℕ × ℕ)) → AllByRecursion (IsVisit s) visits → (drawn passed : List Drive) → length drawn ≤ count
          → PrefixIsLeft (drawn_in visits s spent drawn) → AreSpent passed
          → passed_in visits other more count drawn (before ++ passed) ≡ before ++ passed_in visits s spent count drawn passed
      passed-kept [] all drawn passed low kept known = refl
      passed-kept (visit ∷ visits) all drawn passed low kept known = elim (cases_lt (length drawn) count) [
        | inl wanted ↦
            let given = given_at s spent drawn visit in
            let more_drawn = length-with drawn given in
            let at = passed_at-kept drawn passed visit visits all.0 wanted kept known in
            passed_in-next visit visits other more count drawn (before ++ passed) wanted
            ∙ ap (λ g. passed_in visits other more count (with_drive drawn g) (passed_at other more drawn (before ++ passed) visit)) (given-kept drawn visit visits all.0 wanted kept)
            ∙ ap (passed_in visits other more count (with_drive drawn given)) at.0
            ∙ passed-kept visits all.1 (with_drive drawn given) (passed_at s spent drawn passed visit) (omega (arith, more_drawn, wanted)) kept at.1
            ∙ ap (λ xs. before ++ xs) (sym (passed_in-next visit visits s spent count drawn passed wanted))
        | inr enough ↦
            passed_in-enough (visit ∷ visits) other more count drawn (before ++ passed) enough
            ∙ ap (λ xs. before ++ xs) (sym (passed_in-enough (visit ∷ visits) s spent count drawn passed enough))
      ]

  module _ (count : ℕ) (finds : FindsLeft count) where
    -- the first n drives of the order are the same
    pub order-alike : take count (order_of other more) ≡ take count (order_of s spent)
    order-alike = drawn-kept count finds.units finds.less (visits_of s) (are_visits s) [] (omega arith) finds.kept

    -- and the same drives are passed over, behind those that were before
    pub passed-alike : (before : List Drive) → TriesSame before → passed_in (visits_of s) other more count [] before ≡ before ++ passed_of s spent count
    passed-alike before tries =
        ap (passed_in (visits_of s) other more count []) (sym (append-nil before))
        ∙ passed-kept count finds.units finds.less before tries (visits_of s) (are_visits s) [] [] (omega arith) finds.kept (λ d there. absurd (both_ways false refl there))
