-- The stages of a group, one failure more at their end, and with more drives empty.
use Rattle.std.proofs.Common.{◌≡◌, ℕ, inl, inr, Bool, true, false, cond, ◌||◌, List, [], ◌∷◌, ◌++◌, take, refl, ap, ◌∙◌}
use Rattle.std.proofs.lemmas.Bool.{both_ways, cases_Bool, false_from_ne_true, or_cases, or_left, or_right}
use Rattle.domains.specs.Drive.{Drive, is_in, same_drive}
use Rattle.domains.proofs.DriveLemmas.{is_in-append, is_in-rest, is_in-take, is_in-none, same_drive-eq, same_drive-self}
use Rattle.placement_order.specs.Order.{DrawRequest, order_of}
use Rattle.placement_order.specs.PassedDrives.{passed_of}
use Rattle.placement_order.specs.Stages.{Stage, StagesStay, first_stage, in_place_of, next_stage, request_at, stage_from, stage_of}
use Rattle.placement_order.proofs.AlikeRequests.{FindsLeft, order-alike, passed-alike}
use Rattle.placement_order.proofs.ApartDrives.{is_in-later}
use Rattle.placement_order.proofs.GroupChanges.{is_left-from, is_left-parts}
use Rattle.placement_order.proofs.OrderMembers.{order-left}

-- one failure more
pub stage_from-push : (ds : List Drive) (s : DrawRequest) (empty : Drive → Bool) (stage : Stage) (d : Drive)
    → stage_from (ds ++ d ∷ []) s empty stage ≡ next_stage s empty (stage_from ds s empty stage) d
stage_from-push [] s empty stage d = refl
stage_from-push (x ∷ xs) s empty stage d = stage_from-push xs s empty (next_stage s empty stage x) d

-- the drive is in the midst
pub in_place_of-midst : (d : Drive) (these xs ys : List Drive) → is_in xs d ≡ false → in_place_of d these (xs ++ d ∷ ys) ≡ xs ++ (these ++ ys)
in_place_of-midst d these [] ys out = ap (λ b. cond b (these ++ ys) (d ∷ in_place_of d these ys)) (same_drive-self d)
in_place_of-midst d these (x ∷ xs) ys out =
    let parts = is_in-none x xs d out in
    ap (λ b. cond b (these ++ (xs ++ d ∷ ys)) (x ∷ in_place_of d these (xs ++ d ∷ ys))) parts.0
    ∙ ap (λ zs. x ∷ zs) (in_place_of-midst d these xs ys parts.1)

-- those that come are there
in_place_of-come : (d : Drive) (these xs : List Drive) (e : Drive) → is_in these e ≡ true → is_in (in_place_of d these xs) e ≡ true
in_place_of-come d these [] e there = there
in_place_of-come d these (x ∷ xs) e there = elim (cases_Bool (same_drive x d)) [
  | inl here ↦
      ap (λ b. is_in (cond b (these ++ xs) (x ∷ in_place_of d these xs)) e) here ∙ is_in-append these xs e ∙ or_left (is_in these e) (is_in xs e) there
  | inr away ↦
      ap (λ b. is_in (cond b (these ++ xs) (x ∷ in_place_of d these xs)) e) away ∙ is_in-rest x (in_place_of d these xs) e (in_place_of-come d these xs e there)
]

-- and those that were there, but for the one
in_place_of-stay : (d : Drive) (these xs : List Drive) (e : Drive) → same_drive d e ≡ false → is_in xs e ≡ true → is_in (in_place_of d these xs) e ≡ true
in_place_of-stay d these [] e other there = absurd (both_ways false refl there)
in_place_of-stay d these (x ∷ xs) e other there = elim (cases_Bool (same_drive x d)) [
  | inl here ↦
      let apart : same_drive x e ≡ false = ap (λ y. same_drive y e) (same_drive-eq x d here) ∙ other in
      ap (λ b. is_in (cond b (these ++ xs) (x ∷ in_place_of d these xs)) e) here ∙ is_in-append these xs e
      ∙ or_right (is_in these e) (is_in xs e) (is_in-later x xs e apart there)
  | inr away ↦
      ap (λ b. is_in (cond b (these ++ xs) (x ∷ in_place_of d these xs)) e) away
      ∙ elim (cases_Bool (same_drive x e)) [
        | inl first ↦ ap (λ b. cond b true (is_in (in_place_of d these xs) e)) first
        | inr rest ↦ is_in-rest x (in_place_of d these xs) e (in_place_of-stay d these xs e other (is_in-later x xs e rest there))
      ]
]

module _ (s : DrawRequest) (empty more : Drive → Bool) (all : (d : Drive) → empty d ≡ true → more d ≡ true) where
  -- a request that finds more drives empty, but none that gives a slot
  finds_left : (r : DrawRequest) (count : ℕ) → ((d : Drive) → is_in (take count (order_of r empty)) d ≡ true → more d ≡ false) → FindsLeft r empty r.usable r.used more count
  finds_left r count kept = record {
    units = λ node some within. refl;
    less = λ d of left.
        let parts = is_left-parts r more d left in
        is_left-from r empty d parts.0 parts.1 (false_from_ne_true (empty d) (λ gone. both_ways _ parts.2 (all d gone)));
    kept = λ d there.
        let parts = is_left-parts r empty d (order-left r empty d (is_in-take count (order_of r empty) d there)) in
        is_left-from r more d parts.0 parts.1 (kept d there);
  }

  same_order : (r : DrawRequest) (count : ℕ) → ((d : Drive) → is_in (take count (order_of r empty)) d ≡ true → more d ≡ false)
      → take count (order_of r more) ≡ take count (order_of r empty)
  same_order r count kept = order-alike r empty r.usable r.used more count (finds_left r count kept)

  same_passed : (r : DrawRequest) (count : ℕ) → ((d : Drive) → is_in (take count (order_of r empty)) d ≡ true → more d ≡ false) → passed_of r more count ≡ passed_of r empty count
  same_passed r count kept =
      passed-alike r empty r.usable r.used more count (finds_left r count kept) []
      (record { free = λ d of. refl; shut = λ d of there. absurd (both_ways false refl there) })

  next-stays : (stage : Stage) (d : Drive) → ((e : Drive) → is_in (next_stage s empty stage d).slots e ≡ true → more e ≡ false) → next_stage s more stage d ≡ next_stage s empty stage d
  next-stays stage d kept =
      let r = request_at s stage d in
      let came : (e : Drive) → is_in (take 1 (order_of r empty)) e ≡ true → more e ≡ false
      = λ e there. kept e (in_place_of-come d (take 1 (order_of r empty)) stage.slots e there) in
      ap (λ slots. let made : Stage = record { slots = in_place_of d slots stage.slots; failed = stage.failed ++ d ∷ []; found = stage.found ++ passed_of r more 1 } in made)
      (same_order r 1 came)
      ∙ ap (λ found. let made : Stage = record {
        slots = in_place_of d (take 1 (order_of r empty)) stage.slots;
        failed = stage.failed ++ d ∷ [];
        found = stage.found ++ found;
      } in made) (same_passed r 1 came)

  -- a drive of the group is still of it at the end, or its slot fails on the way
  later : (ds : List Drive) (stage : Stage) (e : Drive) → is_in stage.slots e ≡ true → (is_in ds e || is_in (stage_from ds s empty stage).slots e) ≡ true
  later [] stage e there = there
  later (d ∷ ds) stage e there = elim (cases_Bool (same_drive d e)) [
    | inl fails ↦ or_left (is_in (d ∷ ds) e) _ (ap (λ b. cond b true (is_in ds e)) fails)
    | inr other ↦
        let r = request_at s stage d in
        let next = later ds (next_stage s empty stage d) e (in_place_of-stay d (take 1 (order_of r empty)) stage.slots e other there) in
        ap (λ b. cond b true (is_in ds e) || is_in (stage_from ds s empty (next_stage s empty stage d)).slots e) other ∙ next
  ]

  from-stays : (ds : List Drive) (stage : Stage) → ((e : Drive) → (is_in ds e || is_in (stage_from ds s empty stage).slots e) ≡ true → more e ≡ false)
      → stage_from ds s more stage ≡ stage_from ds s empty stage
  from-stays [] stage kept = refl
  from-stays (d ∷ ds) stage kept =
      let next : Stage = next_stage s empty stage d in
      let kept_later : (e : Drive) → (is_in ds e || is_in (stage_from ds s empty next).slots e) ≡ true → more e ≡ false = λ e there. kept e (elim (or_cases (is_in ds e) _ there) [
        | inl fails ↦ or_left (is_in (d ∷ ds) e) _ (is_in-rest d ds e fails)
        | inr stays ↦ or_right (is_in (d ∷ ds) e) _ stays
      ]) in
      ap (stage_from ds s more) (next-stays stage d (λ e there. kept_later e (later ds next e there)))
      ∙ from-stays ds next kept_later

  of-stays : (count : ℕ) (failed : List Drive) → ((e : Drive) → (is_in failed e || is_in (stage_of s empty count failed).slots e) ≡ true → more e ≡ false)
      → stage_of s more count failed ≡ stage_of s empty count failed
  of-stays count failed kept =
      let first : Stage = first_stage s empty count in
      let drawn : (e : Drive) → is_in (take count (order_of s empty)) e ≡ true → more e ≡ false = λ e there. kept e (later failed first e there) in
      ap (stage_from failed s more)
      (ap (λ slots. let made : Stage = record { slots = slots; failed = []; found = passed_of s more count } in made) (same_order s count drawn)
      ∙ ap (λ found. let made : Stage = record { slots = take count (order_of s empty); failed = []; found = found } in made) (same_passed s count drawn))
      ∙ from-stays failed first kept

pub stages-stay : StagesStay
stages-stay s empty more all count failed kept = of-stays s empty more all count failed kept
