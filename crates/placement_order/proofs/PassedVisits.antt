-- The drives passed over, drive by drive and visit by visit.
use Rattle.std.proofs.Common.{◌≡◌, ℕ, ◌<◌, ◌≤◌, inl, inr, Bool, true, false, cond, not, ◌&&◌, List, [], ◌∷◌, ◌++◌, length, nat_le, refl, sym, ap, subst, ◌∙◌}
use Rattle.std.proofs.lemmas.Bool.{and_parts, cases_Bool, cases_lt, le-leb, lt-leb}
use Rattle.domains.specs.Drive.{Drive, is_in}
use Rattle.placement_order.specs.Order.{DrawRequest, drives_of, given_at, is_open, units_on, with_drive}
use Rattle.placement_order.specs.PassedDrives.{passed_at, passed_in, passed_on}
use Rattle.placement_order.proofs.OrderMembers.{each_push}

-- a drive that is not open as far as is known is not tried
pub passed_on-shut : (s : DrawRequest) (spent : Drive → Bool) (drawn : List Drive) (d : Drive) (ds passed : List Drive) → is_open s (is_in passed) drawn d ≡ false
    → passed_on s spent drawn (d ∷ ds) passed ≡ passed_on s spent drawn ds passed
passed_on-shut s spent drawn d ds passed shut =
    ap (λ b. cond b (cond (spent d) (passed_on s spent drawn ds (passed ++ d ∷ [])) passed) (passed_on s spent drawn ds passed)) shut

-- one that is tried and spent is passed over
pub passed_on-spent : (s : DrawRequest) (spent : Drive → Bool) (drawn : List Drive) (d : Drive) (ds passed : List Drive) → is_open s (is_in passed) drawn d ≡ true
    → spent d ≡ true → passed_on s spent drawn (d ∷ ds) passed ≡ passed_on s spent drawn ds (passed ++ d ∷ [])
passed_on-spent s spent drawn d ds passed opens gone =
    ap (λ b. cond b (cond (spent d) (passed_on s spent drawn ds (passed ++ d ∷ [])) passed) (passed_on s spent drawn ds passed)) opens
    ∙ ap (λ b. cond b (passed_on s spent drawn ds (passed ++ d ∷ [])) passed) gone

-- one that is tried and not spent gives a slot, and ends the visit
pub passed_on-given : (s : DrawRequest) (spent : Drive → Bool) (drawn : List Drive) (d : Drive) (ds passed : List Drive) → is_open s (is_in passed) drawn d ≡ true
    → spent d ≡ false → passed_on s spent drawn (d ∷ ds) passed ≡ passed
passed_on-given s spent drawn d ds passed opens left =
    ap (λ b. cond b (cond (spent d) (passed_on s spent drawn ds (passed ++ d ∷ [])) passed) (passed_on s spent drawn ds passed)) opens
    ∙ ap (λ b. cond b (passed_on s spent drawn ds (passed ++ d ∷ [])) passed) left

-- no visit is made once as many drives have given slots as are wanted
pub passed_in-enough : (visits : List (ℕ × ℕ)) (s : DrawRequest) (spent : Drive → Bool) (count : ℕ) (drawn passed : List Drive) → count ≤ length drawn
    → passed_in visits s spent count drawn passed ≡ passed
passed_in-enough [] s spent count drawn passed enough = refl
passed_in-enough (visit ∷ visits) s spent count drawn passed enough =
    ap (λ b. cond b passed (passed_in visits s spent count (with_drive drawn (given_at s spent drawn visit)) (passed_at s spent drawn passed visit))) (le-leb count (length drawn) enough)

-- a visit before that
pub passed_in-next : (visit : ℕ × ℕ) (visits : List (ℕ × ℕ)) (s : DrawRequest) (spent : Drive → Bool) (count : ℕ) (drawn passed : List Drive) → length drawn < count
    → passed_in (visit ∷ visits) s spent count drawn passed
    ≡ passed_in visits s spent count (with_drive drawn (given_at s spent drawn visit)) (passed_at s spent drawn passed visit)
passed_in-next visit visits s spent count drawn passed wanted =
    ap (λ b. cond b passed (passed_in visits s spent count (with_drive drawn (given_at s spent drawn visit)) (passed_at s spent drawn passed visit))) (lt-leb count (length drawn) wanted)

abbrev pub passed_if : Bool → List Drive → List Drive → List Drive
passed_if full passed tried = cond full passed tried

-- what holds of each drive that is usable and unused, and of those passed over so far, holds of all that are passed over
module _ (s : DrawRequest) (spent : Drive → Bool) (Q : Drive → Type 0) (free : (d : Drive) → (s.usable d && not (s.used d)) ≡ true → Q d) where
  abbrev EachIs : List Drive → Type 0
  EachIs drives = (d : Drive) → is_in drives d ≡ true → Q d

  passed_on-each : (drawn ds passed : List Drive) → EachIs passed → EachIs (passed_on s spent drawn ds passed)
  passed_on-each drawn [] passed each = each
  passed_on-each drawn (d ∷ ds) passed each = elim (cases_Bool (is_open s (is_in passed) drawn d)) [
    | inl tried ↦ elim (cases_Bool (spent d)) [
      | inl gone ↦
          subst EachIs (sym (passed_on-spent s spent drawn d ds passed tried gone))
          (passed_on-each drawn ds (passed ++ d ∷ []) (each_push Q passed d each (free d (and_parts (s.usable d && not (s.used d)) _ tried).0)))
      | inr left ↦ subst EachIs (sym (passed_on-given s spent drawn d ds passed tried left)) each
    ]
    | inr untried ↦ subst EachIs (sym (passed_on-shut s spent drawn d ds passed untried)) (passed_on-each drawn ds passed each)
  ]

  passed_at-each : (drawn passed : List Drive) (visit : ℕ × ℕ) → EachIs passed → EachIs (passed_at s spent drawn passed visit)
  passed_at-each drawn passed visit each =
      let tried = passed_on s spent drawn (drives_of s visit.1) passed in
      elim (cases_Bool (nat_le visit.0 (units_on s drawn visit.1))) [
        | inl full ↦ subst EachIs (sym (ap (λ b. passed_if b passed tried) full)) each
        | inr room ↦ subst EachIs (sym (ap (λ b. passed_if b passed tried) room)) (passed_on-each drawn (drives_of s visit.1) passed each)
      ]

  pub passed_in-each : (visits : List (ℕ × ℕ)) (count : ℕ) (drawn passed : List Drive) → EachIs passed → EachIs (passed_in visits s spent count drawn passed)
  passed_in-each [] count drawn passed each = each
  passed_in-each (visit ∷ visits) count drawn passed each = elim (cases_lt (length drawn) count) [
    | inl wanted ↦
        subst EachIs (sym (passed_in-next visit visits s spent count drawn passed wanted))
        (passed_in-each visits count (with_drive drawn (given_at s spent drawn visit)) (passed_at s spent drawn passed visit) (passed_at-each drawn passed visit each))
    | inr enough ↦ subst EachIs (sym (passed_in-enough (visit ∷ visits) s spent count drawn passed enough)) each
  ]
