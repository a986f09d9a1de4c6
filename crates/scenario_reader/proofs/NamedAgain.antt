-- Operations by their numbers, named again.
use Rattle.std.proofs.Common.{◌≡◌, ℕ, suc, ◌+◌, ◌<◌, ◌^◌, List, [], ◌∷◌, Bool, true, false, cond, ◌||◌, ◌&&◌, Option, Some, None, unwrap_or, refl, sym, ◌∙◌, ap, inl, inr, arith}
use Rattle.std.specs.Prelude.{nat_le}
use Rattle.std.specs.Fmt.{decimal}
use Rattle.std.specs.Str.{bytes_eq}
use Rattle.std.specs.Str.Parse.{digits_value}
use Rattle.std.proofs.lemmas.Bool.{and_parts, cases_Bool, not-false, or_parts}
use Rattle.std.proofs.lemmas.Bool.Decides.{nat_tests}
use Rattle.std.proofs.lemmas.Fmt.{decimal-digits_value}
use Rattle.std.proofs.lemmas.Slice.Eq.{bytes_eq-Decides}
use Rattle.domains.specs.Shape.{Shape}
use Rattle.operation_rules.specs.OpRules.{has_name, is_number_up_to, is_outside, is_unbuilt, is_undeclared}
use Rattle.operation_text.specs.NamedOps.{FitsOp}
use Rattle.operation_text.specs.Words.{IsNumberText}
use Rattle.operation_text.specs.declared.named_op.DriveOrder.{DriveOrder}
use Rattle.operation_text.specs.declared.named_op.NamedOp.{NamedOp}
use Rattle.operation_text.specs.declared.named_op.NamedOp.TheVariants.{OnFile, OnDrive, FailNode, Start, OnJob, Work, Drain, RestartEngine}
use Rattle.scenario_reader.specs.Numbers.{number_of, or_else, place_of}
use Rattle.scenario_reader.specs.Resolved.{op_of}
use Rattle.whole_scenario.specs.Names.{name_at, named_op}
use Rattle.scenario_reader.proofs.DigitValues.{all_digits, own}

-- ---- the names

none_of_these : (names : List (List ℕ)) (first : ℕ) (q : List ℕ) → has_name names q ≡ false → place_of names first q ≡ None
none_of_these [] first q lacks = refl
none_of_these (n ∷ ns) first q lacks =
    let (other, later) = or_parts (bytes_eq n q) (has_name ns q) lacks in
    ap (λ (o : Option ℕ). or_else o (cond (bytes_eq n q) (Some first) None)) (none_of_these ns (first + 1) q later)
    ∙ ap (λ (b : Bool). cond b (Some first) None) other

left_true : (a b : Bool) → (a || b) ≡ true → b ≡ false → a ≡ true
left_true true b either other = refl
left_true false true either other = sym other
left_true false false either other = either

-- the name has a number, which is that of its place
record IsNumbered (names : List (List ℕ)) (first : ℕ) (q : List ℕ) : Type 0 where
  place : ℕ
  is : place_of names first q ≡ Some (first + place)
  named : name_at names place ≡ q

numbered : (names : List (List ℕ)) (first : ℕ) (q : List ℕ) → has_name names q ≡ true → IsNumbered names first q
numbered [] first q has = absurd cc
numbered (n ∷ ns) first q has = elim (cases_Bool (has_name ns q)) [
  | inl later ↦
      let rest = numbered ns (first + 1) q later in
      let place : (first + 1) + rest.place ≡ first + suc rest.place = omega arith in
      record {
        place = suc rest.place;
        is = ap (λ (o : Option ℕ). or_else o (cond (bytes_eq n q) (Some first) None)) rest.is ∙ ap (λ (k : ℕ). Some k) place;
        named = rest.named;
      }
  | inr none ↦
      let here : bytes_eq n q ≡ true = left_true (bytes_eq n q) (has_name ns q) has none in
      let place : first ≡ first + 0 = omega arith in
      record {
        place = 0;
        is = ap (λ (o : Option ℕ). or_else o (cond (bytes_eq n q) (Some first) None)) (none_of_these ns (first + 1) q none)
            ∙ ap (λ (b : Bool). cond b (Some first) None) here ∙ ap (λ (k : ℕ). Some k) place;
        named = (bytes_eq-Decides n q).0 here;
      }
]

name_again : (names : List (List ℕ)) (q : List ℕ) → has_name names q ≡ true → name_at names (number_of names 0 q) ≡ q
name_again names q has =
    let at = numbered names 0 q has in
    let place : 0 + at.place ≡ at.place = omega arith in
    ap (λ (o : Option ℕ). name_at names (unwrap_or o 0)) at.is ∙ ap (name_at names) place ∙ at.named

-- ---- the digits

small : (value most : ℕ) → most < 2 ^ 8 → (nat_le 1 value && nat_le value most) ≡ true → value < 2 ^ 64
small value most few is = grind (arith, nat_tests)

digits_again : (digits : List ℕ) (most : ℕ) → most < 2 ^ 8 → IsNumberText digits → is_number_up_to most digits ≡ true → decimal (digits_value 10 digits) ≡ digits
digits_again digits most few number is =
    decimal-digits_value own digits (all_digits digits number.all) number.some number.lone (small (digits_value 10 digits) most few is)

-- ---- the operation

drive_again : (order : DriveOrder) (node drive m e : List ℕ) → m ≡ node → e ≡ drive → OnDrive order m e ≡ OnDrive order node drive
drive_again order node drive m e nodes drives = ap (λ (x : List ℕ). OnDrive order x e) nodes ∙ ap (λ (x : List ℕ). OnDrive order node x) drives

pub op_again : (shape : Shape) (names jobs : List (List ℕ)) (op : NamedOp) → shape.nodes < 2 ^ 8 → shape.drives < 2 ^ 8 → FitsOp op → is_undeclared names op ≡ false
    → is_outside shape op ≡ false → is_unbuilt op ≡ false → named_op names jobs (op_of names jobs op) ≡ op
op_again shape names jobs (OnFile file action) few less fits declared inside built =
    ap (λ (f : List ℕ). OnFile f action) (name_again names file (not-false (has_name names file) declared))
op_again shape names jobs (OnDrive order node drive) few less fits declared inside built =
    let both = not-false (is_number_up_to shape.nodes node && is_number_up_to shape.drives drive) inside in
    let (is_node, is_drive) = and_parts (is_number_up_to shape.nodes node) (is_number_up_to shape.drives drive) both in
    drive_again order node drive (decimal (digits_value 10 node)) (decimal (digits_value 10 drive)) (digits_again node shape.nodes few fits.0 is_node)
    (digits_again drive shape.drives less fits.1 is_drive)
op_again shape names jobs (FailNode node) few less fits declared inside built =
    ap (λ (x : List ℕ). FailNode x) (digits_again node shape.nodes few fits (not-false (is_number_up_to shape.nodes node) inside))
op_again shape names jobs (Start kind job priority) few less fits declared inside built = absurd cc
op_again shape names jobs (OnJob order job) few less fits declared inside built = absurd cc
op_again shape names jobs (Work steps) few less fits declared inside built = absurd cc
op_again shape names jobs Drain few less fits declared inside built = absurd cc
op_again shape names jobs RestartEngine few less fits declared inside built = absurd cc
