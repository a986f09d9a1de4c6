-- Operations and scripts that are plain ones.
use Rattle.std.proofs.Common.{◌≡◌, ℕ, List, [], ◌∷◌, ◌++◌, map, true, false, Bool, refl, sym, ap, subst, ◌∙◌}
use Rattle.std.specs.Prelude.{Result, Ok, Err}
use Rattle.std.specs.Result.{IsErrAnd, IsErrOf}
use Rattle.scenario.specs.declared.op.Op.{Op}
use Rattle.scenario.specs.declared.op.Op.TheVariants as op
use Rattle.whole_scenario.specs.declared.op.Op as whole_op
use Rattle.first_form.specs.Wholes.{op_whole, script_whole, scripts_whole, is_plain}

-- a plain operation is one
pub plain_is : (o : Op) → is_plain (op_whole o) ≡ true
plain_is (op.Create file) = refl
plain_is (op.WriteText file offset text) = refl
plain_is (op.Read file offset len) = refl
plain_is (op.Fail d) = refl

-- what stands behind some values that a function gives is given by it too
pub given_behind : {A B : Type 0} (f : A → B) (before : List A) (x : B) (rest : List B) (all : List A)
    → map f before ++ (x ∷ rest) ≡ map f all → (a : A) × (x ≡ f a)
given_behind f [] x rest [] same = absurd cc
given_behind f [] x rest (a ∷ all) same = (a, cc)
given_behind f (b ∷ before) x rest [] same = absurd cc
given_behind f (b ∷ before) x rest (a ∷ all) same = given_behind f before x rest all cc

-- an operation that is none is in no script
pub not_in_script : (before : List Op) (x : whole_op.Op) (rest left args : List whole_op.Op) (plain : List Op)
    → script_whole before ++ left ≡ args → left ≡ x ∷ rest → is_plain x ≡ false → args ≡ script_whole plain → ⊥
not_in_script before x rest left args plain so_far first past is =
    let (o, same) = given_behind op_whole before x rest plain (ap (λ (l : List whole_op.Op). script_whole before ++ l) (sym first) ∙ so_far ∙ is) in
    let other : true ≡ false = sym (plain_is o) ∙ ap is_plain (sym same) ∙ past in
    absurd cc

-- a script that is none is in no list of scripts
pub not_in_scripts : (before : List (List Op)) (x : List whole_op.Op) (rest left args : List (List whole_op.Op)) (plain : List (List Op))
    → scripts_whole before ++ left ≡ args → left ≡ x ∷ rest → ((p : List Op) → x ≡ script_whole p → ⊥) → args ≡ scripts_whole plain → ⊥
not_in_scripts before x rest left args plain so_far first past is =
    let (p, same) = given_behind script_whole before x rest plain (ap (λ (l : List (List whole_op.Op)). scripts_whole before ++ l) (sym first) ∙ so_far ∙ is) in
    past p same

-- what failed is this, and so was what failed in a part
pub part_failed : {T U E : Type 0} (r : Result T E) (e x : E) → IsErrAnd r (λ f. f ≡ e) → IsErrOf r x → IsErrOf {T = U} (Err e) x
part_failed (Ok y) e x same failed = absurd same
part_failed {U = U} {E = E} (Err f) e x same failed =
    let inj : f ≡ x = cc in
    subst (λ (y : E). IsErrOf {T = U} (Err e) y) (sym same ∙ inj) refl
