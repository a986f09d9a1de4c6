-- Numbers given to names one by one.
use Rattle.std.proofs.Common.{◌≡◌, ℕ, List, Bool, true, false, cond, Option, Some, None, refl, ◌∙◌, ap, String, string_bytes}
use Rattle.std.specs.BTreeMap.{BTreeMap, UpdatesBy, get_by_text}
use Rattle.std.specs.Cmp.Lexicographic.{slice_cmp}
use Rattle.std.specs.Ordering.{nat_cmp}
use Rattle.std.specs.Str.{bytes_eq}
use Rattle.std.specs.String.{string_cmp}
use Rattle.std.specs.declared.alloc.Global.{Global}
use Rattle.std.proofs.lemmas.Map.Text.{btree_map_updates_text}
use Rattle.scenario_reader.specs.Numbers.{or_else}

-- the map after a name was given a number
pub inserted : (bytes name : List ℕ) (m n : BTreeMap (String Global) ℕ) (number : ℕ) → bytes ≡ name
    → UpdatesBy string_cmp (λ k. slice_cmp nat_cmp bytes (string_bytes k)) m n (Some number)
    → (q : List ℕ) → get_by_text n q ≡ cond (bytes_eq name q) (Some number) (get_by_text m q)
inserted bytes name m n number same updates q =
    btree_map_updates_text bytes m n (Some number) updates q ∙ ap (λ (x : List ℕ). cond (bytes_eq x q) (Some number) (get_by_text m q)) same

-- what a set has after one name more, beside the later ones
pub given_next : (b : Bool) (later old new : Option ℕ) (n : ℕ) → new ≡ cond b (Some n) old → or_else later new ≡ or_else (or_else later (cond b (Some n) None)) old
given_next b (Some x) old new n is = refl
given_next true None old new n is = is
given_next false None old new n is = is

pub none_before : (later old : Option ℕ) → old ≡ None → or_else later old ≡ later
none_before (Some x) old none = refl
none_before None old none = none
