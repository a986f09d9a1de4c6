-- Tables and arrays, from their first entry on.
use Rattle.std.proofs.Common.{◌≡◌, ℕ, List, [], ◌∷◌, length, Some, String, Global, string_bytes, refl, sym, ap, ◌∙◌, arith}
use Rattle.std.specs.List.{slice_get}
use Rattle.toml.specs.Data.{Data, Members, no_members, member}
use Rattle.toml.specs.View.{view, members_view}
use Rattle.toml.specs.declared.value.Value.{Value}

-- a table whose first key is this one
pub members_view-first_key : (es : List (String Global × Value)) (e : String Global × Value) (key : List ℕ) → slice_get es 0 ≡ Some e → string_bytes e.0 ≡ key
    → (d : Data) × (rest : Members) × (members_view es ≡ member key d rest)
members_view-first_key [] e key first same = cc
members_view-first_key (x ∷ es) e key first same = let is : x ≡ e = cc in (view x.1, members_view es, ap (λ k. member k (view x.1) (members_view es)) (ap (λ (y : String Global × Value). string_bytes y.0) is ∙ same))

-- the first key of such a table
pub first_key-members_view : (es : List (String Global × Value)) (e : String Global × Value) (key : List ℕ) (d : Data) (rest : Members) → slice_get es 0 ≡ Some e
    → members_view es ≡ member key d rest → string_bytes e.0 ≡ key
first_key-members_view [] e key d rest first there = cc
first_key-members_view (x ∷ es) e key d rest first there = let is : x ≡ e = cc in ap (λ (y : String Global × Value). string_bytes y.0) (sym is) ∙ cc

pub members_view-none : (es : List (String Global × Value)) → length es ≡ 0 → members_view es ≡ no_members
members_view-none [] none = refl
members_view-none (x ∷ es) none = absurd (omega arith)

pub length-no_members : (es : List (String Global × Value)) → members_view es ≡ no_members → length es ≡ 0
length-no_members [] none = refl
length-no_members (x ∷ es) none = cc
