-- Lists of values, read item by item.
use Rattle.std.proofs.Common.{◌≡◌, ℕ, List, [], ◌∷◌, ◌++◌, length, Result, Ok, Err, true, refl, sym, ap, ◌∙◌, arith}
use Rattle.std.specs.Result.{IsErrAnd, OnOk, is_ok}
use Rattle.toml.specs.Data.{Data, Items, no_items, item}
use Rattle.toml.specs.View.{view, items_view}
use Rattle.toml.specs.declared.value.Value.{Value}
use Rattle.scenario_table.specs.Table.{items_by, file_data, op_data, actor_data}
use Rattle.scenario_table.specs.Answers.{Answers}
use Rattle.scenario_table.specs.declared.draft.FileRow.{FileRow}
use Rattle.scenario_table.specs.declared.reading.Stop.{Stop}
use Rattle.scenario_table.specs.declared.reading.Stop.TheVariants.{Keys, NoMemory}

-- the items of these values, and the rest
abbrev pub items_then : {T : Type 0} → (T → Data) → List T → Items → Items
items_then value [] rest = rest
items_then value (x ∷ xs) rest = item (value x) (items_then value xs rest)

items_then-none : {T : Type 0} (value : T → Data) (xs : List T) → items_then value xs no_items ≡ items_by value xs
items_then-none value [] = refl
items_then-none value (x ∷ xs) = ap (item (value x)) (items_then-none value xs)

items_then-push : {T : Type 0} (value : T → Data) (xs : List T) (x : T) (rest : Items) → items_then value (xs ++ x ∷ []) rest ≡ items_then value xs (item (value x) rest)
items_then-push value [] x rest = refl
items_then-push value (y ∷ xs) x rest = ap (item (value y)) (items_then-push value xs x rest)

-- before the first item
pub rows-start : {T : Type 0} (value : T → Data) (items left : List Value) (done : List T) → items ≡ left → done ≡ [] → items_then value done (items_view left) ≡ items_view items
rows-start value items left done is none = ap (λ xs. items_then value xs (items_view left)) none ∙ ap items_view (sym is)

pub rows-step : {T : Type 0} (value : T → Data) (done more : List T) (x : T) (v : Value) (left after : List Value) (all : Items) → left ≡ v ∷ after → view v ≡ value x
    → more ≡ done ++ x ∷ [] → items_then value done (items_view left) ≡ all → items_then value more (items_view after) ≡ all
rows-step value done more x v left after all is reads pushed found =
    ap (λ xs. items_then value xs (items_view after)) pushed
    ∙ items_then-push value done x (items_view after)
    ∙ ap (λ (d : Data). items_then value done (item d (items_view after))) (sym reads)
    ∙ ap (λ vs. items_then value done (items_view vs)) (sym is) ∙ found

-- past the last item
pub rows-end : {T : Type 0} (value : T → Data) (done : List T) (left : List Value) (all : Items) → left ≡ [] → items_then value done (items_view left) ≡ all → all ≡ items_by value done
rows-end value done left all none found = sym found ∙ ap (λ vs. items_then value done (items_view vs)) none ∙ items_then-none value done

pub none_of : {T : Type 0} (xs : List T) → length xs ≡ 0 → xs ≡ []
none_of [] none = refl
none_of (x ∷ xs) none = absurd (omega (arith, none))

-- an item of no value is in no list of values
rows-none : {T : Type 0} (value : T → Data) (done xs : List T) (d : Data) (rest : Items) → ((x : T) → d ≡ value x → ⊥) → items_then value done (item d rest) ≡ items_by value xs → ⊥
rows-none value [] [] d rest other is = cc
rows-none value [] (x ∷ xs) d rest other is = other x cc
rows-none value (y ∷ done) [] d rest other is = cc
rows-none value (y ∷ done) (x ∷ xs) d rest other is = rows-none value done xs d rest other cc

pub on_ok : {T E P : Type 0} (r : Result T E) → is_ok r ≡ true → OnOk r P → P
on_ok (Ok x) ok holds = holds
on_ok (Err e) ok holds = absurd cc

out_of_memory : {T : Type 0} (r : Result T Stop) (x : T) → IsErrAnd r (λ f. f ≡ NoMemory) → Answers r x
out_of_memory (Ok y) x failed = absurd failed
out_of_memory (Err Keys) x failed = absurd cc
out_of_memory (Err NoMemory) x failed = tt

-- where the reading of an item failed, so did that of the list
pub rows-failed : {T : Type 0} (e : Stop) (value : T → Data) (done : List T) (v : Value) (left after : List Value) (all : Items) (r : Result (List T) Stop)
    → left ≡ v ∷ after → items_then value done (items_view left) ≡ all → ((x : T) → view v ≡ value x → Answers {T = T} (Err e) x) → IsErrAnd r (λ f. f ≡ e)
    → (xs : List T) → all ≡ items_by value xs → Answers r xs
rows-failed Keys value done v left after all r is found only failed xs here =
    absurd (rows-none value done xs (view v) (items_view after) only (ap (λ vs. items_then value done (items_view vs)) (sym is) ∙ found ∙ here))
rows-failed NoMemory value done v left after all r is found only failed xs here = out_of_memory r xs failed

-- items tell their values where one value does
items_by-same : {T : Type 0} (value : T → Data) → ((x y : T) → value x ≡ value y → x ≡ y) → (xs ys : List T) → items_by value xs ≡ items_by value ys → xs ≡ ys
items_by-same value same [] [] is = refl
items_by-same value same [] (y ∷ ys) is = cc
items_by-same value same (x ∷ xs) [] is = cc
items_by-same value same (x ∷ xs) (y ∷ ys) is =
    let head : x ≡ y = same x y cc in
    let tail : xs ≡ ys = items_by-same value same xs ys cc in cc

op_same : (x y : List ℕ) → op_data x ≡ op_data y → x ≡ y
op_same x y is = cc

actor_same : (x y : List (List ℕ)) → actor_data x ≡ actor_data y → x ≡ y
actor_same x y is = items_by-same op_data op_same x y cc

abbrev row : List ℕ → List ℕ → FileRow
row name level = record { name = name; level = level }

pub row_is : (a b : FileRow) → a.name ≡ b.name → a.level ≡ b.level → a ≡ b
row_is a b names levels = ap (λ (n : List ℕ). row n a.level) names ∙ ap (λ (l : List ℕ). row b.name l) levels

file_same : (x y : FileRow) → file_data x ≡ file_data y → x ≡ y
file_same x y is = let names : x.name ≡ y.name = cc in let levels : x.level ≡ y.level = cc in row_is x y names levels

pub ops_same : (xs ys : List (List ℕ)) → items_by op_data xs ≡ items_by op_data ys → xs ≡ ys
ops_same = items_by-same op_data op_same

pub actors_same : (xs ys : List (List (List ℕ))) → items_by actor_data xs ≡ items_by actor_data ys → xs ≡ ys
actors_same = items_by-same actor_data actor_same

pub files_same : (xs ys : List FileRow) → items_by file_data xs ≡ items_by file_data ys → xs ≡ ys
files_same = items_by-same file_data file_same
