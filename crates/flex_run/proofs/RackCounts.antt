-- How many slots a rack gave and took back.
use Rattle.std.proofs.Common.{◌≡◌, ℕ, zero, suc, ◌+◌, ◌*◌, ◌^◌, ◌%◌, Bool, true, List, [], ◌∷◌, ◌++◌, length, map, count_by, Option, refl, sym, ap, subst, ◌∙◌, arith, length-append}
use Rattle.std.proofs.Math.Nat.{mod-mod, mod-add-mod, zero-mul}
use Rattle.std.proofs.lemmas.List.{length-map}
use Rattle.flex_io.specs.declared.raw_place.RawPlace.{RawPlace}
use Rattle.domains.specs.Drive.{Drive}
use Rattle.domains.specs.Place.{Place}
use Rattle.domains.specs.Shape.{Shape}
use Rattle.domains.proofs.CountLemmas.{count_by-cons}
use Rattle.held_slots.specs.Slots.{place_from, count_at, places_from}
use Rattle.plain_file.specs.Plain.{FileView, StockView}
use Rattle.flex_run.specs.RackStates.{RisesBy, slot_count}
use Rattle.flex_run.specs.RunProgress.{Leaves}
use Rattle.flex_run.specs.StockOrder.{drive_stack, node_stacks, all_stacks, stock_order}
use Rattle.flex_run.proofs.RunStart.{new_file, new_stock}

pub RisesBy-none : (count : ℕ) → RisesBy 0 count count
RisesBy-none count = ap (λ (n : ℕ). n % 2 ^ 64) (let same : count ≡ count + 0 = omega arith in same)

pub RisesBy-same : (number other before now : ℕ) → number ≡ other → RisesBy number before now → RisesBy other before now
RisesBy-same number other before now same = subst (λ (n : ℕ). RisesBy n before now) same

pub RisesBy-no_times : (number count : ℕ) → RisesBy (0 * number) count count
RisesBy-no_times number count = RisesBy-same 0 (0 * number) count count (sym (zero-mul number)) (RisesBy-none count)

-- a count rose by one
pub RisesBy-one : (before now : ℕ) → now ≡ (before + 1) % 2 ^ 64 → RisesBy 1 before now
RisesBy-one before now one = ap (λ (n : ℕ). n % 2 ^ 64) one ∙ mod-mod (before + 1) (2 ^ 64)

-- and then by more
pub RisesBy-then : (first more old mid new : ℕ) → RisesBy first old mid → RisesBy more mid new → RisesBy (first + more) old new
RisesBy-then first more old mid new rises then =
    then ∙ sym (mod-add-mod mid (2 ^ 64) more) ∙ ap (λ (n : ℕ). (n + more) % 2 ^ 64) rises ∙ mod-add-mod (old + first) (2 ^ 64) more
    ∙ ap (λ (n : ℕ). n % 2 ^ 64) (let same : old + first + more ≡ old + (first + more) = omega arith in same)

-- one more slot of a list was counted
pub RisesBy-push : {S : Type 0} (slots : List S) (x : S) (old mid new : ℕ) → RisesBy (length slots) old mid → new ≡ (mid + 1) % 2 ^ 64
    → RisesBy (length (slots ++ x ∷ [])) old new
RisesBy-push slots x old mid new rises one =
    RisesBy-same (length slots + 1) (length (slots ++ x ∷ [])) old new (sym (length-append slots (x ∷ [])))
    (RisesBy-then (length slots) 1 old mid new rises (RisesBy-one mid new one))

-- once more the number
pub times_more : (times number : ℕ) → times * number + number ≡ (times + 1) * number
times_more times number = grind arith

length_drive : (count : ℕ) (d : Drive) → length (drive_stack count d) ≡ count
length_drive zero d = refl
length_drive (suc k) d = ap (λ (n : ℕ). suc n) (length_drive k d)

length_node : (drives node slots : ℕ) → length (node_stacks drives node slots) ≡ drives * slots
length_node zero node slots = sym (zero-mul slots)
length_node (suc k) node slots =
    length-append (node_stacks k node slots) (drive_stack slots (record { node = node; drive = suc k }))
    ∙ ap (λ (n : ℕ). n + length (drive_stack slots (record { node = node; drive = suc k }))) (length_node k node slots)
    ∙ ap (λ (n : ℕ). k * slots + n) (length_drive slots (record { node = node; drive = suc k }))
    ∙ times_more k slots ∙ ap (λ (n : ℕ). n * slots) (let same : k + 1 ≡ suc k = omega arith in same)

length_nodes : (nodes : ℕ) (shape : Shape) → length (all_stacks nodes shape) ≡ nodes * (shape.drives * shape.slots)
length_nodes zero shape = sym (zero-mul (shape.drives * shape.slots))
length_nodes (suc n) shape =
    length-append (all_stacks n shape) (node_stacks shape.drives (suc n) shape.slots)
    ∙ ap (λ (k : ℕ). k + length (node_stacks shape.drives (suc n) shape.slots)) (length_nodes n shape)
    ∙ ap (λ (k : ℕ). n * (shape.drives * shape.slots) + k) (length_node shape.drives (suc n) shape.slots)
    ∙ times_more n (shape.drives * shape.slots) ∙ ap (λ (k : ℕ). k * (shape.drives * shape.slots)) (let same : n + 1 ≡ suc n = omega arith in same)

-- how many slots the lists have together
abbrev pub length_of : {S : Type 0} → List S → List S → List S → List S → ℕ
length_of units inode retired free = length units + (length inode + (length retired + length free))

module _ {S : Type 0} (place_of : S → RawPlace) where
  -- slots in stock order are all of the cluster
  pub length_stock : (slots : List S) (shape : Shape) → places_from place_of slots ≡ stock_order shape → length slots ≡ slot_count shape
  length_stock slots shape order =
      sym (length-map slots (λ x. place_from (place_of x))) ∙ ap (λ (l : List Place). length l) order ∙ length_nodes shape.nodes shape

  count_each : (slots : List S) → count_at place_of (λ s. true) slots ≡ length slots
  count_each [] = refl
  count_each (x ∷ xs) =
      let rest = count_each xs in
      let sum = count_by-cons (λ (y : S). true) x xs in
      omega (arith, rest, sum)

  -- what a run leaves are all slots of the cluster
  pub length_left : (content : S → Option (List ℕ)) (slots : List S) (shape : Shape) (f : FileView S) (stock : StockView S) (g : FileView S) (next : StockView S)
      → f ≡ new_file shape → stock ≡ new_stock shape slots stock.room stock.spare → places_from place_of slots ≡ stock_order shape
      → Leaves place_of content shape f stock g next
      → length_of g.units g.inode next.retired next.free ≡ slot_count shape
  length_left content slots shape f stock g next is_file is_stock order left =
      let kept = left.conserved (λ s. true) in
      let units = count_each g.units in
      let inode = count_each g.inode in
      let free = count_each next.free in
      let retired = count_each next.retired in
      let start = count_each slots in
      let all = length_stock slots shape order in
      let no_units = ap (λ (k : FileView S). count_at place_of (λ s. true) k.units) is_file in
      let no_inode = ap (λ (k : FileView S). count_at place_of (λ s. true) k.inode) is_file in
      let all_free = ap (λ (k : StockView S). count_at place_of (λ s. true) k.free) is_stock in
      let no_retired = ap (λ (k : StockView S). count_at place_of (λ s. true) k.retired) is_stock in
      omega (arith, kept, units, inode, free, retired, start, all, no_units, no_inode, all_free, no_retired)
