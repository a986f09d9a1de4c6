-- Slots taken in stock order, and put back.
use Rattle.std.proofs.Common.{◌≡◌, ℕ, ◌+◌, ◌-◌, ◌<◌, Bool, true, false, cond, List, [], ◌∷◌, ◌++◌, Option, None, Some, IsSome, is_none, refl, ap, sym, ◌∙◌, subst, arith, append_assoc, add-one}
use Rattle.std.proofs.lemmas.List.{append-nil, map-append}
use Rattle.std.proofs.lemmas.List.Sums.{sum_by-append}
use Rattle.flex_io.specs.declared.raw_place.RawPlace.{RawPlace}
use Rattle.flex_io.specs.declared.rack.Returned.{Returned}
use Rattle.flex_io.specs.Racks.{TakesBack}
use Rattle.domains.specs.Drive.{Drive}
use Rattle.domains.specs.Place.{Place}
use Rattle.domains.specs.Shape.{Shape}
use Rattle.held_slots.specs.Slots.{place_from, places_from}
use Rattle.plain_file.specs.Slots.{Tell}
use Rattle.flex_run.specs.StockOrder.{drive_stack, node_stacks, all_stacks, bytes_or_none, returned_of, PutsBack}
use Rattle.flex_run.proofs.ListGrowth.{map-push, count_by-push}

abbrev placed : Drive → ℕ → Place
placed d slot = record { drive = d; slot = slot }

drive_stack-more : (count turn : ℕ) (d : Drive) → turn < count
    → drive_stack (count - turn) d ≡ placed d (count - 1 - turn) ∷ drive_stack (count - (turn + 1)) d
drive_stack-more count turn d within =
    let at : count - turn ≡ ℕ.suc (count - 1 - turn) = omega arith in
    let rest : count - 1 - turn ≡ count - (turn + 1) = omega arith in
    ap (λ n. drive_stack n d) at ∙ ap (λ n. placed d (count - 1 - turn) ∷ drive_stack n d) rest

-- one more slot of a drive was taken
pub takes_slot : {S : Type 0} (place_of : S → RawPlace) (slots : List S) (x : S) (count turn : ℕ) (d : Drive) (whole : List Place) → turn < count
    → places_from place_of slots ++ drive_stack (count - turn) d ≡ whole → place_from (place_of x) ≡ placed d (count - 1 - turn)
    → places_from place_of (slots ++ x ∷ []) ++ drive_stack (count - (turn + 1)) d ≡ whole
takes_slot place_of slots x count turn d whole within before here =
    let rest : List Place = drive_stack (count - (turn + 1)) d in
    ap (λ (l : List Place). l ++ rest) (map-push (λ y. place_from (place_of y)) slots x)
    ∙ append_assoc (places_from place_of slots) (place_from (place_of x) ∷ []) rest
    ∙ ap (λ (s : Place). places_from place_of slots ++ s ∷ rest) here
    ∙ ap (λ (l : List Place). places_from place_of slots ++ l) (sym (drive_stack-more count turn d within))
    ∙ before

not_counted : (b : Bool) → (let n : ℕ = cond b 1 0 in n) ≡ 0 → b ≡ false
not_counted true h = absurd (omega arith)
not_counted false h = refl

is_none-told : (c : Option (List ℕ)) → IsSome c → is_none c ≡ false
is_none-told None h = absurd (cc)
is_none-told (Some bytes) h = refl

-- slots that tell, and one more that tells
pub Tell-push : {S : Type 0} (content : S → Option (List ℕ)) (slots : List S) (x : S) → Tell content slots → IsSome (content x) → Tell content (slots ++ x ∷ [])
Tell-push content slots x h told =
    let more = count_by-push (λ y. is_none (content y)) slots x in
    let none = ap (λ (b : Bool). let n : ℕ = cond b 1 0 in n) (is_none-told (content x) told) in
    omega (arith, more, none, h)

Tell-front : {S : Type 0} (content : S → Option (List ℕ)) (slots : List S) (x : S) → Tell content (slots ++ x ∷ []) → Tell content slots
Tell-front content slots x h = let more = count_by-push (λ y. is_none (content y)) slots x in omega (arith, more, h)

Tell-last : {S : Type 0} (content : S → Option (List ℕ)) (slots : List S) (x : S) → Tell content (slots ++ x ∷ []) → is_none (content x) ≡ false
Tell-last content slots x h = let more = count_by-push (λ y. is_none (content y)) slots x in not_counted (is_none (content x)) (omega (arith, more, h))

-- the next node's drives
pub node_stacks-more : (drive node slots : ℕ) → node_stacks (drive + 1) node slots ≡ node_stacks drive node slots ++ drive_stack slots (record { node = node; drive = drive + 1 })
node_stacks-more drive node slots =
    ap (λ n. node_stacks n node slots) (add-one drive)
    ∙ ap (λ n. node_stacks drive node slots ++ drive_stack slots (record { node = node; drive = n })) (sym (add-one drive))

pub all_stacks-more : (node : ℕ) (shape : Shape) → all_stacks (node + 1) shape ≡ all_stacks node shape ++ node_stacks shape.drives (node + 1) shape.slots
all_stacks-more node shape =
    ap (λ n. all_stacks n shape) (add-one node)
    ∙ ap (λ n. all_stacks node shape ++ node_stacks shape.drives n shape.slots) (sym (add-one node))

-- one more drive of a node was taken
pub takes_drive : (before now more : List Place) (drive node slots : ℕ) → now ≡ before ++ node_stacks drive node slots
    → more ≡ now ++ drive_stack slots (record { node = node; drive = drive + 1 }) → more ≡ before ++ node_stacks (drive + 1) node slots
takes_drive before now more drive node slots h taken =
    taken ∙ ap (λ (l : List Place). l ++ drive_stack slots (record { node = node; drive = drive + 1 })) h
    ∙ append_assoc before (node_stacks drive node slots) (drive_stack slots (record { node = node; drive = drive + 1 }))
    ∙ ap (λ (l : List Place). before ++ l) (sym (node_stacks-more drive node slots))

-- one more node was taken
pub takes_node : (now more : List Place) (node : ℕ) (shape : Shape) → now ≡ all_stacks node shape
    → more ≡ now ++ node_stacks shape.drives (node + 1) shape.slots → more ≡ all_stacks (node + 1) shape
takes_node now more node shape h taken =
    taken ∙ ap (λ (l : List Place). l ++ node_stacks shape.drives (node + 1) shape.slots) h ∙ sym (all_stacks-more node shape)

next_is : (all : List Returned) (next : Option (List Returned)) (place : RawPlace) (c : Option (List ℕ)) → TakesBack (Some all) next place c → is_none c ≡ false
    → next ≡ Some (all ++ record { place = place; bytes = bytes_or_none c } ∷ [])
next_is all (Some now) place (Some bytes) h told = ap (λ (l : List Returned). Some l) h
next_is all None place (Some bytes) h told = absurd h
next_is all next place None h told = absurd (cc)

-- one more slot came back
pub PutsBack-push : {S : Type 0} (old now next : Option (List Returned)) (place_of : S → RawPlace) (content : S → Option (List ℕ)) (slots : List S) (x : S)
    → PutsBack old now place_of content slots → TakesBack now next (place_of x) (content x) → PutsBack old next place_of content (slots ++ x ∷ [])
PutsBack-push None now next place_of content slots x h back = tt
PutsBack-push (Some before) now next place_of content slots x h back = λ told.
    let was = h (Tell-front content slots x told) in
    let here = subst (λ (o : Option (List Returned)). TakesBack o next (place_of x) (content x)) was back in
    next_is (before ++ returned_of place_of content slots) next (place_of x) (content x) here (Tell-last content slots x told)
    ∙ ap (λ (l : List Returned). Some l)
    (append_assoc before (returned_of place_of content slots) (record { place = place_of x; bytes = bytes_or_none (content x) } ∷ [])
    ∙ ap (λ (l : List Returned). before ++ l) (sym (map-push (λ y. let made : Returned = record { place = place_of y; bytes = bytes_or_none (content y) } in made) slots x)))

Tell-both : {S : Type 0} (content : S → Option (List ℕ)) (xs ys : List S) → Tell content (xs ++ ys) → Tell content xs × Tell content ys
Tell-both content xs ys h =
    let sum = sum_by-append (λ y. cond (is_none (content y)) 1 0) xs ys in
    (omega (arith, sum, h), omega (arith, sum, h))

-- some slots came back, and then others
pub PutsBack-append : {S : Type 0} (old mid now : Option (List Returned)) (place_of : S → RawPlace) (content : S → Option (List ℕ)) (xs ys : List S)
    → PutsBack old mid place_of content xs → PutsBack mid now place_of content ys → PutsBack old now place_of content (xs ++ ys)
PutsBack-append None mid now place_of content xs ys h k = tt
PutsBack-append (Some before) mid now place_of content xs ys h k = λ told.
    let both = Tell-both content xs ys told in
    let rest = subst (λ (o : Option (List Returned)). PutsBack o now place_of content ys) (h both.0) k in
    rest both.1
    ∙ ap (λ (l : List Returned). Some l)
    (append_assoc before (returned_of place_of content xs) (returned_of place_of content ys)
    ∙ ap (λ (l : List Returned). before ++ l) (sym (map-append (λ y. let made : Returned = record { place = place_of y; bytes = bytes_or_none (content y) } in made) xs ys)))

pub PutsBack-none : {S : Type 0} (old : Option (List Returned)) (place_of : S → RawPlace) (content : S → Option (List ℕ)) → PutsBack old old place_of content []
PutsBack-none None place_of content = tt
PutsBack-none (Some before) place_of content = λ told. ap (λ (l : List Returned). Some l) (sym (append-nil before))

pub PutsBack-same : {S : Type 0} (old now : Option (List Returned)) (place_of : S → RawPlace) (content : S → Option (List ℕ)) (xs ys : List S) → xs ≡ ys
    → PutsBack old now place_of content xs → PutsBack old now place_of content ys
PutsBack-same {S = S} old now place_of content xs ys same h = subst (λ (l : List S). PutsBack old now place_of content l) same h
