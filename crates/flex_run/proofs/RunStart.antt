-- What holds before the first operation.
use Rattle.std.proofs.Common.{◌≡◌, ℕ, ◌*◌, ◌≤◌, false, List, [], ◌∷◌, Option, None, Some, IsSome, is_none, refl, sym, ap, ◌∙◌, subst, arith}
use Rattle.std.specs.List.{AllByRecursion}
use Rattle.flex_io.specs.declared.raw_place.RawPlace.{RawPlace}
use Rattle.domains.specs.Counts.{one_if}
use Rattle.domains.specs.Shape.{Shape}
use Rattle.domains.proofs.CountLemmas.{count_by-cons}
use Rattle.plain_file.specs.Slots.{Tell}
use Rattle.plain_file.specs.Plain.{StockView, FileView, AllTell}
use Rattle.scenario.specs.declared.op.Op.{Op}
use Rattle.scenario.specs.declared.op.Op.TheVariants as op
use Rattle.scenario.specs.declared.scenario.Scenario.{Scenario}
use Rattle.first_form.specs.FirstForm.{IsFirstForm, IsFirstScript, AreLaterOps, write_count}
use Rattle.held_slots.specs.Slots.{places_from}
use Rattle.flex_run.specs.StockOrder.{stock_order}
use Rattle.flex_run.specs.RunProgress.{EachTells, HasLogs, MayGoOn, IsOpOf, all_taken}
use Rattle.flex_run.proofs.StockPlaces.{one_each-stock, room-stock}

-- no operation has no logs
pub HasLogs-none : (known : Type 0) (s : Scenario) → HasLogs known s [] [] []
HasLogs-none known s = record {
  orders = tt;
  legal = tt;
  roomy = tt;
  fits = tt;
  noted = tt;
  board_calls = refl;
  file_calls = refl;
  serial = tt;
  past = tt;
  board_by = tt;
  file_by = tt;
}

each_later : (os : List Op) (shape : Shape) → AreLaterOps shape os → AllByRecursion (IsOpOf shape) os
each_later [] shape h = tt
each_later (op.Create file ∷ os) shape h = absurd h.0
each_later (op.WriteText file offset text ∷ os) shape h = (h.0, each_later os shape h.1)
each_later (op.Read file offset len ∷ os) shape h = (h.0, each_later os shape h.1)
each_later (op.Fail drive ∷ os) shape h = (h.0, each_later os shape h.1)

taken_later : (os : List Op) (shape : Shape) → AreLaterOps shape os → all_taken os ≤ 2 * write_count os
taken_later [] shape h = omega arith
taken_later (op.Create file ∷ os) shape h = absurd h.0
taken_later (op.WriteText file offset text ∷ os) shape h = let rest = taken_later os shape h.1 in omega (arith, rest)
taken_later (op.Read file offset len ∷ os) shape h = let rest = taken_later os shape h.1 in omega (arith, rest)
taken_later (op.Fail drive ∷ os) shape h = let rest = taken_later os shape h.1 in omega (arith, rest)

abbrev pub new_file : {S : Type 0} → Shape → FileView S
new_file shape = record { shape = shape; log = []; units = []; inode = [] }

abbrev pub new_stock : {S : Type 0} → Shape → List S → ℕ → ℕ → StockView S
new_stock shape slots room spare = record { shape = shape; board = []; free = slots; retired = []; room = room; spare = spare }

module _ {S : Type 0} (place_of : S → RawPlace) (slots : List S) (shape : Shape) (room spare : ℕ) where
  starts_script : (later : List Op) → 3 ≤ shape.slots → IsFirstScript shape (op.Create 0 ∷ later) → AreLaterOps shape later → write_count later ≤ 1
      → places_from place_of slots ≡ stock_order shape
      → MayGoOn place_of shape (op.Create 0 ∷ later) (new_file shape) (new_stock shape slots room spare)
  starts_script later enough h each one order = record {
    file_shape = refl;
    stock_shape = refl;
    each = (refl, each_later later shape each);
    few = let few = h.few in omega (arith, few);
    one_each = λ s. let once = one_each-stock place_of slots shape s order in omega (arith, once);
    room = λ d is of.
        let all = room-stock place_of slots shape d order is of in
        let taken = taken_later later shape each in
        omega (arith, all, taken, enough, one);
    one_write = one;
    unwritten = λ some. tt;
  }

  -- all operations of a script of the first form may be done over a new file and all slots
  pub MayGoOn-start : (script : List Op) → 3 ≤ shape.slots → IsFirstScript shape script → places_from place_of slots ≡ stock_order shape
      → MayGoOn place_of shape script (new_file shape) (new_stock shape slots room spare)
  MayGoOn-start script enough h order =
      let made = starts_script h.later enough (subst (λ (l : List Op). IsFirstScript shape l) h.begins h) h.each h.one_write order in
      subst (λ (l : List Op). MayGoOn place_of shape l (new_file shape) (new_stock shape slots room spare)) (sym h.begins) made

-- slots of which each tells what it holds
pub Tell-each : {S : Type 0} (content : S → Option (List ℕ)) → EachTells content → (slots : List S) → Tell content slots
Tell-each content each [] = refl
Tell-each content each (x ∷ xs) =
    let here = ap one_if (is_none-known (content x) (each x)) in
    let rest = Tell-each content each xs in
    let sum = count_by-cons (λ y. is_none (content y)) x xs in
    omega (arith, sum, here, rest)
  where
    is_none-known : (c : Option (List ℕ)) → IsSome c → is_none c ≡ false
    is_none-known None known = absurd (cc)
    is_none-known (Some bytes) known = refl

pub AllTell-each : {S : Type 0} (content : S → Option (List ℕ)) → EachTells content → (f : FileView S) (stock : StockView S) → AllTell content f stock
AllTell-each content each f stock = record {
  units = Tell-each content each f.units;
  inode = Tell-each content each f.inode;
  free = Tell-each content each stock.free;
  retired = Tell-each content each stock.retired;
}

-- a scenario of the first form may be played over a new file and all slots
pub MayGoOn-form : {S : Type 0} (place_of : S → RawPlace) (slots : List S) (s : Scenario) (script : List Op) (f : FileView S) (stock : StockView S) → IsFirstForm s
    → s.actors ≡ script ∷ [] → places_from place_of slots ≡ stock_order s.shape → f ≡ new_file s.shape → stock ≡ new_stock s.shape slots stock.room stock.spare
    → MayGoOn place_of s.shape script f stock
MayGoOn-form {S = S} place_of slots s script f stock form one order is_file is_stock =
    let joined = sym form.actors ∙ one in
    let same : form.script ≡ script = cc in
    let made = MayGoOn-start place_of slots s.shape stock.room stock.spare script form.slots (subst (λ (l : List Op). IsFirstScript s.shape l) same form.is_script) order in
    subst (λ (k : StockView S). MayGoOn place_of s.shape script f k) (sym is_stock)
    (subst (λ (k : FileView S). MayGoOn place_of s.shape script k (new_stock s.shape slots stock.room stock.spare)) (sym is_file) made)
