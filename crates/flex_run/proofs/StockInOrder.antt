-- All places of a cluster stand in order.
use Rattle.std.proofs.Common.{◌≡◌, ℕ, ◌+◌, ◌<◌, ◌≤◌, true, List, [], ◌∷◌, ◌++◌, refl, inl, inr, arith}
use Rattle.std.specs.List.{AllByRecursion}
use Rattle.domains.specs.Drive.{Drive}
use Rattle.domains.specs.Place.{Place}
use Rattle.domains.specs.Shape.{Shape}
use Rattle.plain_file.specs.FreeOrder.{is_before, ComesBefore, AreInOrder}
use Rattle.plain_file.proofs.SlotOrder.{earlier_node, earlier_drive}
use Rattle.flex_run.specs.StockOrder.{drive_stack, node_stacks, all_stacks, stock_order}

all_weaker : (P Q : Place → Type 0) → ((s : Place) → P s → Q s) → (ss : List Place) → AllByRecursion P ss → AllByRecursion Q ss
all_weaker P Q f [] h = tt
all_weaker P Q f (s ∷ ss) h = (f s h.0, all_weaker P Q f ss h.1)

all_append : (P : Place → Type 0) (ss ts : List Place) → AllByRecursion P ss → AllByRecursion P ts → AllByRecursion P (ss ++ ts)
all_append P [] ts one two = two
all_append P (s ∷ ss) ts one two = (one.0, all_append P ss ts one.1 two)

-- places in order, and behind them others
order_append : (ss ts : List Place) → AreInOrder ss → AreInOrder ts → AllByRecursion (λ (s : Place). AllByRecursion (ComesBefore s) ts) ss
    → AreInOrder (ss ++ ts)
order_append [] ts one two behind = two
order_append (s ∷ ss) ts one two behind = (all_append (ComesBefore s) ss ts one.0 behind.0, order_append ss ts one.1 two behind.1)

-- what holds of a drive holds of its stack, and what holds of each drive holds of all stacks
stack_on : (P : Drive → Type 0) (k : ℕ) (d : Drive) → P d → AllByRecursion (λ (s : Place). P s.drive) (drive_stack k d)
stack_on P ℕ.zero d h = tt
stack_on P (ℕ.suc k) d h = (h, stack_on P k d h)

node_on : (P : Drive → Type 0) (k node slots : ℕ) → ((j : ℕ) → j ≤ k → P (record { node = node; drive = j }))
    → AllByRecursion (λ (s : Place). P s.drive) (node_stacks k node slots)
node_on P ℕ.zero node slots h = tt
node_on P (ℕ.suc k) node slots h =
    all_append (λ (s : Place). P s.drive) (node_stacks k node slots) _ (node_on P k node slots (λ j within. h j (omega arith)))
    (stack_on P slots (record { node = node; drive = ℕ.suc k }) (h (ℕ.suc k) (omega arith)))

stacks_on : (P : Drive → Type 0) (n : ℕ) (shape : Shape) → ((i j : ℕ) → i ≤ n → P (record { node = i; drive = j }))
    → AllByRecursion (λ (s : Place). P s.drive) (all_stacks n shape)
stacks_on P ℕ.zero shape h = tt
stacks_on P (ℕ.suc n) shape h =
    all_append (λ (s : Place). P s.drive) (all_stacks n shape) _ (stacks_on P n shape (λ i j within. h i j (omega arith)))
    (node_on P shape.drives (ℕ.suc n) shape.slots (λ j within. h (ℕ.suc n) j (omega arith)))

-- places of earlier drives come before
from_drives : (s : Place) (ss : List Place) → AllByRecursion (λ (t : Place). is_before s.drive t.drive ≡ true) ss → AllByRecursion (ComesBefore s) ss
from_drives s ss = all_weaker (λ (t : Place). is_before s.drive t.drive ≡ true) (ComesBefore s) (λ t h. inl h) ss

-- the numbers of a stack descend
stack_lower : (slot k : ℕ) (d : Drive) → k ≤ slot → AllByRecursion (ComesBefore (record { drive = d; slot = slot })) (drive_stack k d)
stack_lower slot ℕ.zero d h = tt
stack_lower slot (ℕ.suc k) d h = (inr (refl, omega arith), stack_lower slot k d (omega arith))

stack_in_order : (k : ℕ) (d : Drive) → AreInOrder (drive_stack k d)
stack_in_order ℕ.zero d = tt
stack_in_order (ℕ.suc k) d = (stack_lower k k d (omega arith), stack_in_order k d)

node_in_order : (k node slots : ℕ) → AreInOrder (node_stacks k node slots)
node_in_order ℕ.zero node slots = tt
node_in_order (ℕ.suc k) node slots =
    let next : Drive = record { node = node; drive = ℕ.suc k } in
    order_append (node_stacks k node slots) (drive_stack slots next) (node_in_order k node slots) (stack_in_order slots next)
    (all_weaker (λ (s : Place). is_before s.drive next ≡ true) (λ (s : Place). AllByRecursion (ComesBefore s) (drive_stack slots next))
    (λ s h. from_drives s (drive_stack slots next) (stack_on (λ (d : Drive). is_before s.drive d ≡ true) slots next h)) (node_stacks k node slots)
    (node_on (λ (d : Drive). is_before d next ≡ true) k node slots (λ j within. earlier_drive (record { node = node; drive = j }) next refl (omega arith))))

all_in_order : (n : ℕ) (shape : Shape) → AreInOrder (all_stacks n shape)
all_in_order ℕ.zero shape = tt
all_in_order (ℕ.suc n) shape =
    let more : List Place = node_stacks shape.drives (ℕ.suc n) shape.slots in
    order_append (all_stacks n shape) more (all_in_order n shape) (node_in_order shape.drives (ℕ.suc n) shape.slots)
    (all_weaker (λ (s : Place). s.drive.node ≤ n) (λ (s : Place). AllByRecursion (ComesBefore s) more)
    (λ s h. from_drives s more (node_on (λ (d : Drive). is_before s.drive d ≡ true) shape.drives (ℕ.suc n) shape.slots
    (λ j within. earlier_node s.drive (record { node = ℕ.suc n; drive = j }) (omega arith)))) (all_stacks n shape)
    (stacks_on (λ (d : Drive). d.node ≤ n) n shape (λ i j within. within)))

pub stock_in_order : (shape : Shape) → AreInOrder (stock_order shape)
stock_in_order shape = all_in_order shape.nodes shape
