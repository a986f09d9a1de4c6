-- Items changed one at a time.
use Rattle.std.proofs.Common.{◌≡◌, ℕ, zero, suc, ◌+◌, ◌<◌, ◌≤◌, List, [], ◌∷◌, length, Option, Some, None, refl, ap, arith}
use Rattle.std.specs.Prelude.{slice_index_or, slice_set}
use Rattle.checkpoints.specs.declared.checkpoint.ItemSaved.{ItemSaved}
use Rattle.domains.specs.declared.drive_set.DriveSet.{DriveSet}
use Rattle.job_rules.specs.declared.phase.Phase.{Phase}
use Rattle.engine_history.specs.Items.{at_item, items_from, new_items}
use Rattle.engine_history.specs.Jobs.{Field, items_in}
use Rattle.job_log.specs.Changes.{count_in}

abbrev Items : Type 0
Items = List ItemSaved

-- a change at a place that there is
pub at_item-inside : (at : ℕ) (f : ItemSaved → ItemSaved) (items : Items) (d : ItemSaved) → at < length items → at_item at f items ≡ slice_set items at (f (slice_index_or items at d))
at_item-inside at f [] d inside = absurd (omega (arith, inside))
at_item-inside zero f (i ∷ is) d inside = refl
at_item-inside (suc at) f (i ∷ is) d inside = ap (λ l. i ∷ l) (at_item-inside at f is d (omega (arith, inside)))

-- a change beyond the last changes nothing
pub at_item-beyond : (at : ℕ) (f : ItemSaved → ItemSaved) (items : Items) → length items ≤ at → at_item at f items ≡ items
at_item-beyond at f [] beyond = refl
at_item-beyond zero f (i ∷ is) beyond = absurd (omega (arith, beyond))
at_item-beyond (suc at) f (i ∷ is) beyond = ap (λ l. i ∷ l) (at_item-beyond at f is (omega (arith, beyond)))

pub items_from-length : (first count : ℕ) (f : ItemSaved → ItemSaved) (items : Items) → length (items_from first count f items) ≡ length items
items_from-length first zero f items = refl
items_from-length first (suc count) f [] = refl
items_from-length zero (suc count) f (i ∷ is) = ap suc (items_from-length zero count f is)
items_from-length (suc first) (suc count) f (i ∷ is) = ap suc (items_from-length first (suc count) f is)

next_at : (first count at : ℕ) (f : ItemSaved → ItemSaved) (items : Items) → at ≡ first + count → at_item at f (items_from first count f items) ≡ items_from first (suc count) f items
next_at zero zero zero f [] e = refl
next_at zero zero zero f (i ∷ is) e = refl
next_at zero zero (suc at) f items e = absurd (omega (arith, e))
next_at zero (suc count) zero f items e = absurd (omega (arith, e))
next_at zero (suc count) (suc at) f [] e = refl
next_at zero (suc count) (suc at) f (i ∷ is) e = ap (λ l. f i ∷ l) (next_at zero count at f is (omega (arith, e)))
next_at (suc first) count zero f items e = absurd (omega (arith, e))
next_at (suc first) zero (suc at) f [] e = refl
next_at (suc first) zero (suc at) f (i ∷ is) e = ap (λ l. i ∷ l) (next_at first zero at f is (omega (arith, e)))
next_at (suc first) (suc count) (suc at) f [] e = refl
next_at (suc first) (suc count) (suc at) f (i ∷ is) e = ap (λ l. i ∷ l) (next_at first (suc count) at f is (omega (arith, e)))

-- one more
pub items_from-next : (first count : ℕ) (f : ItemSaved → ItemSaved) (items : Items) → at_item (first + count) f (items_from first count f items) ≡ items_from first (suc count) f items
items_from-next first count f items = next_at first count (first + count) f items refl

-- the items of a phase are as many as it has, each to do
pub items_in-count : (field : Field) (bars : DriveSet) (phase : Option Phase) → items_in field bars phase ≡ new_items (count_in field bars phase)
items_in-count field bars None = refl
items_in-count field bars (Some phase) = refl
