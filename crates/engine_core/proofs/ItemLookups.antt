-- Items by their numbers.
use Rattle.std.proofs.Common.{◌≡◌, ℕ, zero, suc, ◌<◌, ◌≤◌, true, false, cond, List, [], ◌∷◌, length, Option, Some, None, refl, sym, ap, arith, nat_eq}
use Rattle.std.specs.Prelude.{IfSome, slice_index_or}
use Rattle.checkpoints.specs.declared.checkpoint.ItemSaved.{ItemSaved}
use Rattle.checkpoints.specs.declared.checkpoint.ItemSaved.TheVariants.{ToDo, Out, Whole, Lost, Short}
use Rattle.engine_history.specs.Items.{is_out}
use Rattle.engine_history.specs.Steps.{out_among}
use Rattle.engine_history.specs.declared.job.JobState.{JobState}
use Rattle.engine_core.specs.Tasks.{next_among, next_of, work_from, work_in}
use Rattle.engine_core.specs.declared.work.Work.{Work}

pub next_inside : (item : ℕ) (items : List ItemSaved) (d : ItemSaved) → item < length items → next_among item items ≡ next_of (slice_index_or items item d)
next_inside item [] d inside = absurd (omega (arith, inside))
next_inside zero (i ∷ is) d inside = refl
next_inside (suc item) (i ∷ is) d inside = next_inside item is d (omega (arith, inside))

pub next_beyond : (item : ℕ) (items : List ItemSaved) → length items ≤ item → next_among item items ≡ None
next_beyond item [] beyond = refl
next_beyond zero (i ∷ is) beyond = absurd (omega (arith, beyond))
next_beyond (suc item) (i ∷ is) beyond = next_beyond item is (omega (arith, beyond))

of_item : (i : ItemSaved) → next_of i ≡ None → is_out i ≡ false
of_item (ToDo n) none = refl
of_item (Out n) none = absurd cc
of_item Whole none = refl
of_item Lost none = refl
of_item Short none = refl

-- an item without a next position is not out
pub not_out : (item : ℕ) (items : List ItemSaved) → next_among item items ≡ None → out_among item items ≡ false
not_out item [] none = refl
not_out zero (i ∷ is) none = of_item i none
not_out (suc item) (i ∷ is) none = not_out item is none

of_some : (i : ItemSaved) (n : ℕ) → next_of i ≡ Some n → is_out i ≡ true
of_some (ToDo m) n some = absurd cc
of_some (Out m) n some = refl
of_some Whole n some = absurd cc
of_some Lost n some = absurd cc
of_some Short n some = absurd cc

pub is_out_where : (item : ℕ) (items : List ItemSaved) (n : ℕ) → next_among item items ≡ Some n → out_among item items ≡ true
is_out_where item [] n some = absurd cc
is_out_where zero (i ∷ is) n some = of_some i n some
is_out_where (suc item) (i ∷ is) n some = is_out_where item is n some

-- what the work of an item tells
pub record Tells (j : JobState) (item : ℕ) (work : Work) : Type 0 where
  pub next : ℕ
  pub at : next_among item j.items ≡ Some next
  pub job : work.job ≡ j.job
  pub same : work.item ≡ item

pub work_tells : (j : JobState) (phase item : ℕ) (work : Work) → work_in (Some j) phase item ≡ Some work → Tells j item work
work_tells j phase item work is =
    elim (nat_eq j.phase phase) as (λ t. cond t (work_from j item (next_among item j.items)) None ≡ Some work → Tells j item work) [
      | true ↦ λ now. by_next (next_among item j.items) refl now
      | false ↦ λ none. absurd cc
    ] is
  where
    by_next : (o : Option ℕ) → next_among item j.items ≡ o → work_from j item o ≡ Some work → Tells j item work
    by_next None at none = absurd cc
    by_next (Some n) at some =
        let same : record { job = j.job; kind = j.kind; phase = j.phase; item = item; bars = j.bars; from_group = n } ≡ work = cc in
        record { next = n; at = at; job = ap (λ (w : Work). w.job) (sym same); same = ap (λ (w : Work). w.item) (sym same) }

pub if_any : {A : Type 0} (o : Option ℕ) → A → IfSome o (λ n. A)
if_any None a = tt
if_any (Some n) a = a
