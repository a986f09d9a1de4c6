-- Entries that fit keep jobs that can be spelled.
use Rattle.std.proofs.Common.{◌≡◌, ℕ, zero, suc, ◌+◌, ◌<◌, ◌≤◌, true, List, [], ◌∷◌, ◌++◌, length, Option, Some, None, arith, lit≤}
use Rattle.std.specs.List.{AllByRecursion}
use Rattle.domains.specs.declared.drive_set.DriveSet.{DriveSet}
use Rattle.checkpoints.specs.Saved.{IsItem, drives_of}
use Rattle.checkpoints.specs.declared.checkpoint.ItemSaved.{ItemSaved}
use Rattle.checkpoints.specs.declared.checkpoint.ItemSaved.TheVariants.{ToDo, Out, Whole, Lost, Short}
use Rattle.job_rules.specs.Kinds.{phase_at}
use Rattle.job_rules.specs.Phases.{items_of}
use Rattle.job_rules.specs.declared.job.JobId.{JobId}
use Rattle.job_rules.specs.declared.kind.JobKind.{JobKind}
use Rattle.job_rules.specs.declared.phase.Phase.{Phase}
use Rattle.engine_history.specs.Items.{at_item, come_to, ended, given_back, handed_out, items_from, new_items}
use Rattle.engine_history.specs.Jobs.{Field, after_event, at_job, count_of, in_next_phase, is_job, items_in, new_job, ordered, with_items}
use Rattle.engine_history.specs.declared.end.End.{End}
use Rattle.engine_history.specs.declared.end.End.TheVariants as end
use Rattle.engine_history.specs.declared.entry.EngineEvent.{EngineEvent}
use Rattle.engine_history.specs.declared.entry.EngineEvent.TheVariants as event
use Rattle.engine_history.specs.declared.entry.JobOrder.{JobOrder}
use Rattle.engine_history.specs.declared.entry.JobOrder.TheVariants.{Pause, Resume, Cancel}
use Rattle.engine_history.specs.declared.entry.OrderEffect.TheVariants as effect
use Rattle.engine_history.specs.declared.job.JobState.{JobState}
use Rattle.job_log.specs.Jobs.{AreApart, AreSound, IsSound}
use Rattle.job_log.specs.JobLog.{Fits}
use Rattle.job_log.proofs.JobPlaces.{all-at_job, every_job, found_alone}

abbrev AreItems : List ItemSaved → Type 0
AreItems items = AllByRecursion IsItem items

items-items_from : (first count : ℕ) (f : ItemSaved → ItemSaved) (items : List ItemSaved) → ((i : ItemSaved) → IsItem i → IsItem (f i)) → AreItems items → AreItems (items_from first count f items)
items-items_from first zero f items keeps all = all
items-items_from first (suc count) f [] keeps all = tt
items-items_from zero (suc count) f (i ∷ is) keeps all = (keeps i all.0, items-items_from zero count f is keeps all.1)
items-items_from (suc first) (suc count) f (i ∷ is) keeps all = (all.0, items-items_from first (suc count) f is keeps all.1)

item-handed_out : (i : ItemSaved) → IsItem i → IsItem (handed_out i)
item-handed_out (ToDo next) h = h
item-handed_out (Out next) h = h
item-handed_out Whole h = lit≤ tt
item-handed_out Lost h = lit≤ tt
item-handed_out Short h = lit≤ tt

item-come_to : (n : ℕ) → n ≤ 257 → (i : ItemSaved) → IsItem i → IsItem (come_to n i)
item-come_to n few (ToDo next) h = few
item-come_to n few (Out next) h = few
item-come_to n few Whole h = h
item-come_to n few Lost h = h
item-come_to n few Short h = h

item-ended : (e : End) (i : ItemSaved) → IsItem i → IsItem (ended e)
item-ended end.Whole i h = tt
item-ended (end.Lost lost) i h = tt
item-ended (end.Short short) i h = tt

items-new_items : (n : ℕ) → AreItems (new_items n)
items-new_items zero = tt
items-new_items (suc n) = (lit≤ tt, items-new_items n)

items-items_in : (field : Field) (bars : DriveSet) (phase : Option Phase) → AreItems (items_in field bars phase)
items-items_in field bars None = tt
items-items_in field bars (Some phase) = items-new_items (count_of field bars (items_of phase))

sound_items : (change : List ItemSaved → List ItemSaved) (j : JobState) → (AreItems j.items → AreItems (change j.items)) → IsSound j → IsSound (with_items change j)
sound_items change j keeps s = record { number = s.number; some_priority = s.some_priority; priority = s.priority; phase = s.phase; bars = s.bars; items = keeps s.items }

sound_ordered : (order : JobOrder) (j : JobState) → IsSound j → IsSound (ordered order j)
sound_ordered Pause j s = record { number = s.number; some_priority = s.some_priority; priority = s.priority; phase = s.phase; bars = s.bars; items = s.items }
sound_ordered Resume j s = record { number = s.number; some_priority = s.some_priority; priority = s.priority; phase = s.phase; bars = s.bars; items = s.items }
sound_ordered Cancel j s = record { number = s.number; some_priority = s.some_priority; priority = s.priority; phase = s.phase; bars = s.bars; items = s.items }

sound_next : (field : Field) (j : JobState) → j.phase ≤ 2 → IsSound j → IsSound (in_next_phase field j)
sound_next field j few s =
    record { number = s.number; some_priority = s.some_priority; priority = s.priority; phase = omega (arith, few); bars = s.bars; items = items-items_in field j.bars (phase_at j.kind (j.phase + 1)) }

sound_finished : (j : JobState) → IsSound j → IsSound (record j { finished = true })
sound_finished j s = record { number = s.number; some_priority = s.some_priority; priority = s.priority; phase = s.phase; bars = s.bars; items = s.items }

-- a change that keeps each job sound
module _ (job : JobId) (f : JobState → JobState) (jobs : List JobState) where
  each : ((j : JobState) → IsSound j → IsSound (f j)) → AreSound jobs → AreSound (at_job job f jobs)
  each keeps sound = all-at_job IsSound job f jobs (every_job (λ (j : JobState). is_job job j ≡ true → IsSound j → IsSound (f j)) (λ j _ s. keeps j s) jobs) sound

pub sound-after : (field : Field) (e : EngineEvent) (jobs : List JobState) → AreApart jobs → Fits jobs e → AreSound jobs → AreSound (after_event field e jobs)
sound-after field (event.Start job kind priority epoch bars) jobs apart fits sound = absurd fits
sound-after field (event.JobsFull job) jobs apart fits sound = sound
sound-after field (event.Order job order effect.Changed) jobs apart fits sound = each job (ordered order) jobs (sound_ordered order) sound
sound-after field (event.Order job order effect.Same) jobs apart fits sound = sound
sound-after field (event.Order job order effect.NotActive) jobs apart fits sound = sound
sound-after field (event.HandOut job phase first count) jobs apart fits sound =
    each job (with_items (items_from first count handed_out)) jobs (λ j s. sound_items (items_from first count handed_out) j (items-items_from first count handed_out j.items item-handed_out) s) sound
sound-after field (event.Progress job item next) jobs apart fits sound =
    each job (with_items (at_item item (come_to next))) jobs (λ j s. sound_items (at_item item (come_to next)) j (items-items_from item 1 (come_to next) j.items (item-come_to next fits)) s) sound
sound-after field (event.GiveBack job item next) jobs apart fits sound =
    each job (with_items (at_item item (given_back next))) jobs (λ j s. sound_items (at_item item (given_back next)) j (items-items_from item 1 (given_back next) j.items (λ i h. fits)) s) sound
sound-after field (event.Done job item e) jobs apart fits sound =
    each job (with_items (at_item item (λ i. ended e))) jobs (λ j s. sound_items (at_item item (λ i. ended e)) j (items-items_from item 1 (λ i. ended e) j.items (item-ended e)) s) sound
sound-after field (event.PhaseEnd job phase) jobs apart fits sound =
    all-at_job IsSound job (in_next_phase field) jobs (both jobs (found_alone (λ (j : JobState). j.phase ≤ 2) job jobs apart fits)) sound
  where
    both : (ks : List JobState) → AllByRecursion (λ (k : JobState). is_job job k ≡ true → k.phase ≤ 2) ks → AllByRecursion (λ (k : JobState). is_job job k ≡ true → IsSound k → IsSound (in_next_phase field k)) ks
    both [] few = tt
    both (k ∷ ks) few = ((λ named s. sound_next field k (few.0 named) s), both ks few.1)
sound-after field (event.Finish job result) jobs apart fits sound = each job (λ j. record j { finished = true }) jobs sound_finished sound
sound-after field event.Restart jobs apart fits sound = sound
sound-after field (event.Work asked steps) jobs apart fits sound = sound
sound-after field (event.Drain steps) jobs apart fits sound = sound

pub sound-last : (jobs : List JobState) (j : JobState) → AreSound jobs → IsSound j → AreSound (jobs ++ j ∷ [])
sound-last [] j all here = (here, tt)
sound-last (x ∷ xs) j all here = (all.0, sound-last xs j all.1 here)

pub sound-new_job : (field : Field) (order : ℕ) (job : JobId) (kind : JobKind) (priority : ℕ) (bars : DriveSet) → job.number < 65536 → 1 ≤ priority → priority ≤ 10 → length (drives_of bars) ≤ 200
    → IsSound (new_job field order job kind priority bars)
sound-new_job field order job kind priority bars small some few barred =
    record { number = small; some_priority = some; priority = few; phase = lit≤ tt; bars = barred; items = items-items_in field bars (phase_at kind 0) }
