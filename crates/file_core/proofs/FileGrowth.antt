-- A file with one more note.
use Rattle.std.proofs.Common.{◌≡◌, ℕ, ◌+◌, ◌*◌, ◌<◌, ◌≤◌, true, List, [], ◌∷◌, ◌++◌, length, refl, sym, ap, subst, ◌∙◌, arith, append_assoc, append-nil, length-append}
use Rattle.std.specs.List.{AllByRecursion}
use Rattle.std.proofs.lemmas.Bool.{false≢true}
use Rattle.std.proofs.lemmas.List.{map-append}
use Rattle.domains.specs.Shape.{Shape}
use Rattle.domains.specs.Level.{Level}
use Rattle.turn_cell.specs.declared.chronicle.Note.{Note}
use Rattle.file_history.specs.Bytes.{bytes_after, bytes_after_event}
use Rattle.file_history.specs.Layout.{Layout, layout_after, layout_after_event}
use Rattle.file_history.specs.declared.entry.FileEvent.{FileEvent}
use Rattle.file_history.specs.declared.entry.FileEvent.TheVariants.{Created, Deleted, Written, Shown, LevelSet, Placed, Dead, Barred, Cleared, Marked, Refused}
use Rattle.file_history.specs.declared.entry.NotedEntry.{NotedEntry}
use Rattle.file_history.proofs.HistoryGrowth.{layout_after-push, bytes_after-push}
use Rattle.file_core.specs.declared.noted.Noted.{Noted}
use Rattle.file_core.specs.Notes.{told_of, IsNotedStep, AreNotedSteps, last_epoch_of}
use Rattle.striped_groups.specs.StoredGroups.{StoredGroup}
use Rattle.file_core.specs.FileInvariant.{KeepsSlots, KeepsFile}
use Rattle.file_heads.specs.Heads.{is_quiet}
use Rattle.file_core.proofs.NoteLogLemmas.{last_epoch_of-push}

pub told_of-push : (ns : List (Note Noted)) (n : Note Noted) → told_of (ns ++ n ∷ []) ≡ told_of ns ++ n.entry.told ∷ []
told_of-push ns n = map-append (λ (x : Note Noted). x.entry.told) ns (n ∷ [])

pub layout_after-note : (level : Level) (ns : List (Note Noted)) (n : Note Noted)
    → layout_after level (told_of (ns ++ n ∷ [])) ≡ layout_after_event level n.entry.told.entry.event (layout_after level (told_of ns))
layout_after-note level ns n = ap (layout_after level) (told_of-push ns n) ∙ layout_after-push level (told_of ns) n.entry.told

pub bytes_after-note : (ns : List (Note Noted)) (n : Note Noted)
    → bytes_after (told_of (ns ++ n ∷ [])) ≡ bytes_after_event n.entry.told.entry.event n.entry.told.payload (bytes_after (told_of ns))
bytes_after-note ns n = ap bytes_after (told_of-push ns n) ∙ bytes_after-push (told_of ns) n.entry.told

AreNotedSteps-push : (ns : List (Note Noted)) (known : Type 0) (shape : Shape) (level : Level) (before : List NotedEntry) (n : Note Noted)
    → AreNotedSteps ns known shape level before → IsNotedStep known shape level (before ++ told_of ns) n.entry
    → AreNotedSteps (ns ++ n ∷ []) known shape level before
AreNotedSteps-push [] known shape level before n steps step =
    (subst (λ (l : List NotedEntry). IsNotedStep known shape level l n.entry) (append-nil before) step, tt)
AreNotedSteps-push (x ∷ xs) known shape level before n steps step = (
  steps.0,
  AreNotedSteps-push xs known shape level (before ++ x.entry.told ∷ []) n steps.1
      (subst (λ (l : List NotedEntry). IsNotedStep known shape level l n.entry) (sym (append_assoc before (x.entry.told ∷ []) (told_of xs))) step),
)

-- epochs up to one are up to a later one
pub epochs_up_to : (ts : List NotedEntry) (a b : ℕ) → a ≤ b → AllByRecursion (λ (t : NotedEntry). t.entry.epoch ≤ a) ts
    → AllByRecursion (λ (t : NotedEntry). t.entry.epoch ≤ b) ts
epochs_up_to [] a b less all = tt
epochs_up_to (t ∷ ts) a b less all = (let here : t.entry.epoch ≤ a = all.0 in omega (arith, here, less), epochs_up_to ts a b less all.1)

All-push : {A : Type 0} (P : A → Type 0) (xs : List A) (x : A) → AllByRecursion P xs → P x → AllByRecursion P (xs ++ x ∷ [])
All-push P [] x all here = (here, tt)
All-push P (y ∷ ys) x all here = (all.0, All-push P ys x all.1 here)

-- the file with a legal note more, where the slots hold what the layout and the bytes are then
pub KeepsFile-note : (known : Type 0) (shape : Shape) (level : Level) (room : ℕ) (notes : List (Note Noted)) (n : Note Noted)
    (groups inode groups' inode' : List StoredGroup)
    → KeepsFile known shape level room notes groups inode → IsNotedStep known shape level (told_of notes) n.entry
    → last_epoch_of notes ≤ n.entry.told.entry.epoch → length notes < room
    → (layout_after_event level n.entry.told.entry.event (layout_after level (told_of notes))).next ≤ (layout_after level (told_of notes)).next + 257
    → KeepsSlots shape (layout_after_event level n.entry.told.entry.event (layout_after level (told_of notes)))
    (bytes_after_event n.entry.told.entry.event n.entry.told.payload (bytes_after (told_of notes))) groups' inode'
    → KeepsFile known shape level room (notes ++ n ∷ []) groups' inode'
KeepsFile-note known shape level room notes n groups inode groups' inode' kept step later below next slots =
    let more = length-append notes (n ∷ []) in
    let numbers = kept.numbers in
    let last = last_epoch_of-push notes n in record {
      cluster = kept.cluster;
      declared = kept.declared;
      legal = AreNotedSteps-push notes known shape level [] n kept.legal step;
      within = omega (arith, more, below);
      few = kept.few;
      ordered = subst (λ (x : ℕ × List NotedEntry). AllByRecursion (λ (t : NotedEntry). t.entry.epoch ≤ x.0) x.1) (λ i. (sym last i, sym (told_of-push notes n) i))
          (All-push (λ (t : NotedEntry). t.entry.epoch ≤ n.entry.told.entry.epoch) (told_of notes) n.entry.told
          (epochs_up_to (told_of notes) (last_epoch_of notes) n.entry.told.entry.epoch later kept.ordered) (same n.entry.told.entry.epoch));
      numbers = subst (λ (l : Layout). l.next ≤ 257 * length (notes ++ n ∷ [])) (sym (layout_after-note level notes n)) (omega (arith, numbers, next, more));
      slots = subst (λ (x : Layout × List ℕ). KeepsSlots shape x.0 x.1 groups' inode') (λ i. (sym (layout_after-note level notes n) i, sym (bytes_after-note notes n) i)) slots;
    }
  where
    same : (a : ℕ) → a ≤ a
    same a = omega arith

-- what the slots hold where the event moves no unit
pub KeepsSlots-quiet : (event : FileEvent) (declared : Level) (payload : List ℕ) (shape : Shape) (l : Layout) (bytes : List ℕ) (groups inode : List StoredGroup)
    → is_quiet event ≡ true → KeepsSlots shape l bytes groups inode
    → KeepsSlots shape (layout_after_event declared event l) (bytes_after_event event payload bytes) groups inode
KeepsSlots-quiet (Created g) declared payload shape l bytes groups inode quiet kept = absurd (false≢true quiet)
KeepsSlots-quiet Deleted declared payload shape l bytes groups inode quiet kept = absurd (false≢true quiet)
KeepsSlots-quiet (Written offset len size change) declared payload shape l bytes groups inode quiet kept = absurd (false≢true quiet)
KeepsSlots-quiet (Shown offset len shown) declared payload shape l bytes groups inode quiet kept = kept
KeepsSlots-quiet (LevelSet level) declared payload shape l bytes groups inode quiet kept = record {
  mapped = kept.mapped;
  root = kept.root;
  there = kept.there;
  stands = kept.stands;
  root_stands = kept.root_stands;
  sized = kept.sized;
  root_sized = kept.root_sized;
  distinct = kept.distinct;
  within = kept.within;
  spelled = kept.spelled;
  used = kept.used;
  size = kept.size;
  zeros = kept.zeros;
  run = kept.run;
}
KeepsSlots-quiet (Placed job change) declared payload shape l bytes groups inode quiet kept = absurd (false≢true quiet)
KeepsSlots-quiet (Dead generation position) declared payload shape l bytes groups inode quiet kept = absurd (false≢true quiet)
KeepsSlots-quiet (Barred job drives) declared payload shape l bytes groups inode quiet kept = record {
  mapped = kept.mapped;
  root = kept.root;
  there = kept.there;
  stands = kept.stands;
  root_stands = kept.root_stands;
  sized = kept.sized;
  root_sized = kept.root_sized;
  distinct = kept.distinct;
  within = kept.within;
  spelled = kept.spelled;
  used = kept.used;
  size = kept.size;
  zeros = kept.zeros;
  run = kept.run;
}
KeepsSlots-quiet (Cleared job drives) declared payload shape l bytes groups inode quiet kept = kept
KeepsSlots-quiet (Marked job count) declared payload shape l bytes groups inode quiet kept = kept
KeepsSlots-quiet (Refused why) declared payload shape l bytes groups inode quiet kept = kept

pub next-quiet : (event : FileEvent) (declared : Level) (l : Layout) → is_quiet event ≡ true → (layout_after_event declared event l).next ≡ l.next
next-quiet (Created g) declared l quiet = absurd (false≢true quiet)
next-quiet Deleted declared l quiet = refl
next-quiet (Written offset len size change) declared l quiet = absurd (false≢true quiet)
next-quiet (Shown offset len shown) declared l quiet = refl
next-quiet (LevelSet level) declared l quiet = refl
next-quiet (Placed job change) declared l quiet = absurd (false≢true quiet)
next-quiet (Dead generation position) declared l quiet = refl
next-quiet (Barred job drives) declared l quiet = refl
next-quiet (Cleared job drives) declared l quiet = refl
next-quiet (Marked job count) declared l quiet = refl
next-quiet (Refused why) declared l quiet = refl
