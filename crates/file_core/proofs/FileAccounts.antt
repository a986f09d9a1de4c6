-- Accounts of seats with a file.
use Rattle.std.proofs.Common.{◌≡◌, ℕ, zero, suc, ◌+◌, Bool, true, false, not, if◌then◌else◌, List, [], ◌∷◌, ◌++◌, length, take, drop, refl, sym, ap, ◌∙◌, arith, length-append}
use Rattle.std.specs.List.{count_by, filter, take_while}
use Rattle.std.proofs.lemmas.List.{take-append-drop, drop-drop}
use Rattle.std.proofs.lemmas.List.Elements.{filter-append}
use Rattle.std.proofs.lemmas.Grind.{flat_map-append}
use Rattle.domains.specs.Level.{Level}
use Rattle.domains.specs.Place.{Place}
use Rattle.domains.specs.declared.group.Group.{Group}
use Rattle.domains.proofs.CountLemmas.{count_by-append}
use Rattle.turn_cell.specs.Notes.{notes_by}
use Rattle.turn_cell.specs.declared.chronicle.Note.{Note}
use Rattle.file_history.specs.Layout.{Layout, all_groups, empty_layout, group_list, is_among, layout_from, layout_after_event, places_of, replaced}
use Rattle.file_history.specs.declared.entry.Change.{Change}
use Rattle.file_history.specs.declared.entry.FileEvent.{FileEvent}
use Rattle.file_history.specs.declared.entry.FileEvent.TheVariants.{Created, Deleted, Written, Shown, LevelSet, Placed, Dead, Barred, Cleared, Marked, Refused}
use Rattle.file_core.specs.declared.noted.Noted.{Noted}
use Rattle.file_core.specs.Notes.{told_of}
use Rattle.file_core.specs.Accounts.{units_at, groups_placed, groups_taken, run_replaced, Counting, placed_in, taken_in, is_own, AccountsStay, AccountsBalance}

units_at-append : (p : Place → Bool) (xs ys : List Group) → units_at p (xs ++ ys) ≡ units_at p xs + units_at p ys
units_at-append p xs ys =
    ap (count_by p) (flat_map-append (λ (g : Group). g.places) xs ys) ∙ count_by-append p (places_of xs) (places_of ys)

-- a list is its first elements, and those behind them
cut_at : {A : Type 0} (k : ℕ) (xs : List A) → xs ≡ take k xs ++ drop (length (take k xs)) xs
cut_at zero xs = refl
cut_at (suc k) [] = refl
cut_at (suc k) (x ∷ xs) = ap (λ l. x ∷ l) (cut_at k xs)

-- the front, the run and the rest of a map
in_three : (groups front : List Group) (old : List ℕ) → groups ≡ front ++ drop (length front) groups
    → groups ≡ front ++ (take (length old) (drop (length front) groups) ++ drop (length front + length old) groups)
in_three groups front old cut =
    cut
    ∙ ap (λ l. front ++ l) (sym (take-append-drop (length old) (drop (length front) groups))
    ∙ ap (λ l. take (length old) (drop (length front) groups) ++ l) (drop-drop (length old) (length front) groups))

-- the counts of the parts, before and after a change
counted : (p : Place → Bool) (front run rest new inode root groups : List Group) → groups ≡ front ++ (run ++ rest)
    → units_at p (((front ++ new) ++ rest) ++ inode) + units_at p (run ++ root) ≡ units_at p (groups ++ root) + units_at p (new ++ inode)
counted p front run rest new inode root groups is =
    let made_0 = units_at-append p ((front ++ new) ++ rest) inode in
    let made_1 = units_at-append p (front ++ new) rest in
    let made_2 = units_at-append p front new in
    let gone = units_at-append p run root in
    let was_0 = units_at-append p groups root in
    let was_1 = ap (units_at p) is ∙ units_at-append p front (run ++ rest) in
    let was_2 = units_at-append p run rest in
    let brought = units_at-append p new inode in
    omega (arith, made_0, made_1, made_2, gone, was_0, was_1, was_2, brought)

-- what the file holds after a change, and what the change took away, are what it held and what the change placed
change_balance : (p : Place → Bool) (change : Change) (groups root : List Group)
    → units_at p (replaced change.old change.new groups ++ change.inode ∷ []) + units_at p (run_replaced change.old groups ++ root)
    ≡ units_at p (groups ++ root) + units_at p (change.new ++ change.inode ∷ [])
change_balance p change groups root =
    let front : List Group = take_while (λ (g : Group). not (is_among change.old g.generation)) groups in
    let cut : groups ≡ front ++ drop (length front) groups = cut_at _ groups in
    counted p front (run_replaced change.old groups) (drop (length front + length change.old) groups) change.new (change.inode ∷ []) root groups (in_three groups front change.old cut)

event_balance : (p : Place → Bool) (declared : Level) (event : FileEvent) (l : Layout)
    → units_at p (all_groups (layout_after_event declared event l)) + units_at p (groups_taken event l) ≡ units_at p (all_groups l) + units_at p (groups_placed event)
event_balance p declared (Created inode) l = omega arith
event_balance p declared Deleted l = omega arith
event_balance p declared (Written offset len size change) l = change_balance p change l.groups (group_list l.inode)
event_balance p declared (Shown offset len bytes) l = refl
event_balance p declared (LevelSet level) l = refl
event_balance p declared (Placed job change) l = change_balance p change l.groups (group_list l.inode)
event_balance p declared (Dead generation position) l = refl
event_balance p declared (Barred job drives) l = refl
event_balance p declared (Cleared job drives) l = refl
event_balance p declared (Marked job count) l = refl
event_balance p declared (Refused why) l = refl

balance : (notes : List (Note Noted)) (declared : Level) (l : Layout) (p : Place → Bool)
    → units_at p (all_groups (layout_from (told_of notes) declared l)) + taken_in notes declared l (λ n. true) p
    ≡ units_at p (all_groups l) + placed_in notes (λ n. true) p
balance [] declared l p = refl
balance (n ∷ ns) declared l p =
    let event = n.entry.told.entry.event in
    let rest = balance ns declared (layout_after_event declared event l) p in
    let step = event_balance p declared event l in
    omega (arith, rest, step)

pub accounts_balance : AccountsBalance
accounts_balance declared p notes = let all = balance notes declared (empty_layout declared) p in omega (arith, all)

pub placed_in-append : (notes more : List (Note Noted)) (counts : Counting) (p : Place → Bool)
    → placed_in (notes ++ more) counts p ≡ placed_in notes counts p + placed_in more counts p
placed_in-append [] more counts p = omega arith
placed_in-append (n ∷ ns) more counts p = let rest = placed_in-append ns more counts p in omega (arith, rest)

pub taken_in-append : (notes more : List (Note Noted)) (declared : Level) (l : Layout) (counts : Counting) (p : Place → Bool)
    → taken_in (notes ++ more) declared l counts p ≡ taken_in notes declared l counts p + taken_in more declared (layout_from (told_of notes) declared l) counts p
taken_in-append [] more declared l counts p = omega arith
taken_in-append (n ∷ ns) more declared l counts p =
    let rest = taken_in-append ns more declared (layout_after_event declared n.entry.told.entry.event l) counts p in omega (arith, rest)

not_here : (n : Note Noted) (ns : List (Note Noted)) → n ∷ ns ≡ [] → ⊥
not_here n ns h = cc

-- where no note counts, nothing is placed or taken
none_placed : (notes : List (Note Noted)) (counts : Counting) (p : Place → Bool) → filter counts notes ≡ [] → placed_in notes counts p ≡ 0
none_placed [] counts p none = refl
none_placed (n ∷ ns) counts p none =
    elim (counts n) as (λ b. (if b then n ∷ filter counts ns else filter counts ns) ≡ []
    → (if b then units_at p (groups_placed n.entry.told.entry.event) else 0) + placed_in ns counts p ≡ 0) [
      | true ↦ λ h. absurd (not_here n (filter counts ns) h)
      | false ↦ λ h. let rest = none_placed ns counts p h in omega (arith, rest)
    ] none

none_taken : (notes : List (Note Noted)) (declared : Level) (l : Layout) (counts : Counting) (p : Place → Bool) → filter counts notes ≡ []
    → taken_in notes declared l counts p ≡ 0
none_taken [] declared l counts p none = refl
none_taken (n ∷ ns) declared l counts p none =
    let next = layout_after_event declared n.entry.told.entry.event l in
    elim (counts n) as (λ b. (if b then n ∷ filter counts ns else filter counts ns) ≡ []
    → (if b then units_at p (groups_taken n.entry.told.entry.event l) else 0) + taken_in ns declared next counts p ≡ 0) [
      | true ↦ λ h. absurd (not_here n (filter counts ns) h)
      | false ↦ λ h. let rest = none_taken ns declared next counts p h in omega (arith, rest)
    ] none

empty_back : (xs ys : List (Note Noted)) → xs ++ ys ≡ xs → ys ≡ []
empty_back xs ys same = at ys (ap (λ (l : List (Note Noted)). length l) same) (length-append xs ys)
  where
    at : (l : List (Note Noted)) → length (xs ++ ys) ≡ length xs → length (xs ++ ys) ≡ length xs + length l → l ≡ []
    at [] a b = refl
    at (n ∷ ns) a b = absurd (omega (arith, a, b))

pub accounts_stay : AccountsStay
accounts_stay declared seat p notes more same =
    let none = empty_back (notes_by seat notes) (notes_by seat more) (sym (filter-append (is_own seat) notes more) ∙ same) in
    let placed = placed_in-append notes more (is_own seat) p in
    let taken = taken_in-append notes more declared (empty_layout declared) (is_own seat) p in
    let nothing = none_placed more (is_own seat) p none in
    let kept = none_taken more declared (layout_from (told_of notes) declared (empty_layout declared)) (is_own seat) p none in (
      omega (arith, placed, nothing),
      omega (arith, taken, kept),
    )
