-- Which places an operation retires.
use Rattle.std.proofs.Common.{◌≡◌, ◌≢◌, ℕ, ◌+◌, ◌≤◌, Bool, true, false, not, ◌&&◌, ◌||◌, cond, List, [], ◌∷◌, ◌++◌, length, take, drop, count_by, sum_by, refl, sym, ap, ◌∙◌, arith, append-nil, append_assoc}
use Rattle.std.specs.List.{AllByRecursion, filter, take_while, prefix_len, list_any}
use Rattle.std.proofs.lemmas.Bool.{and_parts, eqb-true, true≢false}
use Rattle.std.proofs.lemmas.List.{take-append-le}
use Rattle.std.proofs.lemmas.List.Sums.{sum_by-append, sum_by-cons}
use Rattle.domains.specs.Counts.{one_if}
use Rattle.domains.specs.Drive.{Drive}
use Rattle.domains.specs.Place.{Place, same_place}
use Rattle.domains.specs.Shape.{Shape, is_of}
use Rattle.domains.proofs.DriveLemmas.{same_place-eq}
use Rattle.domains.specs.Level.{Level}
use Rattle.domains.specs.declared.group.Group.{Group}
use Rattle.board_history.specs.Board.{state_after, is_up}
use Rattle.board_history.specs.declared.entry.BoardEntry.{BoardEntry}
use Rattle.file_history.specs.World.{World, Moment, world_of}
use Rattle.file_history.specs.Layout.{Layout, empty_layout, layout_after_event, layout_from, layout_after, all_groups, group_list, places_of, is_taken, is_among}
use Rattle.file_history.specs.Step.{IsEvent, IsNewPlace}
use Rattle.plain_file.specs.Plain.{AnswersPlain}
use Rattle.file_history.specs.declared.entry.FileEvent.{FileEvent}
use Rattle.file_history.specs.declared.entry.FileEvent.TheVariants as event
use Rattle.file_history.specs.declared.entry.NotedEntry.{NotedEntry}
use Rattle.plain_file.specs.declared.op.PlainOp.{PlainOp}
use Rattle.file_history.proofs.HistoryGrowth.{layout_from-push}
use Rattle.flex_run.specs.RetiredPlaces.{retired_by, retired_from, retired_places}

-- one entry more retires its places behind the others
pub retired_from-push : (log : List NotedEntry) (t : NotedEntry) (world : World) (l : Layout)
    → retired_from (log ++ t ∷ []) world l ≡ retired_from log world l ++ retired_by world (layout_from log world.level l) t
retired_from-push [] t world l = append-nil (retired_by world l t)
retired_from-push (x ∷ xs) t world l =
    let next = layout_after_event world.level x.entry.event l in
    ap (λ (rest : List Place). retired_by world l x ++ rest) (retired_from-push xs t world next)
    ∙ sym (append_assoc (retired_by world l x) (retired_from xs world next) (retired_by world (layout_from xs world.level next) t))

-- the world in which these entries of the board are all there are, at any epoch
abbrev world_after : Shape → Level → List BoardEntry → World
world_after shape level board = record {
  level = level;
  shape = shape;
  epochs = 0;
  up = λ (epoch : ℕ) (d : Drive). is_of shape d && is_up (state_after board d);
  gone = λ (epoch : ℕ) (d : Drive). false;
}

-- entries of the board that come later change none of them
retired_by-append : (shape : Shape) (level : Level) (board more : List BoardEntry) (l : Layout) (t : NotedEntry) → t.entry.epoch ≤ length board
    → retired_by (world_of shape board level) l t ≡ retired_by (world_of shape (board ++ more) level) l t
retired_by-append shape level board more l t within =
    ap (λ (seen : List BoardEntry). retired_by (world_after shape level seen) l t) (sym (take-append-le t.entry.epoch board more within))

pub retired_from-append : (log : List NotedEntry) (shape : Shape) (level : Level) (board more : List BoardEntry) (l : Layout)
    → AllByRecursion (λ (t : NotedEntry). t.entry.epoch ≤ length board) log
    → retired_from log (world_of shape board level) l ≡ retired_from log (world_of shape (board ++ more) level) l
retired_from-append [] shape level board more l within = refl
retired_from-append (t ∷ ts) shape level board more l within =
    let next = layout_after_event level t.entry.event l in
    ap (λ (here : List Place). here ++ retired_from ts (world_of shape board level) next) (retired_by-append shape level board more l t within.0)
    ∙ ap (λ (rest : List Place). retired_by (world_of shape (board ++ more) level) l t ++ rest) (retired_from-append ts shape level board more next within.1)

-- a place at which a test differs is another
differs : (p : Place → Bool) (s t : Place) (a b : Bool) → p s ≡ a → p t ≡ b → a ≢ b → same_place s t ≡ false
differs p s t a b here there apart =
    elim (same_place s t) as (λ c. same_place s t ≡ c → c ≡ false) [
      | true ↦ λ same. absurd (apart (sym here ∙ ap p (same_place-eq s t same) ∙ there))
      | false ↦ λ _. refl
    ] refl

module _ (s : Place) where
  abbrev pub times : List Place → ℕ
  times places = count_by (same_place s) places

  times-cons : (t : Place) (ts : List Place) → times (t ∷ ts) ≡ one_if (same_place s t) + times ts
  times-cons t ts = sum_by-cons (λ x. one_if (same_place s x)) t ts

  pub times-append : (xs ys : List Place) → times (xs ++ ys) ≡ times xs + times ys
  times-append xs ys = sum_by-append (λ x. one_if (same_place s x)) xs ys

  -- a place that passes stands as often among those that pass, and another not at all
  times-passes : (p : Place → Bool) (places : List Place) → p s ≡ true → times (filter p places) ≡ times places
  times-passes p [] here = refl
  times-passes p (t ∷ ts) here =
      let rest = times-passes p ts here in
      elim (p t) as (λ b. p t ≡ b → times (cond b (t ∷ filter p ts) (filter p ts)) ≡ times (t ∷ ts)) [
        | true ↦ λ is. let a = times-cons t (filter p ts) in let b = times-cons t ts in omega (arith, a, b, rest)
        | false ↦ λ is.
            let a = times-cons t ts in
            let other = ap one_if (differs p s t true false here is true≢false) in
            omega (arith, a, rest, other)
      ] refl

  times-fails : (p : Place → Bool) (places : List Place) → p s ≡ false → times (filter p places) ≡ 0
  times-fails p [] here = refl
  times-fails p (t ∷ ts) here =
      let rest = times-fails p ts here in
      elim (p t) as (λ b. p t ≡ b → times (cond b (t ∷ filter p ts) (filter p ts)) ≡ 0) [
        | true ↦ λ is.
            let a = times-cons t (filter p ts) in
            let other = ap one_if (differs p s t false true here is (λ same. true≢false (sym same))) in
            omega (arith, a, rest, other)
        | false ↦ λ is. rest
      ] refl

  -- a place that is taken stands among the places
  times-taken : (places : List Place) → list_any (same_place s) places ≡ true → 1 ≤ times places
  times-taken [] h = absurd (true≢false (sym h))
  times-taken (t ∷ ts) h =
      let sum = times-cons t ts in
      elim (same_place s t) as (λ b. same_place s t ≡ b → 1 ≤ times (t ∷ ts)) [
        | true ↦ λ is. let here = ap one_if is in omega (arith, sum, here)
        | false ↦ λ is.
            let there : list_any (same_place s) ts ≡ true = sym (ap (λ (b : Bool). b || list_any (same_place s) ts) is) ∙ h in
            let rest = times-taken ts there in
            omega (arith, sum, rest)
      ] refl

  times-free : (places : List Place) → list_any (same_place s) places ≡ false → times places ≡ 0
  times-free [] h = refl
  times-free (t ∷ ts) h =
      let sum = times-cons t ts in
      elim (same_place s t) as (λ b. same_place s t ≡ b → times (t ∷ ts) ≡ 0) [
        | true ↦ λ is. absurd (true≢false (sym (ap (λ (b : Bool). b || list_any (same_place s) ts) is) ∙ h))
        | false ↦ λ is.
            let there : list_any (same_place s) ts ≡ false = sym (ap (λ (b : Bool). b || list_any (same_place s) ts) is) ∙ h in
            let rest = times-free ts there in
            let here = ap one_if is in
            omega (arith, sum, rest, here)
      ] refl

  abbrev in_group : Group → ℕ
  in_group g = times g.places

  times-groups : (groups : List Group) → times (places_of groups) ≡ sum_by in_group groups
  times-groups [] = refl
  times-groups (g ∷ gs) =
      let a = times-append g.places (places_of gs) in
      let b = sum_by-cons in_group g gs in
      let rest = times-groups gs in
      omega (arith, a, b, rest)

  -- a run of groups that makes way leaves no more
  sum-drop : (k : ℕ) (groups : List Group) → sum_by in_group (drop k groups) ≤ sum_by in_group groups
  sum-drop ℕ.zero groups = omega arith
  sum-drop (ℕ.suc k) [] = omega arith
  sum-drop (ℕ.suc k) (g ∷ gs) =
      let rest = sum-drop k gs in
      let sum = sum_by-cons in_group g gs in
      omega (arith, rest, sum)

  sum-replaced : (i k : ℕ) (groups : List Group) (n : ℕ) → n ≡ length (take i groups) + k
      → sum_by in_group (take i groups) + sum_by in_group (drop n groups) ≤ sum_by in_group groups
  sum-replaced ℕ.zero k groups n at = let all = sum-drop n groups in omega (arith, all)
  sum-replaced (ℕ.suc i) k [] n at = let none = sum-drop n [] in omega (arith, none)
  sum-replaced (ℕ.suc i) k (g ∷ gs) n at =
      let behind : n ≡ ℕ.suc (length (take i gs) + k) = omega (arith, at) in
      let same = ap (λ (m : ℕ). sum_by in_group (drop m (g ∷ gs))) behind in
      let rest = sum-replaced i k gs (length (take i gs) + k) refl in
      let a = sum_by-cons in_group g (take i gs) in
      let b = sum_by-cons in_group g gs in
      omega (arith, same, a, b, rest)

  module _ (now : Moment) (l : Layout) (lost : now.up s.drive ≡ false) where
    -- new places are on drives that are up
    new_elsewhere : (places : List Place) → AllByRecursion (IsNewPlace now l) places → times places ≡ 0
    new_elsewhere [] all = refl
    new_elsewhere (t ∷ ts) all =
        let rest = new_elsewhere ts all.1 in
        let up = (and_parts _ _ all.0.usable).0 in
        let other = ap one_if (differs (λ x. now.up x.drive) s t false true lost up (λ same. true≢false (sym same))) in
        let sum = times-cons t ts in
        omega (arith, rest, other, sum)

    -- so a plain operation puts no unit on a lost drive
    pub no_more : (level : Level) (log : List NotedEntry) (payload : List ℕ) (o : PlainOp) (e : FileEvent) → AnswersPlain o e → IsEvent now log l payload e
        → times (places_of (all_groups (layout_after_event level e l))) ≤ times (places_of (all_groups l))
    no_more level log payload o (event.Created inode) answers legal =
        let none = new_elsewhere inode.places legal.places.each in
        let all = times-append inode.places [] in
        omega (arith, none, all)
    no_more level log payload o event.Deleted answers legal = absurd answers
    no_more level log payload o (event.Written offset len size change) answers legal =
        let places = legal.2.places.each in
        let none = new_elsewhere (places_of change.new ++ change.inode.places) places in
        let split = times-append (places_of change.new) change.inode.places in
        let new = times-groups change.new in
        let p : Group → Bool = λ g. not (is_among change.old g.generation) in
        let front = take_while p l.groups in
        let back = drop (length front + length change.old) l.groups in
        let kept = sum-replaced (prefix_len p l.groups) (length change.old) l.groups (length front + length change.old) refl in
        let after = times-groups (((front ++ change.new) ++ back) ++ change.inode ∷ []) in
        let a = sum_by-append in_group ((front ++ change.new) ++ back) (change.inode ∷ []) in
        let b = sum_by-append in_group (front ++ change.new) back in
        let c = sum_by-append in_group front change.new in
        let last = sum_by-cons in_group change.inode [] in
        let before = times-groups (l.groups ++ group_list l.inode) in
        let d = sum_by-append in_group l.groups (group_list l.inode) in
        omega (arith, none, split, new, kept, after, a, b, c, last, before, d)
    no_more level log payload o (event.Shown offset len bytes) answers legal = omega arith
    no_more level log payload o (event.LevelSet row) answers legal = absurd answers
    no_more level log payload o (event.Placed job change) answers legal = absurd answers
    no_more level log payload o (event.Dead generation position) answers legal = absurd answers
    no_more level log payload o (event.Barred job drives) answers legal = absurd answers
    no_more level log payload o (event.Cleared job drives) answers legal = absurd answers
    no_more level log payload o (event.Marked job count) answers legal = absurd answers
    no_more level log payload o (event.Refused why) answers legal = omega arith

  -- what one entry adds to the retired slots of a place, which were `was` and are `is`
  module _ (world : World) (l : Layout) (t : NotedEntry) where
    abbrev pub held_before : ℕ
    held_before = times (places_of (all_groups l))

    abbrev pub held_after : ℕ
    held_after = times (places_of (all_groups (layout_after_event world.level t.entry.event l)))

    pub retires : (was is : ℕ) → (world.up t.entry.epoch s.drive ≡ true → is ≡ was)
        → (world.up t.entry.epoch s.drive ≡ false → (held_after + is ≡ held_before + was) × (held_after ≤ held_before))
        → held_before + was ≤ 1 → is ≡ was + times (retired_by world l t)
    retires was is up lost once =
        let is_left : Place → Bool = λ x. not (is_taken (all_groups (layout_after_event world.level t.entry.event l)) x) in
        let passes : Place → Bool = λ x. not (world.up t.entry.epoch x.drive) && is_left x in
        let all = places_of (all_groups l) in
        let after = places_of (all_groups (layout_after_event world.level t.entry.event l)) in
        elim (world.up t.entry.epoch s.drive) as (λ b. world.up t.entry.epoch s.drive ≡ b → is ≡ was + times (retired_by world l t)) [
          | true ↦ λ on.
              let none = times-fails passes all (ap (λ (b : Bool). not b && is_left s) on) in
              let same = up on in
              omega (arith, none, same)
          | false ↦ λ off.
              let here : passes s ≡ is_left s = ap (λ (b : Bool). not b && is_left s) off in
              let moved = lost off in
              elim (list_any (same_place s) after) as (λ b. list_any (same_place s) after ≡ b → is ≡ was + times (retired_by world l t)) [
                | true ↦ λ taken.
                    let none = times-fails passes all (here ∙ ap not taken) in
                    let some = times-taken after taken in
                    omega (arith, none, some, moved.0, moved.1, once)
                | false ↦ λ free.
                    let each = times-passes passes all (here ∙ ap not free) in
                    let none = times-free after free in
                    omega (arith, each, none, moved.0)
              ] refl
        ] refl

  -- the places of a layout are those of its groups and its inode
  pub times-all : (l : Layout) → times (places_of (all_groups l)) ≡ times (places_of l.groups) + times (places_of (group_list l.inode))
  times-all l =
      let all = times-groups (l.groups ++ group_list l.inode) in
      let groups = times-groups l.groups in
      let inode = times-groups (group_list l.inode) in
      let sum = sum_by-append in_group l.groups (group_list l.inode) in
      omega (arith, all, groups, inode, sum)

  -- the places that a log retires, with one entry more
  pub times-push : (world : World) (log : List NotedEntry) (t : NotedEntry)
      → times (retired_places world (log ++ t ∷ [])) ≡ times (retired_places world log) + times (retired_by world (layout_after world.level log) t)
  times-push world log t =
      ap (λ (places : List Place). times places) (retired_from-push log t world (empty_layout world.level))
      ∙ times-append (retired_places world log) (retired_by world (layout_after world.level log) t)
