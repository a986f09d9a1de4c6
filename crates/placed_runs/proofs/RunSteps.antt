-- A run of groups, one group at a time.
use Rattle.std.proofs.Common.{◌≡◌, ℕ, ◌+◌, ◌-◌, ◌*◌, ◌<◌, ◌≤◌, true, inl, inr, List, [], ◌∷◌, ◌++◌, length, take, drop, reverse, get_or, Option, Result, Ok, Err, IfErr, refl, sym, ap, subst, ◌∙◌, arith}
use Rattle.std.proofs.lemmas.List.{reverse-append, take_all}
use Rattle.domains.specs.Shape.{Shape, is_of}
use Rattle.flex_io.specs.declared.raw_place.RawPlace.{RawPlace}
use Rattle.held_slots.specs.Slots.{count_on}
use Rattle.fabric.specs.Accounts.{Holds}
use Rattle.fabric.specs.declared.hand.Hand.{Hand}
use Rattle.placement.specs.Draws.{IfNoRoom}
use Rattle.placement.specs.declared.refusal.NoRoom.{NoRoom}
use Rattle.placement.specs.declared.refusal.PlaceRefusal.{PlaceRefusal}
use Rattle.placement.specs.declared.refusal.PlaceRefusal.TheVariants.{NoRoom as NoRoomOf, NoMemory}
use Rattle.striped_groups.specs.StoredGroups.{GroupSlots}
use Rattle.write_rule.specs.NewBytes.{padded_slice}
use Rattle.placed_runs.specs.PlacedRuns.{FindsNoGroup, FindsNoInode, FindsNoRun, HoldsLess, MayGoBack, PlacesGroup, PlacesRun}
use Rattle.placed_runs.specs.declared.terms.RunTerms.{RunTerms}
use Rattle.placed_runs.proofs.PlacedSlots.{placed_may_go_back}

-- a list that is not empty is its first element and the rest
chunks_are : (xs : List ℕ) → 1 ≤ length xs → get_or xs 0 0 ∷ take (length xs - 1) (drop 1 xs) ≡ xs
chunks_are [] some = absurd (omega (arith, some))
chunks_are (x ∷ xs) some = ap (λ ys. x ∷ ys) (take_all (length (x ∷ xs) - 1) xs (omega arith))

no_chunks : (xs : List ℕ) → length xs < 1 → [] ≡ xs
no_chunks [] none = refl
no_chunks (x ∷ xs) none = absurd (omega (arith, none))

-- what is told of a refusal follows from what was told of it
pub no_room_weaker : (e : PlaceRefusal) (P Q : NoRoom → Type 0) → ((told : NoRoom) → P told → Q told) → IfNoRoom e P → IfNoRoom e Q
no_room_weaker (NoRoomOf told) P Q more is = more told is
no_room_weaker NoMemory P Q more is = tt

pub no_room_in : {T : Type 0} (r : Result T PlaceRefusal) (P Q : NoRoom → Type 0) → ((told : NoRoom) → P told → Q told) → IfErr r (λ e. IfNoRoom e P) → IfErr r (λ e. IfNoRoom e Q)
no_room_in (Ok x) P Q more is = tt
no_room_in (Err e) P Q more is = no_room_weaker e P Q more is

pub no_room_with : (e refusal : PlaceRefusal) (P Q R : NoRoom → Type 0) → ((told : NoRoom) → P told → Q told → R told)
    → IfNoRoom e (λ (told : NoRoom). (refusal ≡ NoRoomOf told) × P told) → IfNoRoom refusal Q → IfNoRoom e R
no_room_with (NoRoomOf told) refusal P Q R more is known = more told is.1 (subst (λ (x : PlaceRefusal). IfNoRoom x Q) is.0 known)
no_room_with NoMemory refusal P Q R more is known = tt

module _ {S : Type 0} (place_of : S → RawPlace) (content : S → Option (List ℕ)) (len_of faults : S → ℕ) (t : RunTerms) (shape : Shape) (spin : ℕ) (bytes : List ℕ) (from : ℕ) (chunks : List ℕ) where
  abbrev n : ℕ
  n = get_or chunks 0 0

  abbrev rest : List ℕ
  rest = take (length chunks - 1) (drop 1 chunks)

  -- the inode finds no room, behind all groups
  pub no_inode : length chunks < 1 → (told : NoRoom) (old new : Hand S) → FindsNoInode place_of t shape spin told old new
      → FindsNoRun place_of content len_of faults t shape spin bytes from chunks told old new
  no_inode none told old new finds =
      subst (λ (ns : List ℕ). FindsNoRun place_of content len_of faults t shape spin bytes from ns told old new) (no_chunks chunks none)
      (record {
        done = new;
        met = finds;
        same = λ d many of holds. subst (λ (c : Shape). Holds c d many new) finds.asks.shape_is
            (finds.found.same d many (subst (λ (c : Shape). is_of c d ≡ true) (sym finds.asks.shape_is) of) (subst (λ (c : Shape). Holds c d many old) (sym finds.asks.shape_is) holds));
      })

  -- the first group finds none
  pub no_group : 1 ≤ length chunks → (told : NoRoom) (old new : Hand S) → FindsNoGroup place_of content len_of faults t shape spin n (padded_slice bytes from (n * t.unit)) told old new
      → FindsNoRun place_of content len_of faults t shape spin bytes from chunks told old new
  no_group some told old new finds =
      subst (λ (ns : List ℕ). FindsNoRun place_of content len_of faults t shape spin bytes from ns told old new) (chunks_are chunks some)
      (record {
        done = new;
        met = inl finds;
        same = λ d many of holds. subst (λ (c : Shape). Holds c d many new) finds.asks.shape_is
            (finds.found.same d many (subst (λ (c : Shape). is_of c d ≡ true) (sym finds.asks.shape_is) of) (subst (λ (c : Shape). Holds c d many old) (sym finds.asks.shape_is) holds));
      })

  module _ (other : Shape) (is_shape : other ≡ shape) (k : ℕ) (k_is : k ≡ n) (g : GroupSlots S) (old between : Hand S)
      (placed : PlacesGroup place_of content len_of faults t shape spin n (padded_slice bytes from (n * t.unit)) g old between) where
    pub group_may_go_back : MayGoBack place_of shape t.view g.slots
    group_may_go_back = placed_may_go_back place_of t shape spin placed.request g.slots placed.asks content len_of faults placed.units old between placed.placed

    -- the groups behind it are placed
    pub one_more : 1 ≤ length chunks → (gs all : List (GroupSlots S)) (root inode : GroupSlots S) (new : Hand S) → all ≡ gs ++ g ∷ [] → inode ≡ root
        → PlacesRun place_of content len_of faults t other (spin + 1) bytes (from + k * t.unit) rest (reverse gs) root between new
        → PlacesRun place_of content len_of faults t shape spin bytes from chunks (reverse all) inode old new
    one_more some gs all root inode new all_is inode_is run =
        let back : reverse all ≡ g ∷ reverse gs = ap reverse all_is ∙ reverse-append gs (g ∷ []) in
        let moved = subst (λ (i : GroupSlots S). PlacesRun place_of content len_of faults t shape (spin + 1) bytes (from + n * t.unit) rest (reverse gs) i between new) (sym inode_is)
        (subst (λ (j : ℕ). PlacesRun place_of content len_of faults t shape (spin + 1) bytes (from + j * t.unit) rest (reverse gs) root between new) k_is
        (subst (λ (c : Shape). PlacesRun place_of content len_of faults t c (spin + 1) bytes (from + k * t.unit) rest (reverse gs) root between new) is_shape run)) in
        subst (λ (xs : List (GroupSlots S)). PlacesRun place_of content len_of faults t shape spin bytes from chunks xs inode old new) (sym back)
        (subst (λ (ns : List ℕ). PlacesRun place_of content len_of faults t shape spin bytes from ns (g ∷ reverse gs) inode old new) (chunks_are chunks some) (between, placed, moved))

    -- one behind it finds no room, and its slots went back
    pub none_further : 1 ≤ length chunks → (told : NoRoom) (mid new : Hand S) → HoldsLess place_of other g.slots mid new
        → FindsNoRun place_of content len_of faults t other (spin + 1) bytes (from + k * t.unit) rest told between mid
        → FindsNoRun place_of content len_of faults t shape spin bytes from chunks told old new
    none_further some told mid new less finds =
        let moved = subst (λ (j : ℕ). FindsNoRun place_of content len_of faults t shape (spin + 1) bytes (from + j * t.unit) rest told between mid) k_is
        (subst (λ (c : Shape). FindsNoRun place_of content len_of faults t c (spin + 1) bytes (from + k * t.unit) rest told between mid) is_shape finds) in
        let gone = subst (λ (c : Shape). HoldsLess place_of c g.slots mid new) is_shape less in
        let same = placed.asks.shape_is in
        subst (λ (ns : List ℕ). FindsNoRun place_of content len_of faults t shape spin bytes from ns told old new) (chunks_are chunks some)
        (record {
          done = moved.done;
          met = inr (g, between, placed, moved.met);
          same = λ d many of holds.
              gone.each d many of (moved.same d (many + count_on place_of d g.slots) of
              (subst (λ (c : Shape). Holds c d (many + count_on place_of d g.slots) between) same
              (placed.placed.account d many (subst (λ (c : Shape). is_of c d ≡ true) (sym same) of) (subst (λ (c : Shape). Holds c d many old) (sym same) holds))));
        })
