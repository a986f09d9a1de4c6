-- What released slots take from the account of a hand.
use Rattle.std.proofs.Common.{◌≡◌, ℕ, ◌+◌, ◌-◌, ◌*◌, ◌%◌, ◌^◌, eqb, Bool, true, false, if◌then◌else◌, List, [], ◌∷◌, ◌++◌, map, Option, Some, None, refl, sym, ap, subst, ◌∙◌, arith, eq-eqb}
use Rattle.std.specs.List.{AllByRecursion, count_by, flat_map}
use Rattle.std.proofs.lemmas.Grind.{flat_map-append}
use Rattle.std.proofs.lemmas.List.{map-append}
use Rattle.domains.specs.Counts.{one_if}
use Rattle.domains.specs.Drive.{Drive, same_drive}
use Rattle.domains.specs.Level.{Level}
use Rattle.domains.specs.Place.{Place}
use Rattle.domains.specs.Shape.{Shape, is_of}
use Rattle.domains.specs.declared.group.Group.{Group}
use Rattle.domains.proofs.CountLemmas.{count_by-append, count_by-cons}
use Rattle.domains.proofs.DriveLemmas.{same_drive-sym}
use Rattle.board.specs.declared.board_view.View.{View}
use Rattle.flex_io.specs.declared.raw_place.RawPlace.{RawPlace}
use Rattle.held_slots.specs.Slots.{count_on, drive_of, is_on, place_from, places_from}
use Rattle.held_slots.proofs.SlotCounts.{count_on-cons}
use Rattle.turn_cell.specs.Notes.{notes_by}
use Rattle.turn_cell.specs.declared.chronicle.Note.{Note}
use Rattle.fabric.specs.Accounts.{Holds, Stays}
use Rattle.fabric.specs.Cells.{FabricView}
use Rattle.fabric.specs.declared.hand.Hand.{Hand}
use Rattle.fabric.proofs.HeldCounts.{Holds-modulo}
use Rattle.file_history.specs.Layout.{Layout, all_groups, empty_layout, layout_after, places_of}
use Rattle.file_history.specs.declared.entry.FileEvent.{FileEvent}
use Rattle.file_core.specs.Accounts.{groups_placed, groups_taken, is_own, placed_by, taken_by, units_at}
use Rattle.file_core.specs.FileView.{FileView, layout_of}
use Rattle.file_core.specs.Notes.{told_of}
use Rattle.striped_groups.specs.StoredGroups.{GroupSlots, StandsThere, StoredGroup, list_of, stored_group}
use Rattle.file_core.specs.declared.noted.Noted.{Noted}
use Rattle.file_core.proofs.FileAccounts.{accounts_stay, placed_in-append, taken_in-append}
use Rattle.file_turns.specs.FileTurns.{FollowsFile}
use Rattle.file_turns.specs.PathAccounts.{Account, KeepsAccount, on_drive}
use Rattle.file_turns.specs.Paths.{SeesBoard}
use Rattle.write_path.specs.Releases.{ReleasesEach, slots_in}
use Rattle.file_turns.proofs.FileTurnLemmas.{NotesOne}

module _ {S : Type 0} (place_of : S → RawPlace) where
  -- the hand holds less by the slots that it released
  pub holds_released : (slots : List S) (shape : Shape) (view : View) (d : Drive) (many : ℕ) (old new : Hand S) → is_of shape d ≡ true
      → ReleasesEach place_of slots shape view old new → Holds shape d (many + count_on place_of d slots) old → Holds shape d many new
  holds_released [] shape view d many old new of same holds =
      let none : many + count_on place_of d [] ≡ many = omega arith in
      subst (Holds shape d many) (sym same) (subst (λ (n : ℕ). Holds shape d n old) none holds)
  holds_released (x ∷ xs) shape view d many old new of each holds =
      let here : count_on place_of d (x ∷ xs) ≡ one_if (is_on place_of d x) + count_on place_of d xs = count_on-cons place_of d x xs in
      let turned : one_if (is_on place_of d x) ≡ one_if (same_drive d (drive_of place_of x)) = ap one_if (same_drive-sym (drive_of place_of x) d) in
      holds_released xs shape view d many each.0 new of each.2
      (each.1.less d (many + count_on place_of d xs) of
      (subst (λ k. Holds shape d k old)
      (let sum : many + count_on place_of d (x ∷ xs) ≡ many + count_on place_of d xs + one_if (same_drive d (drive_of place_of x)) = omega (arith, here, turned) in sum)
      holds))

  -- how many places of slots are on the drive
  pub count_places : (d : Drive) (slots : List S) → count_by (on_drive d) (places_from place_of slots) ≡ count_on place_of d slots
  count_places d [] = refl
  count_places d (x ∷ xs) =
      let rest = count_places d xs in
      let left = count_by-cons (on_drive d) (place_from (place_of x)) (places_from place_of xs) in
      let right = count_on-cons place_of d x xs in
      omega (arith, rest, left, right)

module _ {S : Type 0} (place_of : S → RawPlace) (content : S → Option (List ℕ)) (len_of : S → ℕ) where
  abbrev pub grouped : List (GroupSlots S) → List Group
  grouped gs = map (λ (g : StoredGroup). g.group) (map (stored_group place_of content len_of) gs)

  -- the units of groups stand at the places of their slots
  pub places_stand : (gs : List (GroupSlots S)) → AllByRecursion StandsThere (map (stored_group place_of content len_of) gs)
      → places_of (grouped gs) ≡ places_from place_of (slots_in gs)
  places_stand [] stands = refl
  places_stand (g ∷ gs) stands =
      ap (λ l. l ++ places_of (grouped gs)) (sym stands.0.places) ∙ ap (λ l. places_from place_of g.slots ++ l) (places_stand gs stands.1)
      ∙ sym (map-append (λ (s : S). place_from (place_of s)) g.slots (slots_in gs))
