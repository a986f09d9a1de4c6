-- Changes that are ready keep within the limits of their numbers.
use Rattle.std.proofs.Common.{ℕ, ◌+◌, ◌^◌, ◌<◌, ◌≤◌, List, length, take, drop, sym, subst, arith, Option}
use Rattle.std.specs.List.{AllByRecursion}
use Rattle.std.proofs.lemmas.List.{length-map}
use Rattle.flex_io.specs.declared.raw_place.RawPlace.{RawPlace}
use Rattle.board.specs.declared.board_view.View.{View}
use Rattle.domains.specs.Level.{IsLevel}
use Rattle.domains.specs.declared.group.Group.{Group}
use Rattle.file_history.specs.Layout.{Layout}
use Rattle.map_changes.specs.ChangedMaps.{first_of, spliced}
use Rattle.map_switches.specs.declared.change.MapChange.{MapChange}
use Rattle.striped_groups.specs.StoredGroups.{GroupSlots}
use Rattle.file_core.specs.FileView.{FileView, IsFile, layout_of, now_of}
use Rattle.map_switches.specs.Switches.{AreForRun, IsBounded, groups_of, logged, new_groups, numbered}
use Rattle.file_core.specs.FileSwitches.{IsReady, replaced_in}
use Rattle.file_core.proofs.GroupLookups.{groups_of as groups_of_file}
use Rattle.file_core.proofs.PulledSlots.{few_places}
use Rattle.map_switches.proofs.BroughtStripes.{units_for_run}
use Rattle.map_switches.proofs.NumberedGroups.{numbered-length}
use Rattle.file_core.proofs.ReadyChanges.{few_brought, run, run_hold, run_stands}
use Rattle.map_switches.proofs.SwitchBounds.{payload_small}

module _ {S : Type 0} (place_of : S → RawPlace) (content : S → Option (List ℕ)) (len_of : S → ℕ) where
  pub bounded : (f : FileView S) (view : View) (change : MapChange S) → IsFile place_of content len_of f → IsReady place_of content len_of f view change
      → IsLevel (layout_of f).requested → length f.notes < f.room → IsBounded f.groups (layout_of f).next (layout_of f).size change
  bounded f view change file ready level below =
      let l : Layout = layout_of f in
      let same = groups_of_file place_of content len_of f.shape l _ f.groups _ file.slots in
      let for_run = run place_of content len_of f view change file ready level below in
      let long = length-map f.groups (λ (g : GroupSlots S). g.group) in
      let news = numbered-length (new_groups l.groups change) l.next in
      let numbers = file.numbers in
      let room = file.few in
      let brings = few_brought change.why (now_of f view) _ l (logged l change) ready.legal in
      let few : l.next + length (new_groups l.groups change) + 1 < 2 ^ 32 = omega (arith, numbers, room, below, brings, news) in record {
        within = subst (λ (n : ℕ). first_of change.old (groups_of f.groups) + length change.old ≤ n) long
            (subst (λ (gs : List Group). first_of change.old gs + length change.old ≤ length gs) (sym same) for_run.within);
        units = subst (λ (gs : List Group). AreForRun (take (length change.old) (drop (first_of change.old gs) f.groups)) change.fresh) (sym same)
            (units_for_run place_of content len_of change.why (replaced_in f change) change.fresh f.shape.unit _
            (run_hold place_of content len_of f view change file ready level below) (run_stands place_of content len_of f view change file ready level below));
        small = subst (λ (gs : List Group). l.next + length (new_groups gs change) + 1 < 2 ^ 32) (sym same) few;
        few = subst (λ (gs : List Group). length (spliced gs (first_of change.old gs) (length change.old) (numbered (new_groups gs change) l.next)) ≤ 256) (sym same) for_run.few;
        narrow = few_places place_of content len_of f.groups file.slots.stands;
        new_narrow = subst (λ (gs : List Group). AllByRecursion (λ (g : Group). length g.places ≤ 255) (numbered (new_groups gs change) l.next)) (sym same) for_run.narrow;
        root_narrow = for_run.root_narrow;
        size = for_run.valid.size;
        payload = payload_small change.why l.size for_run.valid.size;
      }
