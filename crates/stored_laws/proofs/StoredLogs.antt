-- What is stored after every list of legal entries.
use Rattle.std.proofs.Common.{◌≡◌, ℕ, ◌+◌, ◌*◌, ◌-◌, ◌≤◌, true, List, [], ◌∷◌, ◌++◌, length, map, Option, None, Some, IfSome, refl, sym, ap, subst, arith, append_assoc, append-nil, length-append, lit≤}
use Rattle.std.specs.List.{AllByRecursion}
use Rattle.domains.specs.Place.{Place}
use Rattle.domains.specs.Shape.{IsShape}
use Rattle.domains.specs.Level.{IsLevel}
use Rattle.domains.specs.declared.group.Group.{Group}
use Rattle.inode_codec.specs.Inode.{data_units, inode_bytes}
use Rattle.file_history.specs.World.{World, moment_at}
use Rattle.file_history.specs.Bytes.{bytes_after}
use Rattle.file_history.specs.Layout.{Layout, group_list, layout_after}
use Rattle.file_history.specs.Stored.{HoldsGroups, IsRooted, IsStored, SpellsInode, inode_of}
use Rattle.file_history.specs.Step.{IsLegalFrom}
use Rattle.file_history.specs.declared.entry.NotedEntry.{NotedEntry}
use Rattle.file_history.proofs.HistoryGrowth.{layout_after-push}
use Rattle.file_history.proofs.RootedLayouts.{layout_rooted}
use Rattle.map_laws.specs.Limits.{RequestsLevel}
use Rattle.map_laws.proofs.EventGroups.{fresh_of, gone_of}
use Rattle.map_laws.proofs.SoundFiles.{IsSound}
use Rattle.map_laws.proofs.LaterLogs.{sound_log, step}
use Rattle.loss_laws.proofs.BorneLosses.{level_files_bear}
use Rattle.stored_laws.specs.WrittenUnits.{AreWritten, AreWrittenFrom, Contents, last_of, tells}
use Rattle.stored_laws.specs.Laws.{FilesStayStored, StoredFilesBearLosses}
use Rattle.stored_laws.proofs.SlicedBytes.{all_held, units_hold, whole_slice}
use Rattle.stored_laws.proofs.StoredSteps.{IsHeld, IsRootHeld, groups_next, root_next}

held_all : (more : List NotedEntry) (world : World) (log : List NotedEntry) (held : Contents) (contents : List Contents) → IsShape world.shape → IsLevel world.level
    → AllByRecursion (λ (t : NotedEntry). RequestsLevel t.entry.event) more → length log + length more ≤ 4194304
    → IsSound world.shape.unit (length log) (layout_after world.level log) (bytes_after log) → IsLegalFrom more ⊥ world log
    → AreWrittenFrom more world log held contents → IsHeld held world.shape.unit (layout_after world.level log) (bytes_after log)
    → IsHeld (last_of contents held) world.shape.unit (layout_after world.level (log ++ more)) (bytes_after (log ++ more))
held_all [] world log held [] is level requests limit sound legal written h =
    subst (λ (all : List NotedEntry). IsHeld held world.shape.unit (layout_after world.level all) (bytes_after all)) (sym (append-nil log)) h
held_all [] world log held (c ∷ cs) is level requests limit sound legal written h = absurd written
held_all (t ∷ ts) world log held [] is level requests limit sound legal written h = absurd written
held_all (t ∷ ts) world log held (c ∷ cs) is level requests limit sound legal written h =
    let unit : ℕ = world.shape.unit in
    let one : length (log ++ t ∷ []) ≡ length log + 1 = length-append log (t ∷ []) in
    let next = step world log t is level requests.0 (omega (arith, limit)) sound legal.0 in
    let l : Layout = layout_after world.level log in
    let after : Layout = layout_after world.level (log ++ t ∷ []) in
    let bytes : List ℕ = bytes_after (log ++ t ∷ []) in
    let push = layout_after-push world.level log t in
    let root : IsRootHeld c unit after =
    subst (IsRootHeld c unit) (sym push)
    (root_next (moment_at world t.entry.epoch) world.level log l t.payload bytes t.entry.event held c legal.0.event
    (subst (λ (x : Layout). AreWritten unit l x bytes held c) push written.0) h.root) in
    let here : IsHeld c unit after bytes = record {
      groups = groups_next unit (gone_of t.entry.event l.groups) (fresh_of t.entry.event) l after (bytes_after log) bytes held c next.changed written.0 h.groups;
      root = root;
    } in
    subst (λ (all : List NotedEntry). IsHeld (last_of cs c) unit (layout_after world.level all) (bytes_after all)) (append_assoc log (t ∷ []) ts)
    (held_all ts world (log ++ t ∷ []) c cs is level requests.1 (omega (arith, limit, one))
    (subst (λ (n : ℕ). IsSound unit n after bytes) (sym one) next.sound) legal.1 written.1 here)

-- a file that is stored group by group is stored
is_stored : (held : Contents) (unit count : ℕ) (l : Layout) (bytes : List ℕ) → 1 ≤ unit → IsSound unit count l bytes → IsRooted l → IsHeld held unit l bytes
    → IsStored held unit l bytes
is_stored held unit count l bytes wide sound rooted h = record {
  inode = spell (group_list l.inode) h.root.present h.root.spelled;
  size = sound.size;
  zeros = data_units l.groups * unit - length bytes;
  groups = subst (λ (bs : List ℕ). HoldsGroups l.groups bs unit held) (whole_slice bytes unit (data_units l.groups * unit) (fits l.inode refl))
      (all_held l.groups 0 unit bytes held h.groups);
}
  where
    spell : (gs : List Group) → AllByRecursion (λ (g : Group). l.present ≡ true) gs
        → AllByRecursion (λ (g : Group). AllByRecursion (λ (s : Place). IfSome (held s) (λ content. content ≡ inode_bytes (inode_of unit l))) g.places) gs
        → AllByRecursion (SpellsInode held unit l) gs
    spell [] present spelled = tt
    spell (g ∷ gs) present spelled = (record { valid = sound.spelled present.0; places = spelled.0 }, spell gs present.1 spelled.1)

    fits : (inode : Option Group) → l.inode ≡ inode → length bytes ≤ data_units l.groups * unit
    fits None none =
        let empty = (rooted none).1 in
        let size = sound.size in
        omega (arith, empty, size)
    fits (Some g) some =
        let present = (subst (λ (o : Option Group). AllByRecursion (λ (g : Group). l.present ≡ true) (group_list o)) some h.root.present).0 in
        let whole = ap (λ (n : ℕ). n * unit) (sound.spelled present).sum in
        let fit = units_hold unit l.size wide in
        let size = sound.size in
        omega (arith, whole, fit, size)

pub files_stay_stored : FilesStayStored
files_stay_stored world log start contents limits legal written =
    let least = limits.cluster.least_unit in
    let most = limits.entries in
    let empty : IsSound world.shape.unit 0 (layout_after world.level []) [] =
    sound_log world [] (record { cluster = limits.cluster; declared = limits.declared; levels = tt; entries = lit≤ tt }) tt in
    is_stored (last_of contents start) world.shape.unit (length log) (layout_after world.level log) (bytes_after log) (omega (arith, least)) (sound_log world log limits legal)
    (layout_rooted world.level log)
    (held_all log world [] start contents limits.cluster limits.declared limits.levels (omega (arith, most)) empty legal written
    (record { groups = λ g first mapped. absurd mapped; root = record { spelled = tt; present = tt } }))

last-tells : (hs : List (Place → List ℕ)) (start : Place → List ℕ) → last_of (map tells hs) (tells start) ≡ tells (last_of hs start)
last-tells [] start = refl
last-tells (h ∷ hs) start = last-tells hs h

pub stored_files_bear_losses : StoredFilesBearLosses
stored_files_bear_losses world log start contents epoch nodes drives limits legal written level borne only =
    let stored = files_stay_stored world log (tells start) (map tells contents) limits legal written in
    level_files_bear (moment_at world epoch) world.level log (last_of contents start) nodes drives
    (subst (λ (held : Contents). IsStored held world.shape.unit (layout_after world.level log) (bytes_after log)) (last-tells contents start) stored) level borne only
