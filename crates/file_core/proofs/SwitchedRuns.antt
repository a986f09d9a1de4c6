-- Legal changes of a map, and what the groups hold after them.
use Rattle.std.proofs.Common.{◌≡◌, ℕ, ◌+◌, ◌-◌, ◌*◌, ◌<◌, ◌≤◌, ◌⊎◌, inl, inr, List, [], ◌++◌, length, take, drop, replicate, refl, sym, ap, subst, ◌∙◌, arith}
use Rattle.std.specs.List.{AllByRecursion}
use Rattle.std.proofs.lemmas.List.{take-map, drop-map, length-drop, length-map, drop_all}
use Rattle.std.proofs.lemmas.List.Sums.{sum_by-append}
use Rattle.domains.specs.Place.{IsPlaceOf}
use Rattle.domains.specs.declared.group.Group.{Group}
use Rattle.inode_codec.specs.Inode.{data_units, units_for}
use Rattle.file_history.specs.World.{Moment}
use Rattle.file_history.specs.Bytes.{bytes_after, bytes_after_event, overwrite}
use Rattle.file_history.specs.Layout.{Layout, group_list, places_of, replaced}
use Rattle.file_history.specs.Step.{IsEvent, Places, Writes}
use Rattle.file_history.specs.declared.entry.Change.{Change}
use Rattle.file_history.specs.declared.entry.NotedEntry.{NotedEntry}
use Rattle.write_rule.specs.NewBytes.{padded_slice}
use Rattle.write_rule.specs.SplicedRun.{IsRunOf}
use Rattle.write_rule.proofs.NamedRuns.{writes_name_their_run}
use Rattle.write_rule.proofs.NewBytesByPlace.{overwrite_before, overwrite_behind, overwrite_length, at, slice_at, slice_length}
use Rattle.map_changes.specs.ChangedMaps.{first_of, spliced}
use Rattle.map_changes.proofs.Pairs.{All-left}
use Rattle.map_changes.proofs.SplicedLists.{in_three}
use Rattle.map_changes.proofs.ChangedPlaces.{All-of-places, places_of-append}
use Rattle.striped_groups.specs.StoredGroups.{HoldRun, StoredGroup}
use Rattle.map_switches.specs.declared.change.Why.{Why}
use Rattle.map_switches.specs.declared.change.Why.TheVariants.{Write, Place as Place_}
use Rattle.map_switches.specs.Switches.{event_of, payload_of, run_of, size_after}
use Rattle.map_switches.proofs.HeldRuns.{HoldRun-middle, HoldRun-spliced, mapped}
use Rattle.map_switches.proofs.BroughtStripes.{IsPlacement}
use Rattle.map_switches.proofs.PlacedRuns.{placed_run, replaced_spliced}
use Rattle.file_core.specs.FileInvariant.{KeepsSlots}
use Rattle.file_core.proofs.CreatedFile.{new_within}
use Rattle.file_core.proofs.SwitchedFile.{IsChanged, root_valid}

module _ (now : Moment) (log : List NotedEntry) (l : Layout) (groups inode : List StoredGroup) (c : Change)
    (kept : KeepsSlots now.shape l (bytes_after log) groups inode) where
  abbrev first : ℕ
  first = first_of c.old l.groups

  abbrev count : ℕ
  count = length c.old

  front_units : (n : ℕ) → data_units (mapped (take n groups)) ≡ data_units (take n l.groups)
  front_units n = ap data_units (sym (take-map (λ (g : StoredGroup). g.group) n groups) ∙ ap (take n) kept.mapped)

  run_units : (n m : ℕ) → data_units (mapped (take m (drop n groups))) ≡ data_units (take m (drop n l.groups))
  run_units n m =
      ap data_units (sym (take-map (λ (g : StoredGroup). g.group) m (drop n groups)) ∙ ap (take m) (sym (drop-map (λ (g : StoredGroup). g.group) n groups) ∙ ap (drop n) kept.mapped))

  none_left : (n : ℕ) → drop n l.groups ≡ [] → drop n groups ≡ []
  none_left n is =
      drop_all n groups (short (length groups) (length (drop n l.groups)) n (length l.groups) (length-drop n l.groups) (ap (λ (gs : List Group). length gs) is)
      (sym (length-map groups (λ (g : StoredGroup). g.group)) ∙ ap (λ (gs : List Group). length gs) kept.mapped))
    where
      short : (a d n b : ℕ) → d ≡ b - n → d ≡ 0 → a ≡ b → a ≤ n
      short a d n b left none same = omega (arith, left, none, same)

  -- a write
  module _ (offset size : ℕ) (payload : List ℕ) (some : 1 ≤ length payload) (w : Writes now log l offset size c payload) where
    named : IsRunOf now.shape.unit l (bytes_after log) payload offset first count c × (data_units (replaced c.old c.new l.groups) ≡ units_for now.shape.unit size)
    named =
        writes_name_their_run now log l offset size c payload (root_valid now.shape.unit l inode kept.root kept.there w.present kept.spelled) kept.size some w

    written : IsChanged now l c size
    written = record {
      present = w.present;
      within = named.0.within;
      run = named.0.run;
      few = subst (λ (gs : List Group). length gs ≤ 256) named.0.run w.groups;
      units = ap data_units (sym named.0.run) ∙ named.1;
      level = w.level;
      inode = w.inode;
      numbers = w.numbers;
      places = new_within now l (places_of c.new ++ c.inode.places) w.places.each;
    }

    covered : (fresh : List StoredGroup) → mapped fresh ≡ c.new
        → ((drop (first + count) groups ≡ []) × (length (overwrite (bytes_after log) offset payload) ≤ data_units (mapped (take first groups)) * now.shape.unit + data_units (mapped fresh) * now.shape.unit))
        ⊎ ((data_units (mapped fresh) ≡ data_units (mapped (take count (drop first groups))))
        × (offset + length payload ≤ data_units (mapped (take first groups)) * now.shape.unit + data_units (mapped (take count (drop first groups))) * now.shape.unit))
    covered fresh news = elim named.0.covers [
      | inl last ↦ inl (
        none_left (first + count) last.0,
        subst (λ (x : ℕ × ℕ). length (overwrite (bytes_after log) offset payload) ≤ x.0 * now.shape.unit + x.1 * now.shape.unit)
            (λ i. (sym (front_units first) i, sym (ap data_units news) i)) last.1,
      )
      | inr within ↦ inr (
        ap data_units news ∙ within.0 ∙ sym (run_units first count),
        subst (λ (x : ℕ × ℕ). offset + length payload ≤ x.0 * now.shape.unit + x.1 * now.shape.unit)
            (λ i. (sym (front_units first) i, sym (run_units first count) i)) within.1,
      )
    ]

    written_holds : (fresh : List StoredGroup) → mapped fresh ≡ c.new
        → HoldRun fresh (padded_slice (overwrite (bytes_after log) offset payload) (data_units (take first l.groups) * now.shape.unit) (data_units c.new * now.shape.unit)) now.shape.unit
        → (more : ℕ) × HoldRun (spliced groups first count fresh) (overwrite (bytes_after log) offset payload ++ replicate more 0) now.shape.unit
    written_holds fresh news holds =
        let unit : ℕ = now.shape.unit in
        let new : List ℕ = overwrite (bytes_after log) offset payload in
        let s : ℕ = data_units (take first l.groups) * unit in
        let k : ℕ = data_units c.new * unit in
        HoldRun-spliced groups fresh first count (bytes_after log) new (padded_slice new s k) kept.zeros offset (offset + length payload) unit kept.run holds
        (λ j below. slice_at new s k j (subst (λ (n : ℕ). j < n) (slice_length new s k) below) ∙ ap (λ (n : ℕ). at new (n * unit + j)) (sym (front_units first)))
        (subst (λ (n : ℕ). n * unit ≤ offset) (sym (front_units first)) named.0.before)
        (overwrite_before (bytes_after log) offset payload) (overwrite_behind (bytes_after log) offset payload) (overwrite_length (bytes_after log) offset payload)
        (covered fresh news)

  -- a placement
  module _ (p : Places now l c) where
    mapped_places : AllByRecursion (λ (g : Group). AllByRecursion (IsPlaceOf now.shape) g.places) l.groups
    mapped_places =
        All-of-places (IsPlaceOf now.shape) l.groups
        (All-left (IsPlaceOf now.shape) (places_of l.groups) (places_of (group_list l.inode))
        (subst (AllByRecursion (IsPlaceOf now.shape)) (places_of-append l.groups (group_list l.inode)) kept.within))

    -- as many data units come as go
    pub placed_units : data_units c.new ≡ data_units (run_of c.old l.groups)
    placed_units = (placed_run now l c mapped_places p).fit.units_are

    same_units : data_units (spliced l.groups first count c.new) ≡ data_units l.groups
    same_units =
        parts (take first l.groups) (run_of c.old l.groups) (drop (first + count) l.groups) c.new placed_units
        ∙ sym (ap data_units (in_three l.groups first count))
      where
        parts : (a b d n : List Group) → data_units n ≡ data_units b → data_units (a ++ (n ++ d)) ≡ data_units (a ++ (b ++ d))
        parts a b d n same =
            let one = sum_by-append (λ (g : Group). g.n) a (n ++ d) in
            let two = sum_by-append (λ (g : Group). g.n) n d in
            let three = sum_by-append (λ (g : Group). g.n) a (b ++ d) in
            let four = sum_by-append (λ (g : Group). g.n) b d in
            omega (arith, same, one, two, three, four)

    placed : IsChanged now l c l.size
    placed =
        let run = placed_run now l c mapped_places p in
        let is = replaced_spliced c.old c.new l.groups in
        let valid = root_valid now.shape.unit l inode kept.root kept.there p.present kept.spelled in record {
          present = p.present;
          within = run.within;
          run = is;
          few = subst (λ (gs : List Group). length gs ≤ 256) is p.groups;
          units = same_units ∙ valid.sum;
          level = run.fit.level;
          inode = p.inode;
          numbers = p.numbers;
          places = run.fit.places;
        }

    placed_holds : (fresh : List StoredGroup) → mapped fresh ≡ c.new
        → HoldRun fresh (padded_slice (bytes_after log) (data_units (take first l.groups) * now.shape.unit) (data_units c.new * now.shape.unit)) now.shape.unit
        → (more : ℕ) × HoldRun (spliced groups first count fresh) (bytes_after log ++ replicate more 0) now.shape.unit
    placed_holds fresh news holds =
        let unit : ℕ = now.shape.unit in
        let old : List ℕ = bytes_after log in
        let s : ℕ = data_units (take first l.groups) * unit in
        let k : ℕ = data_units c.new * unit in
        HoldRun-spliced groups fresh first count old old (padded_slice old s k) kept.zeros (data_units (mapped (take first groups)) * unit) 0 unit kept.run holds
        (λ j below. slice_at old s k j (subst (λ (n : ℕ). j < n) (slice_length old s k) below) ∙ ap (λ (n : ℕ). at old (n * unit + j)) (sym (front_units first)))
        (omega arith) (λ i below. refl) (λ i past. refl) (omega arith)
        (inr (ap data_units news ∙ placed_units ∙ sym (run_units first count), omega arith))

  -- a change of either kind
  pub changed : (why : Why) → IsEvent now log l (payload_of why) (event_of why l.size c) → IsChanged now l c (size_after why l.size)
  changed (Write offset bytes) legal = written offset (size_after (Write offset bytes) l.size) bytes legal.1 legal.2
  changed (Place_ job) legal = placed legal

  pub holds_after : (why : Why) → IsEvent now log l (payload_of why) (event_of why l.size c) → (fresh : List StoredGroup) → mapped fresh ≡ c.new
      → HoldRun fresh (padded_slice (bytes_after_event (event_of why l.size c) (payload_of why) (bytes_after log)) (data_units (take first l.groups) * now.shape.unit) (data_units c.new * now.shape.unit)) now.shape.unit
      → (more : ℕ) × HoldRun (spliced groups first count fresh) (bytes_after_event (event_of why l.size c) (payload_of why) (bytes_after log) ++ replicate more 0) now.shape.unit
  holds_after (Write offset bytes) legal fresh news holds = written_holds offset (size_after (Write offset bytes) l.size) bytes legal.1 legal.2 fresh news holds
  holds_after (Place_ job) legal fresh news holds = placed_holds legal fresh news holds

  pub size_is : (why : Why) → IsEvent now log l (payload_of why) (event_of why l.size c)
      → size_after why l.size ≡ length (bytes_after_event (event_of why l.size c) (payload_of why) (bytes_after log))
  size_is (Write offset bytes) legal = legal.2.new_size
  size_is (Place_ job) legal = kept.size

  -- a job's change finds its part of the bytes in the groups that it replaces
  pub run_holds : (why : Why) → IsPlacement why → IsEvent now log l (payload_of why) (event_of why l.size c)
      → HoldRun (take count (drop first groups))
      (padded_slice (bytes_after_event (event_of why l.size c) (payload_of why) (bytes_after log)) (data_units (take first l.groups) * now.shape.unit) (data_units c.new * now.shape.unit)) now.shape.unit
  run_holds (Write offset bytes) placement legal = absurd placement
  run_holds (Place_ job) placement legal =
      subst (λ (x : ℕ × ℕ). HoldRun (take count (drop first groups)) (padded_slice (bytes_after log) (x.0 * now.shape.unit) (x.1 * now.shape.unit)) now.shape.unit)
      (λ i. (front_units first i, (run_units first count ∙ sym (placed_units legal)) i))
      (HoldRun-middle groups first count (bytes_after log) kept.zeros now.shape.unit kept.run)
