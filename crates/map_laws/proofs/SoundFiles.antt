-- What holds of a file after a legal log.
use Rattle.std.proofs.Common.{◌≡◌, ℕ, ◌+◌, ◌-◌, ◌*◌, ◌^◌, ◌<◌, ◌≤◌, inl, inr, true, List, [], ◌∷◌, ◌++◌, length, map, take, drop, refl, sym, ap, subst, ◌∙◌, arith, lit≤, append-nil, length-append}
use Rattle.std.specs.List.{AllByRecursion}
use Rattle.std.proofs.Math.Nat.{div-eq_of_lt}
use Rattle.std.proofs.Math.Seq.{take-append_seam}
use Rattle.std.proofs.lemmas.Bool.{false≢true}
use Rattle.std.proofs.lemmas.List.{take_all}
use Rattle.std.proofs.lemmas.List.Sums.{sum_by-append, sum_by-cons}
use Rattle.domains.specs.Place.{Place, IsPlace}
use Rattle.domains.specs.Shape.{IsShape}
use Rattle.domains.specs.Level.{Level, IsLevel}
use Rattle.domains.specs.AtLevel.{AtLevel}
use Rattle.domains.specs.declared.group.Group.{Group}
use Rattle.domains.proofs.ShapeLemmas.{IsPlace-of}
use Rattle.inode_codec.specs.Inode.{AreGenerations, IsInode, IsInodeGroup, data_units, units_for}
use Rattle.file_history.specs.World.{Moment}
use Rattle.file_history.specs.Bytes.{bytes_after, bytes_after_event, overwrite}
use Rattle.file_history.specs.Layout.{Layout, layout_after_event, places_of, replaced}
use Rattle.file_history.specs.WriteRule.{AreChunks, generations_of}
use Rattle.file_history.specs.Stored.{inode_of}
use Rattle.file_history.specs.Step.{AreKeptOrNew, AreNewPlaces, AreNumbered, HasPlaceForm, IsEvent, IsNewPlace, Places, Repairs, Reshapes, Writes}
use Rattle.file_history.specs.declared.entry.Change.{Change}
use Rattle.file_history.specs.declared.entry.FileEvent.{FileEvent}
use Rattle.file_history.specs.declared.entry.FileEvent.TheVariants as event
use Rattle.file_history.specs.declared.entry.NotedEntry.{NotedEntry}
use Rattle.write_rule.specs.Runs.{IsAffectedRun, first_replaced, stop_replaced}
use Rattle.write_rule.specs.SplicedRun.{IsRunOf}
use Rattle.write_rule.proofs.NewBytesByPlace.{overwrite_before, overwrite_behind}
use Rattle.write_rule.proofs.RunLemmas.{affected_are_runs, writes_replace_runs}
use Rattle.write_rule.proofs.ChunkCounts.{writes_keep_units}
use Rattle.map_changes.specs.ChangedMaps.{inode_with, spliced}
use Rattle.map_changes.proofs.Pairs.{All-left, All-right, All-then}
use Rattle.map_changes.proofs.SplicedLists.{All-spliced, in_three}
use Rattle.map_changes.proofs.ChangedPlaces.{All-of-places}
use Rattle.map_changes.proofs.ChangedInodes.{changed_inodes_are_spelled, numbered_below, numbered_last}
use Rattle.map_laws.specs.Limits.{RequestsLevel}
use Rattle.map_laws.proofs.EventGroups.{fresh_of, gone_of}
use Rattle.map_laws.proofs.ChangedRuns.{IsChanged, emptied, unchanged}
use Rattle.map_laws.proofs.SingleGroups.{IsParted, drop_front, drop_whole, having, parted_at, replaced_at, replaced_none}

-- after this many entries the level is one of the table, the size that of the bytes, each generation of the map below the next one,
-- which is at most 257 for each entry, no two of them
-- the same, and the inode of a file that is there can be spelled
pub record IsSound (unit count : ℕ) (l : Layout) (bytes : List ℕ) : Type 0 where
  pub level : IsLevel l.requested
  pub size : l.size ≡ length bytes
  pub used : AllByRecursion (λ (g : Group). g.generation < l.next) l.groups
  pub few : l.next ≤ 257 * count
  pub differ : AreGenerations l.groups
  pub spelled : l.present ≡ true → IsInode (inode_of unit l)

-- what an entry makes of such a file
pub record IsNext (unit count : ℕ) (gone : List ℕ) (fresh : List Group) (l after : Layout) (bytes after_bytes : List ℕ) : Type 0 where
  pub sound : IsSound unit (count + 1) after after_bytes
  pub later : l.next ≤ after.next
  pub changed : IsChanged l.next unit gone fresh l.groups after.groups bytes after_bytes

numbered_from : (next least : ℕ) (gs : List Group) (inode : Group) → AreNumbered next gs inode → least ≤ next
    → AllByRecursion (λ (g : Group). least ≤ g.generation) gs
numbered_from next least [] inode are low = tt
numbered_from next least (g ∷ gs) inode are low =
    (let is = are.0 in omega (arith, is, low), numbered_from (next + 1) least gs inode are.1 (omega (arith, low)))

new_places : (now : Moment) (l : Layout) (ss : List Place) → IsShape now.shape → AllByRecursion (IsNewPlace now l) ss → AllByRecursion IsPlace ss
new_places now l [] is all = tt
new_places now l (s ∷ ss) is all = (IsPlace-of now.shape s is (record { drive = all.0.drive; slot = all.0.slot }), new_places now l ss is all.1)

-- the places of new groups are those of a cluster
group_places : (now : Moment) (l : Layout) (gs : List Group) (inode : Group) → IsShape now.shape → AreNewPlaces now l (places_of gs ++ inode.places)
    → AllByRecursion (λ (g : Group). AllByRecursion IsPlace g.places) gs
group_places now l gs inode is new =
    All-of-places IsPlace gs (new_places now l (places_of gs) is (All-left (IsNewPlace now l) (places_of gs) inode.places new.each))

-- a file whose map has new groups in the place of a run
module _ (now : Moment) (declared : Level) (count : ℕ) (log : List NotedEntry) (l : Layout) (change : Change) (size first run : ℕ) where
  sound_after : (bytes : List ℕ) → IsSound now.shape.unit count l (bytes_after log) → l.present ≡ true → count + 1 ≤ 4194304
      → replaced change.old change.new l.groups ≡ spliced l.groups first run change.new → AreNumbered l.next change.new change.inode
      → length (replaced change.old change.new l.groups) ≤ 256 → length change.new ≤ 256
      → AllByRecursion (λ (g : Group). AtLevel g l.requested) change.new → AllByRecursion (λ (g : Group). AllByRecursion IsPlace g.places) change.new
      → data_units (replaced change.old change.new l.groups) ≡ units_for now.shape.unit size → size ≡ length bytes
      → (after : Layout) → after.requested ≡ l.requested → after.size ≡ size → after.groups ≡ replaced change.old change.new l.groups
      → after.next ≡ change.inode.generation + 1 → after.level ≡ l.requested
      → IsSound now.shape.unit (count + 1) after bytes
  sound_after bytes sound present limit is numbers groups new at_level places sum long after requested sized grouped next level =
      let last = numbered_last l.next change.new change.inode numbers in
      let few = sound.few in
      let small : l.next + length change.new < 2 ^ 32 = omega (arith, few, limit, new) in
      let valid : IsInode (inode_with l.requested now.shape.unit size (spliced l.groups first run change.new)) =
      changed_inodes_are_spelled now.shape.unit size first run l.requested l change.new change.inode (sound.spelled present) sound.level sound.used numbers small
      at_level places (subst (λ (gs : List Group). length gs ≤ 256) is groups) (ap data_units (sym is) ∙ sum) in
      let used : AllByRecursion (λ (g : Group). g.generation < change.inode.generation + 1) (spliced l.groups first run change.new) =
      All-spliced (λ (g : Group). g.generation < change.inode.generation + 1) l.groups first run change.new
      (All-then (λ (g : Group). g.generation < l.next) (λ (g : Group). g.generation < change.inode.generation + 1) l.groups (λ g low. omega (arith, last, low)) sound.used)
      (numbered_below l.next change.new change.inode (change.inode.generation + 1) numbers (omega (arith, last))) in
      record {
        level = subst IsLevel (sym requested) sound.level;
        size = sized ∙ long;
        used = subst (λ (x : ℕ × List Group). AllByRecursion (λ (g : Group). g.generation < x.0) x.1) (λ i. (sym next i, sym (grouped ∙ is) i)) used;
        few = omega (arith, next, last, few, new);
        differ = subst AreGenerations (sym (grouped ∙ is)) valid.generations;
        spelled = λ there.
            subst (λ (x : (Level × ℕ) × List Group). IsInode (inode_with x.0.0 now.shape.unit x.0.1 x.1))
            (λ i. ((sym level i, sym sized i), sym (grouped ∙ is) i)) valid;
      }

few_within : (a b c : List Group) → length ((a ++ b) ++ c) ≤ 256 → length b ≤ 256
few_within a b c few =
    let whole = length-append (a ++ b) c in
    let rest = length-append a b in omega (arith, few, whole, rest)

-- a write
module _ (now : Moment) (declared : Level) (count : ℕ) (log : List NotedEntry) (l : Layout) (offset len size : ℕ) (payload : List ℕ) (change : Change)
    (is : IsShape now.shape) (sound : IsSound now.shape.unit count l (bytes_after log)) (limit : count + 1 ≤ 4194304)
    (some : 1 ≤ length payload) (w : Writes now log l offset size change payload) where
  pub first : ℕ
  first = first_replaced now.shape.unit l offset (length payload) w.width

  pub many : ℕ
  many = stop_replaced now.shape.unit l offset (length payload) - first_replaced now.shape.unit l offset (length payload) w.width

  pub affected : IsAffectedRun now.shape.unit l offset (length payload) w.width first many
  unfolding first many
  affected = (affected_are_runs now.shape.unit l offset (length payload) w.width (sound.spelled w.present) some).1

  pub run : IsRunOf now.shape.unit l (bytes_after log) payload offset first many change
  run = writes_replace_runs now log l offset size first many change payload (sound.spelled w.present) sound.size some w affected

  written_changed : IsChanged l.next now.shape.unit change.old change.new l.groups (replaced change.old change.new l.groups) (bytes_after log) (overwrite (bytes_after log) offset payload)
  written_changed = record {
    front = take first l.groups;
    run = take many (drop first l.groups);
    gone_is = w.old ∙ ap generations_of affected.run;
    back = drop (first + many) l.groups;
    old_is = in_three l.groups first many;
    new_is = run.run;
    late = numbered_from l.next l.next change.new change.inode w.numbers (omega arith);
    before = λ i below. let starts = run.before in overwrite_before (bytes_after log) offset payload i (omega (arith, below, starts));
    behind = elim run.covers [
      | inl last ↦ inl last.0
      | inr within ↦
          let reach = within.1 in
          let parts = two_parts (data_units (take first l.groups)) (data_units (take many (drop first l.groups))) now.shape.unit in
          inr (within.0, λ i past. overwrite_behind (bytes_after log) offset payload i (omega (arith, past, reach, parts)))
    ];
  }
    where
      two_parts : (a b unit : ℕ) → (a + b) * unit ≡ a * unit + b * unit
      two_parts a b unit = grind arith

  pub written : IsNext now.shape.unit count change.old change.new l (layout_after_event declared (event.Written offset len size change) l) (bytes_after log) (overwrite (bytes_after log) offset payload)
  written =
      let last = numbered_last l.next change.new change.inode w.numbers in record {
        sound = sound_after now declared count log l change size first many (overwrite (bytes_after log) offset payload) sound w.present limit run.run w.numbers w.groups
            (few_within _ change.new _ w.groups) w.level (group_places now l change.new change.inode is w.places)
            (writes_keep_units now log l offset size first many change payload (sound.spelled w.present) sound.size some w affected) w.new_size
            (layout_after_event declared (event.Written offset len size change) l) refl refl refl refl refl;
        later = omega (arith, last);
        changed = written_changed;
      }

-- groups that share a number of units have as many in all
pub chunks : (gs : List Group) (count width : ℕ) → AreChunks count width (map (λ (g : Group). g.n) gs) → data_units gs ≡ count
chunks [] count width are = sym are
chunks (g ∷ []) count width are = let units = sum_by-cons (λ (k : Group). k.n) g [] in let same = are.0 in omega (arith, units, same)
chunks (g ∷ h ∷ gs) count width are =
    let units = sum_by-cons (λ (k : Group). k.n) g (h ∷ gs) in
    let same = are.0 in
    let below = are.1 in
    let rest = chunks (h ∷ gs) (count - g.n) width are.2 in
    omega (arith, units, same, below, rest)

-- places that are kept, or new
kept_places : (ss ts : List Place) (position : ℕ) (now : Moment) (l : Layout) (generation : ℕ) → IsShape now.shape → AllByRecursion IsPlace ss
    → AreKeptOrNew ss ts position now l generation → AllByRecursion IsPlace ts
kept_places [] [] position now l generation is all kept = tt
kept_places [] (t ∷ ts) position now l generation is all kept = absurd kept
kept_places (s ∷ ss) [] position now l generation is all kept = absurd kept
kept_places (s ∷ ss) (t ∷ ts) position now l generation is all kept = (
  elim kept.0 [
    | inl same ↦ subst IsPlace same.0 all.0
    | inr new ↦ IsPlace-of now.shape t is (record { drive = new.drive; slot = new.slot })
  ],
  kept_places ss ts (position + 1) now l generation is all.1 kept.1,
)

-- what the new groups of a job are
record AreFit (l : Layout) (units : ℕ) (new : List Group) : Type 0 where
  units_are : data_units new ≡ units
  at_level : AllByRecursion (λ (g : Group). AtLevel g l.requested) new
  places : AllByRecursion (λ (g : Group). AllByRecursion IsPlace g.places) new

repaired : (now : Moment) (l : Layout) (old g inode : Group) → IsShape now.shape → AllByRecursion IsPlace old.places → Repairs now l old g inode → AreFit l old.n (g ∷ [])
repaired now l old g inode is places r = record {
  units_are = let units = sum_by-cons (λ (k : Group). k.n) g [] in let same = r.n in omega (arith, units, same);
  at_level = (r.level, tt);
  places = (kept_places old.places g.places 0 now l old.generation is places r.kept, tt);
}

reshaped : (now : Moment) (l : Layout) (old : Group) (new : List Group) (inode : Group) → IsShape now.shape → Reshapes now l old new inode → AreFit l old.n new
reshaped now l old new inode is r = record {
  units_are = chunks new old.n r.width r.chunks;
  at_level = r.level;
  places = group_places now l new inode is r.places;
}

fit : (now : Moment) (l : Layout) (old : Group) (new : List Group) (inode : Group) → IsShape now.shape → AllByRecursion IsPlace old.places
    → HasPlaceForm now l (old ∷ []) new inode → AreFit l old.n new
fit now l old [] inode is places form = absurd form
fit now l old (g ∷ []) inode is places (inl repairs) = repaired now l old g inode is places repairs
fit now l old (g ∷ []) inode is places (inr reshapes) = reshaped now l old (g ∷ []) inode is reshapes
fit now l old (g ∷ h ∷ gs) inode is places form = reshaped now l old (g ∷ h ∷ gs) inode is form

-- what a job makes of a map: it goes from these groups to those, in the place of a run
record IsPlaced (unit : ℕ) (l : Layout) (gens : List ℕ) (new : List Group) (bytes : List ℕ) : Type 0 where
  first : ℕ
  run : ℕ
  spliced_is : replaced gens new l.groups ≡ spliced l.groups first run new
  units : data_units (replaced gens new l.groups) ≡ data_units l.groups
  at_level : AllByRecursion (λ (g : Group). AtLevel g l.requested) new
  places : AllByRecursion (λ (g : Group). AllByRecursion IsPlace g.places) new
  changed : IsChanged l.next unit gens new l.groups (replaced gens new l.groups) bytes bytes

placed_none : (unit : ℕ) (l : Layout) (bytes : List ℕ) → IsPlaced unit l [] [] bytes
placed_none unit l bytes =
    let stays = replaced_none l.groups in record {
      first = length l.groups;
      run = 0;
      spliced_is = stays ∙ sym (ap (λ (x : List Group × List Group). x.0 ++ x.1) (λ i. (take_all (length l.groups) l.groups (omega arith) i, drop_whole l.groups i)) ∙ append-nil l.groups);
      units = ap data_units stays;
      at_level = tt;
      places = tt;
      changed = subst (λ (gs : List Group). IsChanged l.next unit [] [] l.groups gs bytes bytes) (sym stays) (unchanged l.next unit l.groups bytes);
    }

placed_one : (unit : ℕ) (l : Layout) (old : Group) (new : List Group) (bytes : List ℕ) → IsParted l.groups old → AreFit l old.n new
    → AllByRecursion (λ (g : Group). l.next ≤ g.generation) new → IsPlaced unit l (old.generation ∷ []) new bytes
placed_one unit l old new bytes p fit late =
    let is = replaced_at l.groups new old p in record {
      first = length p.front;
      run = 1;
      spliced_is = is ∙ sym (
          ap (λ (gs : List Group). take (length p.front) gs ++ (new ++ drop (length p.front + 1) gs)) p.parted
          ∙ ap (λ (x : List Group × List Group). x.0 ++ (new ++ x.1)) (λ i. (take-append_seam p.front (old ∷ p.back) i, drop_front p.front old p.back i)));
      units = ap data_units is ∙ same fit.units_are ∙ ap data_units (sym p.parted);
      at_level = fit.at_level;
      places = fit.places;
      changed = record {
        front = p.front;
        run = old ∷ [];
        gone_is = refl;
        back = p.back;
        old_is = p.parted;
        new_is = is;
        late = late;
        before = λ i below. refl;
        behind = inr (let units = fit.units_are in let one = sum_by-cons (λ (k : Group). k.n) old [] in omega (arith, units, one), λ i past. refl);
      };
    }
  where
    same : data_units new ≡ old.n → data_units (p.front ++ (new ++ p.back)) ≡ data_units (p.front ++ (old ∷ p.back))
    same units =
        let a = sum_by-append (λ (g : Group). g.n) p.front (new ++ p.back) in
        let b = sum_by-append (λ (g : Group). g.n) new p.back in
        let c = sum_by-append (λ (g : Group). g.n) p.front (old ∷ p.back) in
        let d = sum_by-cons (λ (g : Group). g.n) old p.back in
        omega (arith, units, a, b, c, d)

placed_at : (now : Moment) (l : Layout) (old : List Group) (change : Change) (bytes : List ℕ) → IsShape now.shape → AllByRecursion IsInodeGroup l.groups
    → AllByRecursion (λ (g : Group). having g.generation l.groups ≡ g ∷ []) old → change.old ≡ generations_of old
    → HasPlaceForm now l old change.new change.inode → AllByRecursion (λ (g : Group). l.next ≤ g.generation) change.new
    → IsPlaced now.shape.unit l change.old change.new bytes
placed_at now l [] change bytes is valid mapped gens form late = none change.new form gens
  where
    none : (new : List Group) → HasPlaceForm now l [] new change.inode → change.old ≡ [] → IsPlaced now.shape.unit l change.old new bytes
    none [] form gens = subst (λ (o : List ℕ). IsPlaced now.shape.unit l o [] bytes) (sym gens) (placed_none now.shape.unit l bytes)
    none (g ∷ gs) form gens = absurd form
placed_at now l (g ∷ []) change bytes is valid mapped gens form late =
    let p = parted_at l.groups g mapped.0 in
    let places : AllByRecursion IsPlace g.places =
    (All-right IsInodeGroup p.front (g ∷ p.back) (subst (AllByRecursion IsInodeGroup) p.parted valid)).0.places in
    subst (λ (o : List ℕ). IsPlaced now.shape.unit l o change.new bytes) (sym gens)
    (placed_one now.shape.unit l g change.new bytes p (fit now l g change.new change.inode is places form) late)
placed_at now l (g ∷ h ∷ gs) change bytes is valid mapped gens form late = absurd form

-- a placement
pub placed : (now : Moment) (declared : Level) (count : ℕ) (log : List NotedEntry) (l : Layout) (job : _) (change : Change)
    → IsShape now.shape → IsSound now.shape.unit count l (bytes_after log) → count + 1 ≤ 4194304 → Places now l change
    → IsNext now.shape.unit count change.old change.new l (layout_after_event declared (event.Placed job change) l) (bytes_after log) (bytes_after log)
placed now declared count log l job change is sound limit w =
    let valid = sound.spelled w.present in
    let last = numbered_last l.next change.new change.inode w.numbers in
    let p = placed_at now l w.old change (bytes_after log) is valid.groups w.mapped w.generations w.form
    (numbered_from l.next l.next change.new change.inode w.numbers (omega arith)) in record {
      sound = sound_after now declared count log l change l.size p.first p.run (bytes_after log) sound w.present limit p.spliced_is w.numbers w.groups
          (few_within _ change.new _ w.groups) p.at_level p.places (p.units ∙ valid.sum) sound.size
          (layout_after_event declared (event.Placed job change) l) refl refl refl refl refl;
      later = omega (arith, last);
      changed = p.changed;
    }

-- a file that is created
created : (now : Moment) (declared : Level) (count : ℕ) (l : Layout) (bytes : List ℕ) (inode : Group) → IsShape now.shape → IsLevel declared
    → IsSound now.shape.unit count l bytes → inode.generation ≡ l.next
    → IsNext now.shape.unit count (generations_of l.groups) [] l (layout_after_event declared (event.Created inode) l) bytes []
created now declared count l bytes inode is level sound number = record {
  sound = record {
    level = level;
    size = refl;
    used = tt;
    few = let few = sound.few in omega (arith, few, number);
    differ = tt;
    spelled = λ there. record {
      level = level;
      least_unit = is.least_unit;
      most_unit = is.most_unit;
      size = lit≤ tt;
      count = lit≤ tt;
      groups = tt;
      generations = tt;
      sum = let least = is.least_unit in sym (div-eq_of_lt (omega (arith, least)));
    };
  };
  later = omega (arith, number);
  changed = emptied l.next now.shape.unit l.groups bytes [];
}

more : (unit count : ℕ) (l : Layout) (bytes : List ℕ) → IsSound unit count l bytes → l.next ≤ 257 * (count + 1)
more unit count l bytes sound = let few = sound.few in omega (arith, few)

-- an entry that moves no unit
quiet : (unit count : ℕ) (l after : Layout) (bytes : List ℕ) → IsSound unit count l bytes → IsLevel after.requested → after.size ≡ l.size
    → after.groups ≡ l.groups → after.next ≡ l.next → after.present ≡ l.present → after.level ≡ l.level → IsNext unit count [] [] l after bytes bytes
quiet unit count l after bytes sound level size groups next present placed = record {
  sound = record {
    level = level;
    size = size ∙ sound.size;
    used = subst (λ (x : ℕ × List Group). AllByRecursion (λ (g : Group). g.generation < x.0) x.1) (λ i. (sym next i, sym groups i)) sound.used;
    few = let few = sound.few in omega (arith, few, next);
    differ = subst AreGenerations (sym groups) sound.differ;
    spelled = λ there.
        subst (λ (x : (Level × ℕ) × List Group). IsInode (inode_with x.0.0 unit x.0.1 x.1)) (λ i. ((sym placed i, sym size i), sym groups i))
        (sound.spelled (sym present ∙ there));
  };
  later = omega (arith, next);
  changed = subst (λ (gs : List Group). IsChanged l.next unit [] [] l.groups gs bytes bytes) (sym groups) (unchanged l.next unit l.groups bytes);
}

-- a file that is deleted
deleted : (unit count : ℕ) (declared : Level) (l : Layout) (bytes : List ℕ) → IsLevel declared → IsSound unit count l bytes
    → IsNext unit count (generations_of l.groups) [] l (layout_after_event declared event.Deleted l) bytes []
deleted unit count declared l bytes level sound = record {
  sound = record {
    level = level;
    size = refl;
    used = tt;
    few = more unit count l bytes sound;
    differ = tt;
    spelled = λ there. absurd (false≢true there);
  };
  later = omega arith;
  changed = emptied l.next unit l.groups bytes [];
}

pub sound_next : (now : Moment) (declared : Level) (count : ℕ) (log : List NotedEntry) (l : Layout) (payload : List ℕ) (e : FileEvent)
    → IsShape now.shape → IsLevel declared → RequestsLevel e → count + 1 ≤ 4194304 → IsSound now.shape.unit count l (bytes_after log)
    → IsEvent now log l payload e → IsNext now.shape.unit count (gone_of e l.groups) (fresh_of e) l (layout_after_event declared e l) (bytes_after log) (bytes_after_event e payload (bytes_after log))
sound_next now declared count log l payload (event.Created inode) is level requests limit sound legal =
    created now declared count l (bytes_after log) inode is level sound legal.number
sound_next now declared count log l payload event.Deleted is level requests limit sound legal = deleted now.shape.unit count declared l (bytes_after log) level sound
sound_next now declared count log l payload (event.Written offset len size change) is level requests limit sound legal =
    let long = legal.0 in
    let some = legal.1 in
    written now declared count log l offset len size payload change is sound limit (omega (arith, long, some)) legal.2
sound_next now declared count log l payload (event.Shown offset len bytes) is level requests limit sound legal =
    quiet now.shape.unit count l l (bytes_after log) sound sound.level refl refl refl refl refl
sound_next now declared count log l payload (event.LevelSet new) is level requests limit sound legal =
    quiet now.shape.unit count l (layout_after_event declared (event.LevelSet new) l) (bytes_after log) sound requests refl refl refl refl refl
sound_next now declared count log l payload (event.Placed job change) is level requests limit sound legal =
    placed now declared count log l job change is sound limit legal
sound_next now declared count log l payload (event.Dead generation position) is level requests limit sound legal =
    quiet now.shape.unit count l (layout_after_event declared (event.Dead generation position) l) (bytes_after log) sound sound.level refl refl refl refl refl
sound_next now declared count log l payload (event.Barred job drives) is level requests limit sound legal =
    quiet now.shape.unit count l (layout_after_event declared (event.Barred job drives) l) (bytes_after log) sound sound.level refl refl refl refl refl
sound_next now declared count log l payload (event.Cleared job drives) is level requests limit sound legal =
    quiet now.shape.unit count l l (bytes_after log) sound sound.level refl refl refl refl refl
sound_next now declared count log l payload (event.Marked job marked) is level requests limit sound legal =
    quiet now.shape.unit count l l (bytes_after log) sound sound.level refl refl refl refl refl
sound_next now declared count log l payload (event.Refused why) is level requests limit sound legal =
    quiet now.shape.unit count l l (bytes_after log) sound sound.level refl refl refl refl refl
