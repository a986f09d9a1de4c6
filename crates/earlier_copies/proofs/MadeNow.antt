-- A write that was made ready on an earlier copy is legal now.
use Rattle.std.proofs.Common.{◌≡◌, ℕ, ◌+◌, ◌-◌, ◌/◌, ◌<◌, ◌≤◌, max, inl, true, false, not, List, [], ◌∷◌, ◌++◌, length, map, take, drop, refl, sym, ap, subst, ◌∙◌, arith}
use Rattle.std.specs.List.{AllByRecursion}
use Rattle.std.proofs.lemmas.Bool.{and_from}
use Rattle.std.proofs.lemmas.List.{take_all}
use Rattle.domains.specs.Place.{Place}
use Rattle.domains.specs.Level.{Level}
use Rattle.domains.specs.Shape.{Shape, is_of}
use Rattle.domains.specs.AtLevel.{AtLevel, InodeAt}
use Rattle.domains.specs.declared.group.Group.{Group}
use Rattle.inode_codec.specs.Inode.{data_units, units_for}
use Rattle.file_history.specs.World.{Moment, World, moment_at}
use Rattle.file_history.specs.Layout.{Layout, all_groups, is_taken, layout_after, replaced}
use Rattle.file_history.specs.WriteRule.{AreChunks, affected_groups, chunk_count, generations_of, new_units}
use Rattle.file_history.specs.Refusals.{is_barred}
use Rattle.file_history.specs.Step.{AreNewPlaces, IsLegalLogWhere, IsNewPlace}
use Rattle.file_history.specs.declared.entry.NotedEntry.{NotedEntry}
use Rattle.map_changes.proofs.SplicedLists.{in_three}
use Rattle.write_rule.specs.Runs.{IsAffectedRun, first_replaced, last_unit, run_of, stop_replaced}
use Rattle.write_rule.proofs.RunLemmas.{affected_are_runs}
use Rattle.write_rule.proofs.ChunkCounts.{writes_count_groups}
use Rattle.map_laws.specs.Limits.{IsWithinLimits}
use Rattle.map_laws.specs.MappedGroups.{StandsFrom}
use Rattle.map_laws.proofs.StandingGroups.{stands-right}
use Rattle.map_laws.proofs.LaterLogs.{one_group}
use Rattle.earlier_copies.specs.ReadyWrites.{IsMade, IsReady, MayBeMade, ReadyWrite, Spares, last_generation, logged, new_places, numbered}
use Rattle.earlier_copies.specs.Laws.{EarlierWritesAreLegal}
use Rattle.earlier_copies.proofs.AffectedAgain.{AreCopies}
use Rattle.earlier_copies.proofs.NumberedGroups.{all_renumbered, are_numbered, numbered-length, numbered-places, numbered-widths, renumbered, some_wide}
use Rattle.earlier_copies.proofs.MadeWrites.{affected_again, copies, first, many, new_units_by, replaced_count, run, run_none, spared_now, valid, valid_now}

-- new places, of drives that are up and not barred
pub are_new : (now : Moment) (was : Moment) (l old : Layout) (ss : List Place) → was.shape ≡ now.shape → AllByRecursion (IsNewPlace was old) ss
    → AllByRecursion (λ (s : Place). now.up s.drive ≡ true) ss → AllByRecursion (λ (s : Place). is_barred l s.drive ≡ false) ss
    → AllByRecursion (λ (s : Place). is_taken (all_groups l) s ≡ false) ss → AllByRecursion (IsNewPlace now l) ss
are_new now was l old [] same were up unbarred free = tt
are_new now was l old (s ∷ ss) same were up unbarred free = (
  record {
    drive = subst (λ (c : Shape). is_of c s.drive ≡ true) same were.0.drive;
    slot = subst (λ (c : Shape). s.slot < c.slots) same were.0.slot;
    usable = and_from (now.up s.drive) (not (is_barred l s.drive)) up.0 (ap not unbarred.0);
    free = free.0;
  },
  are_new now was l old ss same were.1 up.1 unbarred.1 free.1,
)

module _ (world : World) (log more : List NotedEntry) (earlier : ℕ) (w : ReadyWrite)
    (limits : IsWithinLimits world (log ++ more)) (legal : IsLegalLogWhere ⊥ world (log ++ more))
    (ready : IsReady (moment_at world earlier) log (layout_after world.level log) w)
    (spares : Spares world.shape.unit (last_generation (layout_after world.level (log ++ more)).groups) w log more) where
  abbrev old_l : Layout
  old_l = layout_after world.level log

  abbrev new_l : Layout
  new_l = layout_after world.level (log ++ more)

  abbrev f1 : ℕ
  f1 = first world log more earlier w limits legal ready spares

  abbrev n1 : ℕ
  n1 = many world log more earlier w limits legal ready spares

  abbrev old_run : List Group
  old_run = take (many world log more earlier w limits legal ready spares) (drop (first world log more earlier w limits legal ready spares) (layout_after world.level log).groups)

  pub r1 : IsAffectedRun world.shape.unit (layout_after world.level log) w.offset (length w.payload) ready.legal.width
      (first world log more earlier w limits legal ready spares) (many world log more earlier w limits legal ready spares)
  r1 = run world log more earlier w limits legal ready spares

  pub f2 : ℕ
  f2 = first_replaced world.shape.unit (layout_after world.level (log ++ more)) w.offset (length w.payload) ready.legal.width

  pub n2 : ℕ
  n2 = stop_replaced world.shape.unit (layout_after world.level (log ++ more)) w.offset (length w.payload)
      - first_replaced world.shape.unit (layout_after world.level (log ++ more)) w.offset (length w.payload) ready.legal.width

  pub r2 : IsAffectedRun world.shape.unit (layout_after world.level (log ++ more)) w.offset (length w.payload) ready.legal.width f2 n2
  unfolding f2 n2
  r2 = (affected_are_runs world.shape.unit new_l w.offset (length w.payload) ready.legal.width (valid_now world log more earlier w limits legal ready spares) ready.some).1

  pub again_is : affected_groups world.shape.unit (layout_after world.level (log ++ more)) w.offset (length w.payload) ready.legal.width
      ≡ take (many world log more earlier w limits legal ready spares) (drop (first world log more earlier w limits legal ready spares) (layout_after world.level log).groups)
  again_is = affected_again world log more earlier w limits legal ready spares

  pub run_now : run_of (layout_after world.level (log ++ more)).groups f2 n2
      ≡ take (many world log more earlier w limits legal ready spares) (drop (first world log more earlier w limits legal ready spares) (layout_after world.level log).groups)
  run_now = sym r2.run ∙ again_is

  k : AreCopies (w.offset / world.shape.unit) (last_unit world.shape.unit w.offset (length w.payload)) ready.legal.width
      (units_for world.shape.unit (layout_after world.level log).size) (units_for world.shape.unit (layout_after world.level (log ++ more)).size)
      (layout_after world.level log).groups (layout_after world.level (log ++ more)).groups
      (take (first world log more earlier w limits legal ready spares) (layout_after world.level log).groups)
      (take (many world log more earlier w limits legal ready spares) (drop (first world log more earlier w limits legal ready spares) (layout_after world.level log).groups))
      (drop (first world log more earlier w limits legal ready spares + many world log more earlier w limits legal ready spares) (layout_after world.level log).groups)
  k = copies world log more earlier w limits legal ready spares

  -- the run begins with the same unit
  pub same_start : data_units (take f2 (layout_after world.level (log ++ more)).groups)
      ≡ data_units (take (first world log more earlier w limits legal ready spares) (layout_after world.level log).groups)
  same_start = by_run old_run refl
    where
      by_run : (l : List Group) → old_run ≡ l → data_units (take f2 new_l.groups) ≡ data_units (take f1 old_l.groups)
      by_run [] none =
          let end1 = run_none old_l.groups f1 n1 r1.within r1.none none in
          let end2 = run_none new_l.groups f2 n2 r2.within r2.none (run_now ∙ none) in
          let all1 = ap data_units (take_all f1 old_l.groups (omega (arith, end1))) in
          let all2 = ap data_units (take_all f2 new_l.groups (omega (arith, end2))) in
          let whole = k.whole in
          let whole_now = k.whole_now in
          let starts = k.starts in
          let low = k.low in
          let same = k.units (omega (arith, starts, low, all1, whole)) in
          omega (arith, all1, all2, whole, whole_now, same)
      by_run (r ∷ rs) is =
          let there : StandsFrom new_l.groups 0 r (data_units (take f1 old_l.groups)) =
          k.kept r (data_units (take f1 old_l.groups)) (subst (λ (l : List Group). StandsFrom l (data_units (take f1 old_l.groups)) r (data_units (take f1 old_l.groups))) (sym is) (inl (refl, refl))) in
          let here : StandsFrom new_l.groups 0 r (0 + data_units (take f2 new_l.groups)) =
          subst (λ (gs : List Group). StandsFrom gs 0 r (0 + data_units (take f2 new_l.groups))) (sym (in_three new_l.groups f2 n2))
          (stands-right (take f2 new_l.groups) (run_of new_l.groups f2 n2 ++ drop (f2 + n2) new_l.groups) 0 r (0 + data_units (take f2 new_l.groups))
          (subst (λ (l : List Group). StandsFrom (l ++ drop (f2 + n2) new_l.groups) (0 + data_units (take f2 new_l.groups)) r (0 + data_units (take f2 new_l.groups))) (sym (run_now ∙ is)) (inl (refl, refl)))) in
          let one = (one_group new_l.groups 0 r r (data_units (take f1 old_l.groups)) (0 + data_units (take f2 new_l.groups))
          (valid_now world log more earlier w limits legal ready spares).generations there here refl).1 in
          omega (arith, one)

  -- the new groups have as many data units
  pub old_units : new_units world.shape.unit (layout_after world.level log) w.offset (length w.payload) ready.legal.width
      ≡ max (last_unit world.shape.unit w.offset (length w.payload) + 1) (data_units (take f1 old_l.groups) + data_units old_run) - data_units (take f1 old_l.groups)
  old_units = new_units_by world.shape.unit old_l w.offset (length w.payload) ready.legal.width (data_units (take f1 old_l.groups)) (data_units old_run) (ap data_units r1.before) (ap data_units r1.run)

  pub same_units : new_units world.shape.unit (layout_after world.level log) w.offset (length w.payload) ready.legal.width
      ≡ new_units world.shape.unit (layout_after world.level (log ++ more)) w.offset (length w.payload) ready.legal.width
  same_units =
      old_units ∙ sym (new_units_by world.shape.unit new_l w.offset (length w.payload) ready.legal.width (data_units (take f1 old_l.groups)) (data_units old_run)
      (ap data_units r2.before ∙ same_start) (ap data_units again_is))

  wide_enough : 1 ≤ ready.legal.width
  wide_enough =
      let starts = k.starts in
      let low = k.low in
      let units = old_units in
      some_wide (map (λ (g : Group). g.n) (numbered w.new old_l.next)) _ ready.legal.width ready.legal.chunks (omega (arith, starts, low, units))

  -- and the map as many groups as the rule says
  new_count : length w.new ≡ chunk_count (new_units world.shape.unit (layout_after world.level log) w.offset (length w.payload) ready.legal.width) ready.legal.width
  new_count =
      let counted = writes_count_groups (moment_at world earlier) log old_l w.offset _ f1 n1 (logged w old_l.next) w.payload
      (valid world log more earlier w limits legal ready spares) ready.legal wide_enough r1 in
      let parts = replaced_count world.shape.unit old_l w.offset (length w.payload) ready.legal.width f1 n1 w.old (numbered w.new old_l.next) ready.legal.old r1 in
      let long = numbered-length w.new old_l.next in
      omega (arith, counted, parts, long)

  few_groups : (epoch : ℕ) → MayBeMade (moment_at world epoch) new_l w ready.legal.width → w.old ≡ generations_of (affected_groups world.shape.unit new_l w.offset (length w.payload) ready.legal.width)
      → length (replaced w.old (numbered w.new new_l.next) new_l.groups) ≤ 256
  few_groups epoch tests old =
      let parts = replaced_count world.shape.unit new_l w.offset (length w.payload) ready.legal.width f2 n2 w.old (numbered w.new new_l.next) old r2 in
      let long = numbered-length w.new new_l.next in
      let count = new_count ∙ ap (λ (n : ℕ). chunk_count n ready.legal.width) same_units in
      let few = tests.may.groups in
      omega (arith, parts, long, count, few)

  pub made_now : (epoch : ℕ) → MayBeMade (moment_at world epoch) (layout_after world.level (log ++ more)) w ready.legal.width
      → IsMade (moment_at world epoch) (log ++ more) (layout_after world.level (log ++ more)) w
  made_now epoch tests =
      let s = spared_now world log more earlier w limits legal ready spares in
      let level : (layout_after world.level log).requested ≡ (layout_after world.level (log ++ more)).requested = sym s.requested in
      let old : w.old ≡ generations_of (affected_groups world.shape.unit new_l w.offset (length w.payload) ready.legal.width) =
      ready.legal.old ∙ ap generations_of (r1.run ∙ sym again_is) in
      record {
        present = s.present;
        width = ready.legal.width;
        may = tests.may;
        old = old;
        chunks = subst (λ (x : ℕ × List ℕ). AreChunks x.0 ready.legal.width x.1)
            (λ i. (same_units i, (numbered-widths w.new old_l.next ∙ sym (numbered-widths w.new new_l.next)) i)) ready.legal.chunks;
        level = subst (λ (v : Level). AllByRecursion (λ (g : Group). AtLevel g v) (numbered w.new new_l.next)) level
            (all_renumbered w.new old_l.next new_l.next old_l.requested ready.legal.level);
        inode = subst (InodeAt (record w.inode { generation = new_l.next + length w.new })) level (record {
          one = ready.legal.inode.one;
          at_level = renumbered w.inode (old_l.next + length w.new) (new_l.next + length w.new) old_l.requested ready.legal.inode.at_level;
        });
        numbers = are_numbered w.new new_l.next (record w.inode { generation = new_l.next + length w.new }) refl;
        places = subst (λ (ss : List Place). AreNewPlaces (moment_at world epoch) new_l (ss ++ w.inode.places)) (sym (numbered-places w.new new_l.next))
            (record {
              each = are_new (moment_at world epoch) (moment_at world earlier) new_l old_l (new_places w) refl
                  (subst (λ (ss : List Place). AllByRecursion (IsNewPlace (moment_at world earlier) old_l) (ss ++ w.inode.places)) (numbered-places w.new old_l.next) ready.legal.places.each)
                  tests.up s.usable tests.free.free;
              distinct = tests.free.distinct;
            });
        groups = few_groups epoch tests old;
        new_size = refl;
      }

pub earlier_writes_are_legal : EarlierWritesAreLegal
earlier_writes_are_legal world log more earlier epoch w limits legal ready spares tests = made_now world log more earlier w limits legal ready spares epoch tests
