-- A write that was made ready on an earlier copy and is made now.
use Rattle.std.proofs.Common.{◌≡◌, ℕ, ◌+◌, ◌-◌, ◌*◌, ◌/◌, ◌<◌, ◌≤◌, max, inl, inr, Bool, true, false, not, List, [], ◌∷◌, ◌++◌, length, take, drop, refl, sym, ap, subst, ◌∙◌, arith, length-append}
use Rattle.std.specs.List.{AllByRecursion}
use Rattle.std.proofs.lemmas.Bool.{and_parts, cases_lt, false≢true, lt-ltb, true≢false}
use Rattle.std.proofs.lemmas.Nat.{div-add-mod', mod_below, mul-le}
use Rattle.std.proofs.lemmas.List.{drop_all, length-drop, length-map, length-take}
use Rattle.domains.specs.Place.{Place}
use Rattle.domains.specs.declared.group.Group.{Group}
use Rattle.inode_codec.specs.Inode.{IsInode, IsInodeGroup, data_units, units_for}
use Rattle.file_history.specs.World.{Moment, World, moment_at}
use Rattle.file_history.specs.Bytes.{bytes_after}
use Rattle.file_history.specs.Layout.{Layout, is_among, layout_after, places_of, replaced}
use Rattle.file_history.specs.WriteRule.{affected_groups, generations_of, groups_before, new_units}
use Rattle.file_history.specs.Refusals.{is_barred}
use Rattle.file_history.specs.Step.{IsLegalLogWhere, IsNewPlace}
use Rattle.file_history.specs.Stored.{inode_of}
use Rattle.file_history.specs.declared.entry.NotedEntry.{NotedEntry}
use Rattle.map_changes.proofs.Pairs.{All-right, All-then}
use Rattle.map_changes.proofs.SplicedLists.{in_three}
use Rattle.write_rule.specs.Runs.{IsAffectedRun, first_replaced, last_unit, run_of, stop_replaced}
use Rattle.write_rule.proofs.RunLemmas.{affected_are_runs}
use Rattle.map_laws.specs.Limits.{IsWithinLimits, RequestsLevel}
use Rattle.map_laws.specs.MappedGroups.{IsMapped, StandsFrom}
use Rattle.map_laws.proofs.StandingGroups.{stands-all, stands-among, stands-left, stands-right}
use Rattle.map_laws.proofs.SoundFiles.{IsSound}
use Rattle.map_laws.proofs.LaterLogs.{IsReached, later_log, legal_parts, sound_log, within_front}
use Rattle.stale_changes.specs.Staleness.{adds_units}
use Rattle.earlier_copies.specs.ReadyWrites.{IsReady, ReadyWrite, Spares, basis_of, last_generation, new_places, numbered}
use Rattle.earlier_copies.proofs.SparedChanges.{IsSpared, spared}
use Rattle.earlier_copies.proofs.ReachedUnits.{reached_units}
use Rattle.earlier_copies.proofs.TestedRuns.{HaveUnits, last-is}
use Rattle.earlier_copies.proofs.AffectedAgain.{AreCopies, again}
use Rattle.earlier_copies.proofs.NumberedGroups.{numbered-places}

-- a larger number has as many units
pub div-more : (a b unit : ℕ) → 1 ≤ unit → a ≤ b → a / unit ≤ b / unit
div-more a b unit wide less = elim (cases_lt (b / unit) (a / unit)) [
  | inl below ↦
      let parts = div-add-mod' b unit in
      let rest = mod_below b unit (omega (arith, wide)) in
      let whole = div-add-mod' a unit in
      let most = mul-le (b / unit + 1) unit (a / unit) unit (omega (arith, below)) (omega arith) in
      let one = one_more (b / unit) unit in
      absurd (omega (arith, parts, rest, whole, most, one, less))
  | inr most ↦ most
]
  where
    one_more : (n unit : ℕ) → (n + 1) * unit ≡ n * unit + unit
    one_more n unit = grind arith

-- a number of units that fits is at most the quotient
pub div-fits : (s a unit : ℕ) → 1 ≤ unit → s * unit ≤ a → s ≤ a / unit
div-fits s a unit wide fits = elim (cases_lt (a / unit) s) [
  | inl below ↦
      let parts = div-add-mod' a unit in
      let rest = mod_below a unit (omega (arith, wide)) in
      let most = mul-le (a / unit + 1) unit s unit (omega (arith, below)) (omega arith) in
      let one = one_more (a / unit) unit in
      absurd (omega (arith, parts, rest, most, one, fits))
  | inr most ↦ most
]
  where
    one_more : (n unit : ℕ) → (n + 1) * unit ≡ n * unit + unit
    one_more n unit = grind arith

have_units : (gs : List Group) → AllByRecursion IsInodeGroup gs → HaveUnits gs
have_units gs all = All-then IsInodeGroup (λ (g : Group). 1 ≤ g.n) gs (λ g is. is.some_units) all

-- a place that a write found usable is not barred
pub free_of_bars : (now : Moment) (l : Layout) (ss : List Place) → AllByRecursion (IsNewPlace now l) ss → AllByRecursion (λ (s : Place). is_barred l s.drive ≡ false) ss
free_of_bars now l [] all = tt
free_of_bars now l (s ∷ ss) all = (not_true (is_barred l s.drive) (and_parts _ _ all.0.usable).1, free_of_bars now l ss all.1)
  where
    not_true : (b : Bool) → not b ≡ true → b ≡ false
    not_true true is = absurd (true≢false (sym is))
    not_true false is = refl

-- an affected run of none goes to the end
pub run_none : (gs : List Group) (first count : ℕ) → first + count ≤ length gs → (count ≡ 0 → first ≡ length gs) → run_of gs first count ≡ [] → first ≡ length gs
run_none gs first count within none is =
    let taken = length-take count (drop first gs) in
    let left = length-drop first gs in
    let empty = ap (λ (l : List Group). length l) is in
    none (omega (arith, taken, left, empty, within))

-- how many data units new groups have, by the run
pub new_units_by : (unit : ℕ) (l : Layout) (offset len width s k : ℕ) → data_units (groups_before (affected_groups unit l offset len width) l.groups) ≡ s
    → data_units (affected_groups unit l offset len width) ≡ k → new_units unit l offset len width ≡ max (last_unit unit offset len + 1) (s + k) - s
new_units_by unit l offset len width s k before run = ap (λ (x : ℕ × ℕ). max (last_unit unit offset len + 1) (x.0 + x.1) - x.0) (λ i. (before i, run i))

-- how many groups a map has in which others stand in the place of an affected run
pub replaced_count : (unit : ℕ) (l : Layout) (offset len width first count : ℕ) (old : List ℕ) (new : List Group) → old ≡ generations_of (affected_groups unit l offset len width)
    → IsAffectedRun unit l offset len width first count → length (replaced old new l.groups) ≡ length l.groups - length (affected_groups unit l offset len width) + length new
replaced_count unit l offset len width first count old new is r =
    let front : List Group = take first l.groups in
    let parts = ap (λ (o : List ℕ). length (replaced o new l.groups)) is
    ∙ ap (λ (f : List Group). length (f ++ new ++ drop (length f + length (generations_of (affected_groups unit l offset len width))) l.groups)) r.before in
    let gens = length-map (affected_groups unit l offset len width) (λ (g : Group). g.generation) in
    let whole = length-append (front ++ new) (drop (length front + length (generations_of (affected_groups unit l offset len width))) l.groups) in
    let fronts = length-append front new in
    let back = length-drop (length front + length (generations_of (affected_groups unit l offset len width))) l.groups in
    let taken = length-take first l.groups in
    let many = ap (λ (gs : List Group). length gs) r.run in
    let run = length-take count (drop first l.groups) in
    let left = length-drop first l.groups in
    let within = r.within in
    omega (arith, parts, gens, whole, fronts, back, taken, many, run, left, within)

module _ (world : World) (log more : List NotedEntry) (earlier : ℕ) (w : ReadyWrite)
    (limits : IsWithinLimits world (log ++ more)) (legal : IsLegalLogWhere ⊥ world (log ++ more))
    (ready : IsReady (moment_at world earlier) log (layout_after world.level log) w)
    (spares : Spares world.shape.unit (last_generation (layout_after world.level (log ++ more)).groups) w log more) where
  abbrev unit : ℕ
  unit = world.shape.unit

  abbrev old_l : Layout
  old_l = layout_after world.level log

  abbrev new_l : Layout
  new_l = layout_after world.level (log ++ more)

  abbrev len : ℕ
  len = length w.payload

  abbrev q : ℕ
  q = w.offset / world.shape.unit

  abbrev b : ℕ
  b = last_unit world.shape.unit w.offset (length w.payload)

  abbrev u : ℕ
  u = units_for world.shape.unit (layout_after world.level log).size

  abbrev later : ℕ
  later = units_for world.shape.unit (layout_after world.level (log ++ more)).size

  pub sound : IsSound world.shape.unit (length log) (layout_after world.level log) (bytes_after log)
  sound = sound_log world log (within_front world log more limits) (legal_parts log more world [] legal).0

  pub reach : IsReached world log (log ++ more)
  reach = later_log world log more limits legal

  at_first : IsSpared (basis_of world.shape.unit (last_generation (layout_after world.level (log ++ more)).groups) w) w.old [] (new_places w) (layout_after world.level log) (layout_after world.level log)
  at_first = record {
    present = ready.legal.present;
    requested = refl;
    stays = λ g first mapped among. mapped;
    alive = λ generation position keeps. absurd (false≢true keeps);
    grown = omega arith;
    units = λ adds. sym ready.units;
    end = λ adds n is g first mapped same. stands-all (λ (x : Group). x.generation < old_l.next) old_l.groups 0 g first sound.used mapped;
    usable = subst (λ (ss : List Place). AllByRecursion (λ (s : Place). is_barred old_l s.drive ≡ false) (ss ++ w.inode.places)) (numbered-places w.new old_l.next)
        (free_of_bars (moment_at world earlier) old_l (places_of (numbered w.new old_l.next) ++ w.inode.places) ready.legal.places.each);
  }

  pub spared_now : IsSpared (basis_of world.shape.unit (last_generation (layout_after world.level (log ++ more)).groups) w) w.old [] (new_places w) (layout_after world.level log) (layout_after world.level (log ++ more))
  spared_now =
      let most = limits.entries in
      let whole = length-append log more in
      spared more world log (basis_of unit (last_generation new_l.groups) w) w.old [] (new_places w) old_l limits.cluster limits.declared
      (All-right (λ (t : NotedEntry). RequestsLevel t.entry.event) log more limits.levels) (omega (arith, most, whole)) refl ready.level sound
      (legal_parts log more world [] legal).1 spares at_first

  pub valid : IsInode (inode_of world.shape.unit (layout_after world.level log))
  valid = sound.spelled ready.legal.present

  pub valid_now : IsInode (inode_of world.shape.unit (layout_after world.level (log ++ more)))
  valid_now = reach.sound.spelled spared_now.present

  pub first : ℕ
  first = first_replaced world.shape.unit (layout_after world.level log) w.offset (length w.payload) ready.legal.width

  pub many : ℕ
  many = stop_replaced world.shape.unit (layout_after world.level log) w.offset (length w.payload) - first_replaced world.shape.unit (layout_after world.level log) w.offset (length w.payload) ready.legal.width

  pub run : IsAffectedRun world.shape.unit (layout_after world.level log) w.offset (length w.payload) ready.legal.width first many
  unfolding first many
  run = (affected_are_runs unit old_l w.offset len ready.legal.width valid ready.some).1

  wide : 1 ≤ world.shape.unit
  wide = let least = valid.least_unit in omega (arith, least)

  pub low : w.offset / world.shape.unit ≤ last_unit world.shape.unit w.offset (length w.payload)
  low = let some = ready.some in div-more w.offset (w.offset + len - 1) unit wide (omega (arith, some))

  pub starts : data_units (take first (layout_after world.level log).groups) ≤ w.offset / world.shape.unit
  starts = div-fits (data_units (take first old_l.groups)) w.offset unit wide run.starts

  adds : u ≤ b → adds_units (basis_of world.shape.unit (last_generation (layout_after world.level (log ++ more)).groups) w) ≡ true
  adds most =
      let reach = reached_units unit w.offset len wide ready.some in
      let had = ready.units in
      lt-ltb w.units (units_for unit (w.offset + len)) (omega (arith, reach, had, most))

  pub copies : AreCopies (w.offset / world.shape.unit) (last_unit world.shape.unit w.offset (length w.payload)) ready.legal.width
      (units_for world.shape.unit (layout_after world.level log).size) (units_for world.shape.unit (layout_after world.level (log ++ more)).size)
      (layout_after world.level log).groups (layout_after world.level (log ++ more)).groups
      (take first (layout_after world.level log).groups) (take many (drop first (layout_after world.level log).groups)) (drop (first + many) (layout_after world.level log).groups)
  copies = record {
    low = low;
    some = have_units old_l.groups valid.groups;
    some_now = have_units new_l.groups valid_now.groups;
    whole = valid.sum;
    whole_now = valid_now.sum;
    parted = in_three old_l.groups first many;
    starts = starts;
    ends = elim run.ends [ inl last ↦ inl (drop_all (first + many) old_l.groups (omega (arith, last))) | inr past ↦ inr past ];
    none = λ none.
        let end = run_none old_l.groups first many run.within run.none none in
        drop_all (first + many) old_l.groups (omega (arith, end));
    is = run.run;
    kept = λ g f stands.
        spared_now.stays g f
        (subst (λ (gs : List Group). IsMapped gs g f) (sym (in_three old_l.groups first many))
        (stands-right (take first old_l.groups) (take many (drop first old_l.groups) ++ drop (first + many) old_l.groups) 0 g f
        (stands-left (take many (drop first old_l.groups)) (drop (first + many) old_l.groups) (0 + data_units (take first old_l.groups)) g f
        (subst (λ (s : ℕ). StandsFrom (take many (drop first old_l.groups)) s g f) (omega arith) stands))))
        (ap (λ (o : List ℕ). is_among o g.generation) (ready.legal.old ∙ ap generations_of run.run)
        ∙ stands-among (take many (drop first old_l.groups)) (data_units (take first old_l.groups)) g f stands);
    grown = let grown = spared_now.grown in div-more (old_l.size + (unit - 1)) (new_l.size + (unit - 1)) unit wide (omega (arith, grown));
    units = λ most. spared_now.units (adds most) ∙ ready.units;
    late = λ most g f stands ends.
        let is = last-is new_l.groups 0 g f (have_units new_l.groups valid_now.groups) stands ends in
        (reach.later.stays g f stands (spared_now.end (adds most) g.generation is g f stands refl)).stood;
  }

  -- the write affects the groups that it affected
  pub affected_again : affected_groups world.shape.unit (layout_after world.level (log ++ more)) w.offset (length w.payload) ready.legal.width
      ≡ take many (drop first (layout_after world.level log).groups)
  affected_again = again q b ready.legal.width u later old_l.groups new_l.groups (take first old_l.groups) (take many (drop first old_l.groups)) (drop (first + many) old_l.groups) copies
