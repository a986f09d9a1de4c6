-- A file after entries that do not stand against a change.
use Rattle.std.proofs.Common.{◌≡◌, ℕ, ◌+◌, ◌<◌, ◌≤◌, ◌==◌, Bool, true, false, not, ◌||◌, ◌&&◌, if◌then◌else◌, inl, inr, List, [], ◌∷◌, ◌++◌, length, Option, Some, None, refl, sym, ap, subst, ◌∙◌, arith, append_assoc, append-nil, length-append}
use Rattle.std.specs.List.{AllByRecursion, list_any}
use Rattle.std.proofs.lemmas.Bool.{and_parts, cases_Bool, cases_eq, eq-eqb, eqb-true, false≢true, ne_eqb, or_from, or_parts, true≢false}
use Rattle.domains.specs.DriveSet.{has}
use Rattle.domains.specs.declared.drive_set.DriveSet.{DriveSet}
use Rattle.domains.specs.Place.{Place}
use Rattle.domains.specs.Shape.{IsShape}
use Rattle.domains.specs.Level.{Level, IsLevel, same_level}
use Rattle.domains.specs.declared.group.Group.{Group}
use Rattle.inode_codec.specs.Inode.{units_for}
use Rattle.file_history.specs.World.{World, Moment, moment_at}
use Rattle.file_history.specs.Bytes.{bytes_after}
use Rattle.file_history.specs.Layout.{Layout, Unit_, is_among, layout_after, layout_after_event}
use Rattle.file_history.specs.Live.{is_dead}
use Rattle.file_history.specs.Refusals.{is_barred}
use Rattle.file_history.specs.Step.{IsEvent, IsLegalFrom}
use Rattle.file_history.specs.declared.entry.FileEvent.{FileEvent}
use Rattle.file_history.specs.declared.entry.FileEvent.TheVariants as event
use Rattle.file_history.specs.declared.entry.NotedEntry.{NotedEntry}
use Rattle.file_history.proofs.HistoryGrowth.{layout_after-push}
use Rattle.stale_changes.specs.Staleness.{adds_units, cause_in, cause_of, drive_in, end_moved, first_cause, has_generation, is_kept, replaced_by, told_barred}
use Rattle.stale_changes.specs.declared.basis.Basis.{Basis}
use Rattle.stale_changes.specs.declared.basis.KeptUnit.{KeptUnit}
use Rattle.stale_changes.specs.declared.stale.Stale.{Stale}
use Rattle.stale_changes.specs.declared.stale.Stale.TheVariants as stale
use Rattle.write_rule.proofs.NewBytesByPlace.{overwrite_length}
use Rattle.map_laws.specs.MappedGroups.{IsMapped, StandsFrom}
use Rattle.map_laws.specs.Limits.{RequestsLevel}
use Rattle.map_laws.proofs.ChangedRuns.{IsChanged, came, keeps}
use Rattle.map_laws.proofs.EventGroups.{fresh_of, gone_of}
use Rattle.map_laws.proofs.SoundFiles.{IsSound}
use Rattle.map_laws.proofs.LaterLogs.{step}
use Rattle.earlier_copies.specs.ReadyWrites.{entries_of}

-- what entries that spare a change leave of a file: the groups that it replaces stand where they stood, and of its last group it is
-- known whether it was there if the change adds units
pub record IsSpared (b : Basis) (old : List ℕ) (kept : List KeptUnit) (places : List Place) (l now : Layout) : Type 0 where
  pub present : now.present ≡ true
  pub requested : now.requested ≡ l.requested
  pub stays : (g : Group) (first : ℕ) → IsMapped l.groups g first → is_among old g.generation ≡ true → IsMapped now.groups g first
  pub alive : (generation position : ℕ) → is_kept kept generation position ≡ true → is_dead l generation position ≡ false → is_dead now generation position ≡ false
  pub grown : l.size ≤ now.size
  pub units : adds_units b ≡ true → units_for b.unit now.size ≡ b.units
  pub end : adds_units b ≡ true → (n : ℕ) → b.last ≡ Some n → (g : Group) (first : ℕ) → IsMapped now.groups g first → g.generation ≡ n → g.generation < l.next
  pub usable : AllByRecursion (λ (s : Place). is_barred now s.drive ≡ false) places

not_none : (cause : Stale) → Some cause ≡ None → ⊥
not_none cause is = cc

first_none : (a c : Option Stale) → first_cause a c ≡ None → (a ≡ None) × (c ≡ None)
first_none None c is = (refl, is)
first_none (Some cause) c is = absurd (not_none cause is)

-- a generation of the change is none that the entry replaced
left_out : (old gone : List ℕ) (n entry : ℕ) → replaced_by old gone entry ≡ None → is_among old n ≡ true → is_among gone n ≡ false
left_out [] gone n entry none among = absurd (false≢true among)
left_out (m ∷ ms) gone n entry none among = elim (cases_Bool (is_among gone m)) [
  | inl went ↦ absurd (not_none (stale.Replaced m entry) (sym (ap (λ (x : Bool). if x then Some (stale.Replaced m entry) else replaced_by ms gone entry) went) ∙ none))
  | inr left ↦
      let rest : replaced_by ms gone entry ≡ None = sym (ap (λ (x : Bool). if x then Some (stale.Replaced m entry) else replaced_by ms gone entry) left) ∙ none in
      elim (cases_eq m n) [
        | inl same ↦ subst (λ (k : ℕ). is_among gone k ≡ false) same left
        | inr differ ↦ left_out ms gone n entry rest (sym (ap (λ (x : Bool). x || is_among ms n) (ne_eqb m n differ)) ∙ among)
      ]
]

-- where the change adds units, the entry did not move the end
not_moved : (adds moved : Bool) (entry : ℕ) → end_moved (adds && moved) entry ≡ None → adds ≡ true → moved ≡ false
not_moved true true entry none adds = absurd (not_none (stale.Units entry) none)
not_moved true false entry none adds = refl
not_moved false moved entry none adds = absurd (false≢true adds)

same_units : (a c : ℕ) → not (a == c) ≡ false → a ≡ c
same_units a c is = elim (cases_eq a c) [
  | inl same ↦ same
  | inr differ ↦ absurd (true≢false (sym (ap not (ne_eqb a c differ)) ∙ is))
]

same_levels : (a c : Level) (entry : ℕ) → (if same_level a c then None else Some (stale.Level entry)) ≡ None → a ≡ c
same_levels a c entry none = elim (cases_Bool (same_level a c)) [
  | inl same ↦
      let outer = and_parts ((a.w == c.w) && (a.m == c.m)) (a.k == c.k) same in
      let inner = and_parts (a.w == c.w) (a.m == c.m) outer.0 in
      ap (λ (x : (ℕ × ℕ) × ℕ). let made : Level = record { w = x.0.0; m = x.0.1; k = x.1 } in made)
      (λ i. ((eqb-true a.w c.w inner.0 i, eqb-true a.m c.m inner.1 i), eqb-true a.k c.k outer.1 i))
  | inr differ ↦ absurd (not_none (stale.Level entry) (sym (ap (λ (x : Bool). if x then None else Some (stale.Level entry)) differ) ∙ none))
]

-- no place of the change is on a drive of these
off_drives : (ss : List Place) (drives : DriveSet) (entry : ℕ) → told_barred (drive_in ss drives) entry ≡ None → AllByRecursion (λ (s : Place). has drives s.drive ≡ false) ss
off_drives [] drives entry none = tt
off_drives (s ∷ ss) drives entry none = elim (cases_Bool (has drives s.drive)) [
  | inl barred ↦
      absurd (not_none (stale.Barred s.drive entry) (sym (ap (λ (x : Bool). told_barred (if x then Some s.drive else drive_in ss drives) entry) barred) ∙ none))
  | inr free ↦ (free, off_drives ss drives entry (sym (ap (λ (x : Bool). told_barred (if x then Some s.drive else drive_in ss drives) entry) free) ∙ none))
]

-- a unit that is kept is none that the entry says is dead
other_unit : (kept : List KeptUnit) (generation position g p entry : ℕ)
    → (if is_kept kept generation position then Some (stale.Dead generation position entry) else None) ≡ None → is_kept kept g p ≡ true
    → ((generation == g) && (position == p)) ≡ false
other_unit kept generation position g p entry none keeps = elim (cases_Bool ((generation == g) && (position == p))) [
  | inl same ↦
      let parts = and_parts (generation == g) (position == p) same in
      let told : is_kept kept generation position ≡ true =
      ap (λ (x : ℕ × ℕ). is_kept kept x.0 x.1) (λ i. (eqb-true generation g parts.0 i, eqb-true position p parts.1 i)) ∙ keeps in
      absurd (not_none (stale.Dead generation position entry)
      (sym (ap (λ (x : Bool). if x then Some (stale.Dead generation position entry) else None) told) ∙ none))
  | inr differ ↦ differ
]

one_dead_more : (units : List Unit_) (u : Unit_) (g p : ℕ) → list_any (λ (x : Unit_). (x.generation == g) && (x.position == p)) units ≡ false
    → ((u.generation == g) && (u.position == p)) ≡ false → list_any (λ (x : Unit_). (x.generation == g) && (x.position == p)) (units ++ u ∷ []) ≡ false
one_dead_more [] u g p none here = or_from ((u.generation == g) && (u.position == p)) false here refl
one_dead_more (x ∷ xs) u g p none here =
    let parts = or_parts ((x.generation == g) && (x.position == p)) (list_any (λ (y : Unit_). (y.generation == g) && (y.position == p)) xs) none in
    or_from ((x.generation == g) && (x.position == p)) (list_any (λ (y : Unit_). (y.generation == g) && (y.position == p)) (xs ++ u ∷ [])) parts.0
    (one_dead_more xs u g p parts.1 here)

-- a fresh group has no generation that none has
no_fresh : (gs : List Group) (start : ℕ) (g : Group) (first n : ℕ) → StandsFrom gs start g first → g.generation ≡ n
    → list_any (λ (h : Group). h.generation == n) gs ≡ false → ⊥
no_fresh [] start g first n stands same none = stands
no_fresh (h ∷ hs) start g first n (inl here) same none =
    true≢false (sym (ap (λ (b : Bool). b || list_any (λ (k : Group). k.generation == n) hs) (eq-eqb h.generation n (ap (λ (k : Group). k.generation) here.0 ∙ same))) ∙ none)
no_fresh (h ∷ hs) start g first n (inr later) same none =
    no_fresh hs (start + h.n) g first n later same (second (h.generation == n) (list_any (λ (k : Group). k.generation == n) hs) none)
  where
    second : (a b : Bool) → (a || b) ≡ false → b ≡ false
    second true b is = absurd (true≢false is)
    second false b is = is

-- what is spared where the map changes
module _ (b : Basis) (old : List ℕ) (kept : List KeptUnit) (places : List Place) (l now : Layout) (s : IsSpared b old kept places l now) where
  stays_after : (gone : List ℕ) (fresh : List Group) (after : List Group) (entry : ℕ) (bytes after_bytes : List ℕ) → IsChanged now.next b.unit gone fresh now.groups after bytes after_bytes
      → replaced_by old gone entry ≡ None → (g : Group) (first : ℕ) → IsMapped l.groups g first → is_among old g.generation ≡ true → IsMapped after g first
  stays_after gone fresh after entry bytes after_bytes c none g first mapped among =
      keeps now.next b.unit gone fresh now.groups after bytes after_bytes c g first (s.stays g first mapped among) (left_out old gone g.generation entry none among)

  end_after : (gone : List ℕ) (fresh : List Group) (after : List Group) (bytes after_bytes : List ℕ) → IsChanged now.next b.unit gone fresh now.groups after bytes after_bytes
      → (adds_units b ≡ true → has_generation b.last fresh ≡ false)
      → adds_units b ≡ true → (n : ℕ) → b.last ≡ Some n → (g : Group) (first : ℕ) → IsMapped after g first → g.generation ≡ n → g.generation < l.next
  end_after gone fresh after bytes after_bytes c none adds n is g first mapped same =
      elim (came now.next b.unit gone fresh now.groups after bytes after_bytes c g first mapped) [
        | inl before ↦ s.end adds n is g first before same
        | inr new ↦ absurd (no_fresh fresh new.0 g first n new.1 same (sym (ap (λ (o : Option ℕ). has_generation o fresh) is) ∙ none adds))
      ]

one_bar_more : (ss : List Place) (bars : List DriveSet) (drives : DriveSet)
    → AllByRecursion (λ (p : Place). list_any (λ (d : DriveSet). has d p.drive) bars ≡ false) ss → AllByRecursion (λ (p : Place). has drives p.drive ≡ false) ss
    → AllByRecursion (λ (p : Place). list_any (λ (d : DriveSet). has d p.drive) (bars ++ drives ∷ []) ≡ false) ss
one_bar_more [] bars drives old new = tt
one_bar_more (p ∷ ps) bars drives old new = (one bars old.0, one_bar_more ps bars drives old.1 new.1)
  where
    both : (a b : Bool) → (a || b) ≡ false → (a ≡ false) × (b ≡ false)
    both true b is = absurd (true≢false is)
    both false b is = (λ i. false, is)

    one : (bs : List DriveSet) → list_any (λ (d : DriveSet). has d p.drive) bs ≡ false → list_any (λ (d : DriveSet). has d p.drive) (bs ++ drives ∷ []) ≡ false
    one [] none = ap (λ (b : Bool). b || false) new.0
    one (b ∷ bs) none =
        let parts = both (has b p.drive) (list_any (λ (d : DriveSet). has d p.drive) bs) none in
        ap (λ (x : Bool). x || list_any (λ (d : DriveSet). has d p.drive) (bs ++ drives ∷ [])) parts.0 ∙ one bs parts.1

spared_next : (now : Moment) (declared : Level) (count entry : ℕ) (log : List NotedEntry) (b : Basis) (old : List ℕ) (kept : List KeptUnit) (places : List Place) (l at : Layout) (payload bytes : List ℕ) (e : FileEvent)
    → b.unit ≡ now.shape.unit → b.level ≡ l.requested → IsSound now.shape.unit count at (bytes_after log) → IsEvent now log at payload e
    → IsChanged at.next b.unit (gone_of e at.groups) (fresh_of e) at.groups (layout_after_event declared e at).groups (bytes_after log) bytes
    → cause_of b old kept places entry e ≡ None → IsSpared b old kept places l at → IsSpared b old kept places l (layout_after_event declared e at)
spared_next now declared count entry log b old kept places l at payload bytes (event.Created inode) unit level sound legal c none s = absurd (not_none (stale.Presence entry) none)
spared_next now declared count entry log b old kept places l at payload bytes event.Deleted unit level sound legal c none s = absurd (not_none (stale.Presence entry) none)
spared_next now declared count entry log b old kept places l at payload bytes (event.Written offset len size change) unit level sound legal c none s =
    let moved : Bool = not (units_for b.unit size == b.units) || has_generation b.last change.new in
    let parts = first_none (replaced_by old change.old entry) (end_moved (adds_units b && moved) entry) none in
    let ends : adds_units b ≡ true → (not (units_for b.unit size == b.units) ≡ false) × (has_generation b.last change.new ≡ false) =
    λ adds. or_parts (not (units_for b.unit size == b.units)) (has_generation b.last change.new) (not_moved (adds_units b) moved entry parts.1 adds) in
    let after : List Group = (layout_after_event declared (event.Written offset len size change) at).groups in
    record {
      present = s.present;
      requested = s.requested;
      stays = stays_after b old kept places l at s change.old change.new after entry (bytes_after log) bytes c parts.0;
      alive = s.alive;
      grown =
          let grown = s.grown in
          let was = sound.size in
          let is = legal.2.new_size in
          let long = overwrite_length (bytes_after log) offset payload in
          omega (arith, grown, was, is, long);
      units = λ adds. same_units (units_for b.unit size) b.units (ends adds).0;
      end = end_after b old kept places l at s change.old change.new after (bytes_after log) bytes c (λ adds. (ends adds).1);
      usable = s.usable;
    }
spared_next now declared count entry log b old kept places l at payload bytes (event.Shown offset len shown) unit level sound legal c none s = s
spared_next now declared count entry log b old kept places l at payload bytes (event.LevelSet new) unit level sound legal c none s = record {
  present = s.present;
  requested = same_levels new b.level entry none ∙ level;
  stays = s.stays;
  alive = s.alive;
  grown = s.grown;
  units = s.units;
  end = s.end;
  usable = s.usable;
}
spared_next now declared count entry log b old kept places l at payload bytes (event.Placed job change) unit level sound legal c none s =
    let parts = first_none (replaced_by old change.old entry) (end_moved (adds_units b && has_generation b.last change.new) entry) none in
    let after : List Group = (layout_after_event declared (event.Placed job change) at).groups in
    record {
      present = s.present;
      requested = s.requested;
      stays = stays_after b old kept places l at s change.old change.new after entry (bytes_after log) bytes c parts.0;
      alive = s.alive;
      grown = s.grown;
      units = s.units;
      end = end_after b old kept places l at s change.old change.new after (bytes_after log) bytes c
          (λ adds. not_moved (adds_units b) (has_generation b.last change.new) entry parts.1 adds);
      usable = s.usable;
    }
spared_next now declared count entry log b old kept places l at payload bytes (event.Dead generation position) unit level sound legal c none s = record {
  present = s.present;
  requested = s.requested;
  stays = s.stays;
  alive = λ g p keeps alive.
      one_dead_more at.dead (record { generation = generation; position = position }) g p (s.alive g p keeps alive)
      (other_unit kept generation position g p entry none keeps);
  grown = s.grown;
  units = s.units;
  end = s.end;
  usable = s.usable;
}
spared_next now declared count entry log b old kept places l at payload bytes (event.Barred job drives) unit level sound legal c none s = record {
  present = s.present;
  requested = s.requested;
  stays = s.stays;
  alive = s.alive;
  grown = s.grown;
  units = s.units;
  end = s.end;
  usable = one_bar_more places at.barred drives s.usable (off_drives places drives entry none);
}
spared_next now declared count entry log b old kept places l at payload bytes (event.Cleared job drives) unit level sound legal c none s = s
spared_next now declared count entry log b old kept places l at payload bytes (event.Marked job marked) unit level sound legal c none s = s
spared_next now declared count entry log b old kept places l at payload bytes (event.Refused why) unit level sound legal c none s = s

-- and after all of them
pub spared : (more : List NotedEntry) (world : World) (log : List NotedEntry) (b : Basis) (old : List ℕ) (kept : List KeptUnit) (places : List Place) (l : Layout) → IsShape world.shape → IsLevel world.level
    → AllByRecursion (λ (t : NotedEntry). RequestsLevel t.entry.event) more → length log + length more ≤ 4194304 → b.unit ≡ world.shape.unit → b.level ≡ l.requested
    → IsSound world.shape.unit (length log) (layout_after world.level log) (bytes_after log) → IsLegalFrom more ⊥ world log
    → cause_in (entries_of more) (length log) b old kept places ≡ None
    → IsSpared b old kept places l (layout_after world.level log) → IsSpared b old kept places l (layout_after world.level (log ++ more))
spared [] world log b old kept places l is level requests limit unit same sound legal none s =
    subst (λ (all : List NotedEntry). IsSpared b old kept places l (layout_after world.level all)) (sym (append-nil log)) s
spared (t ∷ ts) world log b old kept places l is level requests limit unit same sound legal none s =
    let one : length (log ++ t ∷ []) ≡ length log + 1 = length-append log (t ∷ []) in
    let next = step world log t is level requests.0 (omega (arith, limit)) sound legal.0 in
    let at = layout_after world.level log in
    let after = layout_after_event world.level t.entry.event at in
    let push = layout_after-push world.level log t in
    let parts = first_none (cause_of b old kept places (length log + 1) t.entry.event) (cause_in (entries_of ts) (length log + 1) b old kept places) none in
    let changed : IsChanged at.next b.unit (gone_of t.entry.event at.groups) (fresh_of t.entry.event) at.groups after.groups (bytes_after log) (bytes_after (log ++ t ∷ [])) =
    subst (λ (n : ℕ). IsChanged at.next n (gone_of t.entry.event at.groups) (fresh_of t.entry.event) at.groups after.groups (bytes_after log) (bytes_after (log ++ t ∷ []))) (sym unit)
    (subst (λ (x : Layout). IsChanged at.next world.shape.unit (gone_of t.entry.event at.groups) (fresh_of t.entry.event) at.groups x.groups (bytes_after log) (bytes_after (log ++ t ∷ []))) push next.changed) in
    let here = spared_next (moment_at world t.entry.epoch) world.level (length log) (length log + 1) log b old kept places l at t.payload (bytes_after (log ++ t ∷ [])) t.entry.event unit same sound legal.0.event
    changed parts.0 s in
    subst (λ (all : List NotedEntry). IsSpared b old kept places l (layout_after world.level all)) (append_assoc log (t ∷ []) ts)
    (spared ts world (log ++ t ∷ []) b old kept places l is level requests.1 (omega (arith, limit, one)) unit same
    (subst (λ (n : ℕ). IsSound world.shape.unit n (layout_after world.level (log ++ t ∷ [])) (bytes_after (log ++ t ∷ []))) (sym one) next.sound) legal.1
    (subst (λ (n : ℕ). cause_in (entries_of ts) n b old kept places ≡ None) (sym one) parts.1)
    (subst (IsSpared b old kept places l) (sym push) here))
