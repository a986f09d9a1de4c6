-- A file after further entries.
use Rattle.std.proofs.Common.{◌≡◌, ℕ, ◌+◌, ◌<◌, ◌≤◌, inl, inr, List, [], ◌∷◌, ◌++◌, length, refl, sym, ap, subst, ◌∙◌, arith, append_assoc, append-nil, length-append, lit≤}
use Rattle.std.specs.List.{AllByRecursion}
use Rattle.std.proofs.lemmas.Bool.{false≢true}
use Rattle.domains.specs.Shape.{IsShape}
use Rattle.domains.specs.Level.{IsLevel}
use Rattle.domains.specs.declared.group.Group.{Group}
use Rattle.inode_codec.specs.Inode.{AreGenerations}
use Rattle.file_history.specs.World.{World, moment_at}
use Rattle.file_history.specs.Bytes.{bytes_after}
use Rattle.file_history.specs.Layout.{Layout, layout_after}
use Rattle.file_history.specs.Step.{IsFileStepWhere, IsLegalFrom}
use Rattle.file_history.specs.Stored.{HoldsGroup}
use Rattle.file_history.specs.declared.entry.NotedEntry.{NotedEntry}
use Rattle.file_history.proofs.HistoryGrowth.{bytes_after-push, layout_after-push}
use Rattle.map_changes.proofs.Pairs.{All-left, All-right}
use Rattle.map_laws.specs.MappedGroups.{IsMapped, StandsFrom}
use Rattle.map_laws.specs.Limits.{IsWithinLimits, RequestsLevel}
use Rattle.map_laws.specs.Laws.{InodesAreSpelled, MappedGenerationsStay, MappedGroupsKeepBytes, MappedGroupsStayStored, MappedGroupsStood}
use Rattle.map_laws.proofs.StandingGroups.{stands-all}
use Rattle.map_laws.proofs.ChangedRuns.{Stays, stays}
use Rattle.map_laws.proofs.SoundFiles.{IsNext, IsSound, sound_next}
use Rattle.map_laws.proofs.EventGroups.{fresh_of, gone_of}

-- a later file: each group of its map whose generation is no new one stays
pub record IsLater (unit : ℕ) (l later : Layout) (bytes later_bytes : List ℕ) : Type 0 where
  pub next : l.next ≤ later.next
  pub stays : (g : Group) (first : ℕ) → IsMapped later.groups g first → g.generation < l.next → Stays unit l.groups bytes later_bytes g first

-- what holds after the whole log, of a file that was sound after the log's first part
pub record IsReached (world : World) (log all : List NotedEntry) : Type 0 where
  pub sound : IsSound world.shape.unit (length all) (layout_after world.level all) (bytes_after all)
  pub later : IsLater world.shape.unit (layout_after world.level log) (layout_after world.level all) (bytes_after log) (bytes_after all)

same_file : (unit : ℕ) (l : Layout) (bytes : List ℕ) → IsLater unit l l bytes bytes
same_file unit l bytes = record { next = omega arith; stays = λ g first mapped early. record { stood = mapped; bytes = refl } }

-- one entry more
one_later : (unit count : ℕ) (gone : List ℕ) (fresh : List Group) (l after later : Layout) (bytes after_bytes later_bytes : List ℕ) → IsNext unit count gone fresh l after bytes after_bytes
    → IsLater unit after later after_bytes later_bytes → IsLater unit l later bytes later_bytes
one_later unit count gone fresh l after later bytes after_bytes later_bytes step rest = record {
  next = let a = step.later in let b = rest.next in omega (arith, a, b);
  stays = λ g first mapped early.
      let a = step.later in
      let stood = rest.stays g first mapped (omega (arith, a, early)) in
      let here = stays l.next unit gone fresh l.groups after.groups bytes after_bytes step.changed g first stood.stood early in
      record { stood = here.stood; bytes = stood.bytes ∙ here.bytes };
}

-- the step of one entry, as the log with it says
pub step : (world : World) (log : List NotedEntry) (t : NotedEntry) → IsShape world.shape → IsLevel world.level → RequestsLevel t.entry.event
    → length log + 1 ≤ 4194304 → IsSound world.shape.unit (length log) (layout_after world.level log) (bytes_after log) → IsFileStepWhere ⊥ world log t
    → IsNext world.shape.unit (length log) (gone_of t.entry.event (layout_after world.level log).groups) (fresh_of t.entry.event)
    (layout_after world.level log) (layout_after world.level (log ++ t ∷ [])) (bytes_after log) (bytes_after (log ++ t ∷ []))
step world log t is level requests limit sound legal =
    subst (λ (x : Layout × List ℕ). IsNext world.shape.unit (length log) (gone_of t.entry.event (layout_after world.level log).groups) (fresh_of t.entry.event) (layout_after world.level log) x.0 (bytes_after log) x.1)
    (λ i. (sym (layout_after-push world.level log t) i, sym (bytes_after-push log t) i))
    (sound_next (moment_at world t.entry.epoch) world.level (length log) log (layout_after world.level log) t.payload t.entry.event is level requests limit sound legal.event)

pub reached : (more : List NotedEntry) (world : World) (log : List NotedEntry) → IsShape world.shape → IsLevel world.level
    → AllByRecursion (λ (t : NotedEntry). RequestsLevel t.entry.event) more → length log + length more ≤ 4194304
    → IsSound world.shape.unit (length log) (layout_after world.level log) (bytes_after log) → IsLegalFrom more ⊥ world log → IsReached world log (log ++ more)
reached [] world log is level requests limit sound legal =
    subst (λ (all : List NotedEntry). IsReached world log all) (sym (append-nil log))
    (record { sound = sound; later = same_file world.shape.unit (layout_after world.level log) (bytes_after log) })
reached (t ∷ ts) world log is level requests limit sound legal =
    let one = length-append log (t ∷ []) in
    let next = step world log t is level requests.0 (omega (arith, limit)) sound legal.0 in
    let rest = reached ts world (log ++ t ∷ []) is level requests.1 (omega (arith, limit, one))
    (subst (λ (n : ℕ). IsSound world.shape.unit n (layout_after world.level (log ++ t ∷ [])) (bytes_after (log ++ t ∷ []))) (sym one) next.sound) legal.1 in
    subst (λ (all : List NotedEntry). IsReached world log all) (append_assoc log (t ∷ []) ts)
    (record {
      sound = rest.sound;
      later = one_later world.shape.unit (length log) (gone_of t.entry.event (layout_after world.level log).groups) (fresh_of t.entry.event) (layout_after world.level log) (layout_after world.level (log ++ t ∷ []))
          (layout_after world.level ((log ++ t ∷ []) ++ ts)) (bytes_after log) (bytes_after (log ++ t ∷ [])) (bytes_after ((log ++ t ∷ []) ++ ts)) next rest.later;
    })

pub legal_parts : (log more : List NotedEntry) (world : World) (before : List NotedEntry) → IsLegalFrom (log ++ more) ⊥ world before
    → IsLegalFrom log ⊥ world before × IsLegalFrom more ⊥ world (before ++ log)
legal_parts [] more world before legal = (tt, subst (IsLegalFrom more ⊥ world) (sym (append-nil before)) legal)
legal_parts (t ∷ ts) more world before legal =
    let rest = legal_parts ts more world (before ++ t ∷ []) legal.1 in (
      (legal.0, rest.0),
      subst (IsLegalFrom more ⊥ world) (append_assoc before (t ∷ []) ts) rest.1,
    )

-- a file without entries
empty_sound : (world : World) → IsLevel world.level → IsSound world.shape.unit 0 (layout_after world.level []) []
empty_sound world level = record {
  level = level;
  size = refl;
  used = tt;
  few = lit≤ tt;
  differ = tt;
  spelled = λ there. absurd (false≢true there);
}

-- a file after a legal log
pub sound_log : (world : World) (log : List NotedEntry) → IsWithinLimits world log → IsLegalFrom log ⊥ world []
    → IsSound world.shape.unit (length log) (layout_after world.level log) (bytes_after log)
sound_log world log limits legal =
    let most = limits.entries in
    (reached log world [] limits.cluster limits.declared limits.levels (omega (arith, most)) (empty_sound world limits.declared) legal).sound

pub within_front : (world : World) (log more : List NotedEntry) → IsWithinLimits world (log ++ more) → IsWithinLimits world log
within_front world log more limits = record {
  cluster = limits.cluster;
  declared = limits.declared;
  levels = All-left (λ (t : NotedEntry). RequestsLevel t.entry.event) log more limits.levels;
  entries = let most = limits.entries in let whole = length-append log more in omega (arith, most, whole);
}

-- and after more entries
pub later_log : (world : World) (log more : List NotedEntry) → IsWithinLimits world (log ++ more) → IsLegalFrom (log ++ more) ⊥ world []
    → IsReached world log (log ++ more)
later_log world log more limits legal =
    let parts = legal_parts log more world [] legal in
    let most = limits.entries in
    let whole = length-append log more in
    reached more world log limits.cluster limits.declared (All-right (λ (t : NotedEntry). RequestsLevel t.entry.event) log more limits.levels)
    (omega (arith, most, whole)) (sound_log world log (within_front world log more limits) parts.0) parts.1

pub inodes_are_spelled : InodesAreSpelled
inodes_are_spelled world log limits legal present = (sound_log world log limits legal).spelled present

pub mapped_groups_stood : MappedGroupsStood
mapped_groups_stood world log more g first limits legal mapped early = ((later_log world log more limits legal).later.stays g first mapped early).stood

pub mapped_groups_keep_bytes : MappedGroupsKeepBytes
mapped_groups_keep_bytes world log more g first limits legal mapped early = ((later_log world log more limits legal).later.stays g first mapped early).bytes

pub mapped_groups_stay_stored : MappedGroupsStayStored
mapped_groups_stay_stored world log more g first held limits legal mapped early holds =
    subst (HoldsGroup held world.shape.unit g) (sym (mapped_groups_keep_bytes world log more g first limits legal mapped early)) holds

-- a generation has one group in a map
pub one_group : (gs : List Group) (start : ℕ) (g h : Group) (first last : ℕ) → AreGenerations gs → StandsFrom gs start g first → StandsFrom gs start h last
    → g.generation ≡ h.generation → (h ≡ g) × (last ≡ first)
one_group [] start g h first last differ a b same = absurd a
one_group (k ∷ ks) start g h first last differ (inl a) (inl b) same = (sym b.0 ∙ a.0, sym b.1 ∙ a.1)
one_group (k ∷ ks) start g h first last differ (inl a) (inr b) same =
    absurd (stands-all (λ (x : Group). k.generation ≡ x.generation → ⊥) ks (start + k.n) h last differ.0 b (ap (λ (x : Group). x.generation) a.0 ∙ same))
one_group (k ∷ ks) start g h first last differ (inr a) (inl b) same =
    absurd (stands-all (λ (x : Group). k.generation ≡ x.generation → ⊥) ks (start + k.n) g first differ.0 a (ap (λ (x : Group). x.generation) b.0 ∙ sym same))
one_group (k ∷ ks) start g h first last differ (inr a) (inr b) same = one_group ks (start + k.n) g h first last differ.1 a b same

pub mapped_generations_stay : MappedGenerationsStay
mapped_generations_stay world log more g h first last limits legal before after same =
    let r = later_log world log more limits legal in
    let sound = sound_log world log (within_front world log more limits) (legal_parts log more world [] legal).0 in
    let l = layout_after world.level log in
    let used : g.generation < l.next = stands-all (λ (x : Group). x.generation < l.next) l.groups 0 g first sound.used before in
    let stood = r.later.stays h last after (omega (arith, used, same)) in
    one_group l.groups 0 g h first last sound.differ before stood.stood same
