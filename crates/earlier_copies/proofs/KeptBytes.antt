-- The new groups of a write that was made ready on an earlier copy hold the same bytes then and now.
use Rattle.std.proofs.Common.{◌≡◌, ℕ, ◌+◌, ◌-◌, ◌*◌, ◌/◌, ◌<◌, ◌≤◌, max, ◌⊎◌, inl, inr, List, [], ◌∷◌, ◌++◌, length, take, drop, refl, sym, ap, subst, ◌∙◌, arith}
use Rattle.std.proofs.lemmas.Bool.{cases_lt}
use Rattle.std.proofs.lemmas.Nat.{div-add-mod', mod_below}
use Rattle.std.proofs.lemmas.List.{get_or_past, length-take}
use Rattle.std.proofs.lemmas.List.Sums.{sum_by-append, sum_by-cons}
use Rattle.domains.specs.declared.group.Group.{Group}
use Rattle.inode_codec.specs.Inode.{data_units, units_for}
use Rattle.file_history.specs.World.{World, moment_at}
use Rattle.file_history.specs.Bytes.{bytes_after, overwrite}
use Rattle.file_history.specs.Layout.{Layout, layout_after}
use Rattle.file_history.specs.WriteRule.{affected_groups, generations_of}
use Rattle.file_history.specs.Step.{IsLegalLogWhere}
use Rattle.file_history.specs.declared.entry.NotedEntry.{NotedEntry}
use Rattle.map_changes.specs.ChangedMaps.{first_of}
use Rattle.map_changes.proofs.SplicedLists.{in_three}
use Rattle.write_rule.specs.NewBytes.{padded_slice}
use Rattle.write_rule.specs.Runs.{IsAffectedRun, last_unit}
use Rattle.write_rule.proofs.NewBytesByPlace.{at, overwrite_before, overwrite_behind, overwrite_within, slice_at}
use Rattle.map_laws.specs.Limits.{IsWithinLimits}
use Rattle.map_laws.specs.MappedGroups.{IsMapped, StandsFrom, bytes_of_units}
use Rattle.map_laws.proofs.StandingGroups.{stands-all, stands-left, stands-right}
use Rattle.map_laws.proofs.ChangedRuns.{same_slices}
use Rattle.map_laws.proofs.SoundFiles.{chunks}
use Rattle.earlier_copies.specs.ReadyWrites.{IsReady, ReadyWrite, Spares, last_generation, numbered}
use Rattle.earlier_copies.specs.Laws.{EarlierWritesKeepBytes, run_bytes, units_before}
use Rattle.earlier_copies.proofs.AffectedAgain.{AreCopies}
use Rattle.earlier_copies.proofs.MadeWrites.{copies, first, many, reach, sound, valid}
use Rattle.earlier_copies.proofs.MadeNow.{again_is, f2, n2, old_units, r1, r2, same_start}

-- the run that a write replaces begins with the first group that it names
units_before_run : (unit : ℕ) (l : Layout) (offset len width first count : ℕ) (w : ReadyWrite) → w.old ≡ generations_of (affected_groups unit l offset len width)
    → IsAffectedRun unit l offset len width first count → units_before l w ≡ data_units (take first l.groups)
units_before_run unit l offset len width first count w is r =
    let within = r.within in
    let taken = length-take first l.groups in
    ap (λ (o : List ℕ). data_units (take (first_of o l.groups) l.groups)) is
    ∙ ap (λ (gs : List Group). data_units (take (length gs) l.groups)) r.before
    ∙ ap (λ (n : ℕ). data_units (take n l.groups)) (omega (arith, within, taken))

two_parts : (a b unit : ℕ) → (a + b) * unit ≡ a * unit + b * unit
two_parts a b unit = grind arith

-- what holds in each group of a run holds in the run
over_run : (run : List Group) (start unit : ℕ) (P : ℕ → Type 0)
    → ((g : Group) (first : ℕ) → StandsFrom run start g first → (i : ℕ) → first * unit ≤ i → i < (first + g.n) * unit → P i)
    → (i : ℕ) → start * unit ≤ i → i < (start + data_units run) * unit → P i
over_run [] start unit P each i from below = let same = ap (λ (n : ℕ). n * unit) (none start) in absurd (omega (arith, from, below, same))
  where
    none : (s : ℕ) → s + data_units [] ≡ s
    none s = omega arith
over_run (r ∷ rs) start unit P each i from below = elim (cases_lt i ((start + r.n) * unit)) [
  | inl here ↦ each r start (inl (refl, refl)) i from here
  | inr past ↦
      over_run rs (start + r.n) unit P (λ g first stands. each g first (inr stands)) i past
      (subst (λ (n : ℕ). i < n * unit) (whole start) below)
]
  where
    whole : (s : ℕ) → s + data_units (r ∷ rs) ≡ s + r.n + data_units rs
    whole s = let all = sum_by-cons (λ (g : Group). g.n) r rs in omega (arith, all)

-- a file has no byte behind its units
units_hold : (unit size : ℕ) → 1 ≤ unit → size ≤ units_for unit size * unit
units_hold unit size wide =
    let parts = div-add-mod' (size + (unit - 1)) unit in
    let rest = mod_below (size + (unit - 1)) unit (omega (arith, wide)) in
    omega (arith, parts, rest, wide)

numbered-units : (gs : List Group) (next : ℕ) → data_units (numbered gs next) ≡ data_units gs
numbered-units [] next = refl
numbered-units (g ∷ gs) next =
    let one = sum_by-cons (λ (h : Group). h.n) (record g { generation = next }) (numbered gs (next + 1)) in
    let other = sum_by-cons (λ (h : Group). h.n) g gs in
    let rest = numbered-units gs (next + 1) in
    omega (arith, one, other, rest)

-- bytes that are the same around a payload are the same with it between them
same_written : (old new payload : List ℕ) (offset i : ℕ) → at new i ≡ at old i → at (overwrite new offset payload) i ≡ at (overwrite old offset payload) i
same_written old new payload offset i same = elim (cases_lt i offset) [
  | inl early ↦ overwrite_before new offset payload i early ∙ same ∙ sym (overwrite_before old offset payload i early)
  | inr past ↦ elim (cases_lt i (offset + length payload)) [
    | inl here ↦ overwrite_within new offset payload i past here ∙ sym (overwrite_within old offset payload i past here)
    | inr beyond ↦ overwrite_behind new offset payload i beyond ∙ same ∙ sym (overwrite_behind old offset payload i beyond)
  ]
]

-- a byte of a slice that is the same
by_slice : (old new : List ℕ) (first n unit i : ℕ) → bytes_of_units unit new first n ≡ bytes_of_units unit old first n → first * unit ≤ i → i < (first + n) * unit
    → at new i ≡ at old i
by_slice old new first n unit i same from below =
    let parts = two_parts first n unit in
    let inside : i - first * unit < n * unit = omega (arith, from, below, parts) in
    ap (at new) (back (first * unit) i from)
    ∙ sym (slice_at new (first * unit) (n * unit) (i - first * unit) inside)
    ∙ ap (λ (l : List ℕ). at l (i - first * unit)) same
    ∙ slice_at old (first * unit) (n * unit) (i - first * unit) inside
    ∙ sym (ap (at old) (back (first * unit) i from))
  where
    back : (a i : ℕ) → a ≤ i → i ≡ a + (i - a)
    back a i from = omega (arith, from)

module _ (world : World) (log more : List NotedEntry) (earlier : ℕ) (w : ReadyWrite)
    (limits : IsWithinLimits world (log ++ more)) (legal : IsLegalLogWhere ⊥ world (log ++ more))
    (ready : IsReady (moment_at world earlier) log (layout_after world.level log) w)
    (spares : Spares world.shape.unit (last_generation (layout_after world.level (log ++ more)).groups) w log more) where
  abbrev old_l : Layout
  old_l = layout_after world.level log

  abbrev new_l : Layout
  new_l = layout_after world.level (log ++ more)

  abbrev f1 : ℕ
  f1 = first world log more earlier w limits legal ready spares

  abbrev n1 : ℕ
  n1 = many world log more earlier w limits legal ready spares

  abbrev old_run : List Group
  old_run = take (many world log more earlier w limits legal ready spares) (drop (first world log more earlier w limits legal ready spares) (layout_after world.level log).groups)

  abbrev s : ℕ
  s = data_units (take (first world log more earlier w limits legal ready spares) (layout_after world.level log).groups)

  k : AreCopies (w.offset / world.shape.unit) (last_unit world.shape.unit w.offset (length w.payload)) ready.legal.width
      (units_for world.shape.unit (layout_after world.level log).size) (units_for world.shape.unit (layout_after world.level (log ++ more)).size)
      (layout_after world.level log).groups (layout_after world.level (log ++ more)).groups
      (take (first world log more earlier w limits legal ready spares) (layout_after world.level log).groups)
      (take (many world log more earlier w limits legal ready spares) (drop (first world log more earlier w limits legal ready spares) (layout_after world.level log).groups))
      (drop (first world log more earlier w limits legal ready spares + many world log more earlier w limits legal ready spares) (layout_after world.level log).groups)
  k = copies world log more earlier w limits legal ready spares

  -- the bytes of the run are as they were
  in_run : (i : ℕ) → s * world.shape.unit ≤ i → i < (s + data_units old_run) * world.shape.unit → at (bytes_after (log ++ more)) i ≡ at (bytes_after log) i
  in_run =
      over_run old_run s world.shape.unit (λ (i : ℕ). at (bytes_after (log ++ more)) i ≡ at (bytes_after log) i)
      (λ g f stands i from below.
      let there : IsMapped old_l.groups g f =
      subst (λ (gs : List Group). IsMapped gs g f) (sym (in_three old_l.groups f1 n1))
      (stands-right (take f1 old_l.groups) (old_run ++ drop (f1 + n1) old_l.groups) 0 g f
      (stands-left old_run (drop (f1 + n1) old_l.groups) (0 + s) g f (subst (λ (n : ℕ). StandsFrom old_run n g f) (omega arith) stands))) in
      let early : g.generation < old_l.next =
      stands-all (λ (x : Group). x.generation < old_l.next) old_l.groups 0 g f (sound world log more earlier w limits legal ready spares).used there in
      by_slice (bytes_after log) (bytes_after (log ++ more)) f g.n world.shape.unit i
      ((reach world log more earlier w limits legal ready spares).later.stays g f (k.kept g f stands) early).bytes from below)

  -- behind it the file has none, then or now, if the write reaches there
  past_run : (i : ℕ) → (s + data_units old_run) * world.shape.unit ≤ i → s + data_units old_run ≤ last_unit world.shape.unit w.offset (length w.payload)
      → at (bytes_after (log ++ more)) i ≡ at (bytes_after log) i
  past_run i from reaches = elim k.ends [
    | inl last ↦
        let all = ap data_units k.parted in
        let one = sum_by-append (λ (g : Group). g.n) (take f1 old_l.groups) (old_run ++ drop (f1 + n1) old_l.groups) in
        let two = sum_by-append (λ (g : Group). g.n) old_run (drop (f1 + n1) old_l.groups) in
        let empty = ap data_units last in
        let whole = k.whole in
        let old_end : s + data_units old_run ≡ units_for world.shape.unit old_l.size = omega (arith, all, one, two, empty, whole) in
        let same = k.units (omega (arith, old_end, reaches)) in
        let least = (valid world log more earlier w limits legal ready spares).least_unit in
        let old_fits = units_hold world.shape.unit old_l.size (omega (arith, least)) in
        let new_fits = units_hold world.shape.unit new_l.size (omega (arith, least)) in
        let old_most = ap (λ (n : ℕ). n * world.shape.unit) old_end in
        let new_most = ap (λ (n : ℕ). n * world.shape.unit) same in
        let old_size = (sound world log more earlier w limits legal ready spares).size in
        let new_size = (reach world log more earlier w limits legal ready spares).sound.size in
        get_or_past (bytes_after (log ++ more)) i 0 (omega (arith, from, new_fits, new_most, old_most, new_size))
        ∙ sym (get_or_past (bytes_after log) i 0 (omega (arith, from, old_fits, old_most, old_size)))
    | inr past ↦ absurd (omega (arith, past, reaches))
  ]

  -- the new groups reach as far as the write, or the run
  new_end : s + data_units w.new ≡ max (last_unit world.shape.unit w.offset (length w.payload) + 1) (s + data_units old_run)
  new_end =
      let count = chunks (numbered w.new old_l.next) _ ready.legal.width ready.legal.chunks in
      let same = numbered-units w.new old_l.next in
      let units = old_units world log more earlier w limits legal ready spares in
      omega (arith, count, same, units)

  same_bytes : (i : ℕ) → s * world.shape.unit ≤ i → i < (s + data_units w.new) * world.shape.unit → at (bytes_after (log ++ more)) i ≡ at (bytes_after log) i
  same_bytes i from below = elim (cases_lt i ((s + data_units old_run) * world.shape.unit)) [
    | inl here ↦ in_run i from here
    | inr past ↦ past_run i past (reaches (cases_lt (last_unit world.shape.unit w.offset (length w.payload)) (s + data_units old_run)) past)
  ]
    where
      reaches : (last_unit world.shape.unit w.offset (length w.payload) < s + data_units old_run) ⊎ (s + data_units old_run ≤ last_unit world.shape.unit w.offset (length w.payload))
          → (s + data_units old_run) * world.shape.unit ≤ i → s + data_units old_run ≤ last_unit world.shape.unit w.offset (length w.payload)
      reaches (inr far) past = far
      reaches (inl near) past =
          let end = new_end in
          let same : s + data_units w.new ≡ s + data_units old_run = omega (arith, end, near) in
          let most = ap (λ (n : ℕ). n * world.shape.unit) same in
          absurd (omega (arith, most, past, below))

  pub kept_bytes : run_bytes world.shape.unit (layout_after world.level (log ++ more)) (bytes_after (log ++ more)) w
      ≡ run_bytes world.shape.unit (layout_after world.level log) (bytes_after log) w
  kept_bytes =
      let unit : ℕ = world.shape.unit in
      let before = units_before_run unit old_l w.offset (length w.payload) ready.legal.width f1 n1 w ready.legal.old (r1 world log more earlier w limits legal ready spares) in
      let before_now =
      units_before_run unit new_l w.offset (length w.payload) ready.legal.width (f2 world log more earlier w limits legal ready spares) (n2 world log more earlier w limits legal ready spares) w
      (ready.legal.old ∙ ap generations_of ((r1 world log more earlier w limits legal ready spares).run ∙ sym (again_is world log more earlier w limits legal ready spares)))
      (r2 world log more earlier w limits legal ready spares) ∙ same_start world log more earlier w limits legal ready spares in
      ap (λ (n : ℕ). padded_slice (overwrite (bytes_after (log ++ more)) w.offset w.payload) (n * unit) (data_units w.new * unit)) before_now
      ∙ same_slices (overwrite (bytes_after log) w.offset w.payload) (overwrite (bytes_after (log ++ more)) w.offset w.payload) (s * unit) (data_units w.new * unit)
      (λ j below.
      same_written (bytes_after log) (bytes_after (log ++ more)) w.payload w.offset (s * unit + j)
      (same_bytes (s * unit + j) (omega arith) (let parts = two_parts s (data_units w.new) unit in omega (arith, below, parts))))
      ∙ sym (ap (λ (n : ℕ). padded_slice (overwrite (bytes_after log) w.offset w.payload) (n * unit) (data_units w.new * unit)) before)

pub earlier_writes_keep_bytes : EarlierWritesKeepBytes
earlier_writes_keep_bytes world log more earlier w limits legal ready spares = kept_bytes world log more earlier w limits legal ready spares
