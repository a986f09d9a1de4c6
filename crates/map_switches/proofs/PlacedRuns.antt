-- The run of groups that a placement replaces, and the groups that it puts there.
use Rattle.std.proofs.Common.{◌≡◌, ℕ, suc, ◌+◌, ◌-◌, ◌≤◌, Bool, true, false, ◌||◌, ◌==◌, not, cond, inl, inr, List, [], ◌∷◌, ◌++◌, length, map, take, drop, refl, sym, ap, subst, ◌∙◌, arith, append_assoc}
use Rattle.std.specs.Prelude.{take_while, filter}
use Rattle.std.specs.List.{AllByRecursion}
use Rattle.std.proofs.lemmas.Bool.{cases_Bool, cases_eq, ne_eqb, eq-eqb}
use Rattle.std.proofs.lemmas.List.Sums.{sum_by-cons, take_while-cons}
use Rattle.domains.specs.Place.{IsPlaceOf, Place}
use Rattle.domains.specs.AtLevel.{AtLevel}
use Rattle.domains.specs.declared.group.Group.{Group}
use Rattle.inode_codec.specs.Inode.{data_units}
use Rattle.file_history.specs.World.{Moment}
use Rattle.file_history.specs.Layout.{Layout, is_among, places_of, replaced}
use Rattle.file_history.specs.Step.{AreKeptOrNew, HasPlaceForm, IsNewPlace, Places, Repairs, Reshapes}
use Rattle.file_history.specs.WriteRule.{AreChunks, generations_of}
use Rattle.file_history.specs.declared.entry.Change.{Change}
use Rattle.map_changes.specs.ChangedMaps.{first_of, spliced}
use Rattle.map_changes.proofs.Pairs.{All-append, All-drop, All-right, All-take}
use Rattle.map_switches.specs.Switches.{run_of}

-- what passes from the start on is the front of the list
take_front : (p : Group → Bool) (gs : List Group) → take (length (take_while p gs)) gs ≡ take_while p gs
take_front p [] = refl
take_front p (g ∷ gs) = elim (cases_Bool (p g)) [
  | inl passed ↦
      let is = take_while-cons p g gs ∙ ap (λ (b : Bool). cond b (g ∷ take_while p gs) []) passed in
      subst (λ (l : List Group). take (length l) (g ∷ gs) ≡ l) (sym is) (ap (λ (l : List Group). g ∷ l) (take_front p gs))
  | inr stops ↦
      let is = take_while-cons p g gs ∙ ap (λ (b : Bool). cond b (g ∷ take_while p gs) []) stops in
      subst (λ (l : List Group). take (length l) (g ∷ gs) ≡ l) (sym is) refl
]

-- groups in the place of old ones stand where the first of these stood
pub replaced_spliced : (old : List ℕ) (new gs : List Group) → replaced old new gs ≡ spliced gs (first_of old gs) (length old) new
replaced_spliced old new gs =
    let front = take_while (λ (g : Group). not (is_among old g.generation)) gs in
    append_assoc front new (drop (length front + length old) gs)
    ∙ ap (λ (l : List Group). l ++ (new ++ drop (length front + length old) gs)) (sym (take_front (λ (g : Group). not (is_among old g.generation)) gs))

-- the groups with this generation
abbrev having : ℕ → List Group → List Group
having generation groups = filter (λ (g : Group). g.generation == generation) groups

-- the run of one generation, which is in the map
record IsFound (g : Group) (gs : List Group) (first : ℕ) : Type 0 where
  within : first + 1 ≤ length gs
  run : take 1 (drop first gs) ≡ g ∷ []

head_of : Group → List Group → Group
head_of d [] = d
head_of d (g ∷ gs) = g

found : (gs : List Group) (g : Group) → having g.generation gs ≡ g ∷ [] → IsFound g gs (first_of (g.generation ∷ []) gs)
unfolding head_of
found [] g one = absurd (omega (arith, long))
  where
    long : 0 ≡ length (g ∷ [])
    long = ap (λ (l : List Group). length l) one
found (h ∷ hs) g one = elim (cases_eq h.generation g.generation) [
  | inl same ↦
      let all : h ∷ having g.generation hs ≡ g ∷ [] =
      sym (ap (λ (b : Bool). cond b (h ∷ having g.generation hs) (having g.generation hs)) (eq-eqb h.generation g.generation same)) ∙ one in
      let first = stop h hs g (ap (λ (b : Bool). not (b || false)) (eq-eqb g.generation h.generation (sym same))) in
      subst (IsFound g (h ∷ hs)) (sym first) (record { within = omega arith; run = ap (λ (x : Group). x ∷ []) (ap (head_of h) all) })
  | inr differ ↦
      let rest : having g.generation hs ≡ g ∷ [] =
      sym (ap (λ (b : Bool). cond b (h ∷ having g.generation hs) (having g.generation hs)) (ne_eqb h.generation g.generation differ)) ∙ one in
      let later = found hs g rest in
      let first = next h hs g (ap (λ (b : Bool). not (b || false)) (ne_eqb g.generation h.generation (λ same. differ (sym same)))) in
      let within = later.within in
      subst (IsFound g (h ∷ hs)) (sym first) (record { within = omega (arith, within); run = later.run })
]
  where
    stop : (h : Group) (hs : List Group) (g : Group) → not (is_among (g.generation ∷ []) h.generation) ≡ false → first_of (g.generation ∷ []) (h ∷ hs) ≡ 0
    stop h hs g stops =
        ap (λ (l : List Group). length l)
        (take_while-cons (λ (x : Group). not (is_among (g.generation ∷ []) x.generation)) h hs
        ∙ ap (λ (b : Bool). cond b (h ∷ take_while (λ (x : Group). not (is_among (g.generation ∷ []) x.generation)) hs) []) stops)

    next : (h : Group) (hs : List Group) (g : Group) → not (is_among (g.generation ∷ []) h.generation) ≡ true
        → first_of (g.generation ∷ []) (h ∷ hs) ≡ suc (first_of (g.generation ∷ []) hs)
    next h hs g passed =
        ap (λ (l : List Group). length l)
        (take_while-cons (λ (x : Group). not (is_among (g.generation ∷ []) x.generation)) h hs
        ∙ ap (λ (b : Bool). cond b (h ∷ take_while (λ (x : Group). not (is_among (g.generation ∷ []) x.generation)) hs) []) passed)

-- groups that share a number of units have as many in all
chunks : (gs : List Group) (count width : ℕ) → AreChunks count width (map (λ (g : Group). g.n) gs) → data_units gs ≡ count
chunks [] count width are = sym are
chunks (g ∷ []) count width are = let units = sum_by-cons (λ (k : Group). k.n) g [] in let same = are.0 in omega (arith, units, same)
chunks (g ∷ h ∷ gs) count width are =
    let units = sum_by-cons (λ (k : Group). k.n) g (h ∷ gs) in
    let same = are.0 in
    let below = are.1 in
    let rest = chunks (h ∷ gs) (count - g.n) width are.2 in
    omega (arith, units, same, below, rest)

new_within : (now : Moment) (l : Layout) (ss : List Place) → AllByRecursion (IsNewPlace now l) ss → AllByRecursion (IsPlaceOf now.shape) ss
new_within now l [] all = tt
new_within now l (s ∷ ss) all = (record { drive = all.0.drive; slot = all.0.slot }, new_within now l ss all.1)

-- places that are kept, or new
kept_within : (ss ts : List Place) (position : ℕ) (now : Moment) (l : Layout) (generation : ℕ) → AllByRecursion (IsPlaceOf now.shape) ss
    → AreKeptOrNew ss ts position now l generation → AllByRecursion (IsPlaceOf now.shape) ts
kept_within [] [] position now l generation all kept = tt
kept_within [] (t ∷ ts) position now l generation all kept = absurd kept
kept_within (s ∷ ss) [] position now l generation all kept = absurd kept
kept_within (s ∷ ss) (t ∷ ts) position now l generation all kept = (
  elim kept.0 [
    | inl same ↦ subst (IsPlaceOf now.shape) same.0 all.0
    | inr new ↦ record { drive = new.drive; slot = new.slot }
  ],
  kept_within ss ts (position + 1) now l generation all.1 kept.1,
)

-- the new groups of a placement: as many data units, at the level, and with the inode at places of the cluster
pub record AreFitGroups (now : Moment) (l : Layout) (units : ℕ) (new : List Group) (inode : Group) : Type 0 where
  pub units_are : data_units new ≡ units
  pub level : AllByRecursion (λ (g : Group). AtLevel g l.requested) new
  pub places : AllByRecursion (IsPlaceOf now.shape) (places_of new ++ inode.places)

repaired : (now : Moment) (l : Layout) (old g inode : Group) → AllByRecursion (IsPlaceOf now.shape) old.places → Repairs now l old g inode → AreFitGroups now l old.n (g ∷ []) inode
repaired now l old g inode places r = record {
  units_are = let units = sum_by-cons (λ (k : Group). k.n) g [] in let same = r.n in omega (arith, units, same);
  level = (r.level, tt);
  places = All-append (IsPlaceOf now.shape) (g.places ++ []) inode.places
      (All-append (IsPlaceOf now.shape) g.places [] (kept_within old.places g.places 0 now l old.generation places r.kept) tt)
      (new_within now l inode.places (All-right (IsNewPlace now l) _ inode.places r.places.each));
}

reshaped : (now : Moment) (l : Layout) (old : Group) (new : List Group) (inode : Group) → Reshapes now l old new inode → AreFitGroups now l old.n new inode
reshaped now l old new inode r = record {
  units_are = chunks new old.n r.width r.chunks;
  level = r.level;
  places = new_within now l (places_of new ++ inode.places) r.places.each;
}

fit : (now : Moment) (l : Layout) (old : Group) (new : List Group) (inode : Group) → AllByRecursion (IsPlaceOf now.shape) old.places
    → HasPlaceForm now l (old ∷ []) new inode → AreFitGroups now l old.n new inode
fit now l old [] inode places form = absurd form
fit now l old (g ∷ []) inode places (inl repairs) = repaired now l old g inode places repairs
fit now l old (g ∷ []) inode places (inr reshapes) = reshaped now l old (g ∷ []) inode reshapes
fit now l old (g ∷ h ∷ gs) inode places form = reshaped now l old (g ∷ h ∷ gs) inode form

-- a placement replaces the run that its entry names by groups that fit
pub record IsPlacedRun (now : Moment) (l : Layout) (c : Change) : Type 0 where
  pub within : first_of c.old l.groups + length c.old ≤ length l.groups
  pub fit : AreFitGroups now l (data_units (run_of c.old l.groups)) c.new c.inode

no_groups : (now : Moment) (l : Layout) (new : List Group) (inode : Group) → HasPlaceForm now l [] new inode → AreFitGroups now l 0 new inode
no_groups now l [] inode form = record { units_are = refl; level = tt; places = new_within now l inode.places form.each }
no_groups now l (g ∷ gs) inode form = absurd form

front_within : (p : Group → Bool) (gs : List Group) → length (take_while p gs) ≤ length gs
front_within p [] = omega arith
front_within p (g ∷ gs) = elim (cases_Bool (p g)) [
  | inl passed ↦
      let is = ap (λ (l : List Group). length l) (take_while-cons p g gs ∙ ap (λ (b : Bool). cond b (g ∷ take_while p gs) []) passed) in
      let rest = front_within p gs in omega (arith, is, rest)
  | inr stops ↦
      let is = ap (λ (l : List Group). length l) (take_while-cons p g gs ∙ ap (λ (b : Bool). cond b (g ∷ take_while p gs) []) stops) in
      omega (arith, is)
]

runs : (now : Moment) (l : Layout) (old : List Group) (c : Change) → AllByRecursion (λ (g : Group). AllByRecursion (IsPlaceOf now.shape) g.places) l.groups
    → AllByRecursion (λ (g : Group). having g.generation l.groups ≡ g ∷ []) old → HasPlaceForm now l old c.new c.inode → (gens : List ℕ) → gens ≡ generations_of old
    → (first_of gens l.groups + length gens ≤ length l.groups) × AreFitGroups now l (data_units (run_of gens l.groups)) c.new c.inode
runs now l [] c places mapped form gens is =
    subst (λ (o : List ℕ). (first_of o l.groups + length o ≤ length l.groups) × AreFitGroups now l (data_units (run_of o l.groups)) c.new c.inode) (sym is)
    (let within = front_within (λ (g : Group). not (is_among [] g.generation)) l.groups in omega (arith, within), no_groups now l c.new c.inode form)
runs now l (g ∷ []) c places mapped form gens is =
    let there = found l.groups g mapped.0 in
    let first = first_of (g.generation ∷ []) l.groups in
    let stands = (subst (AllByRecursion (λ (h : Group). AllByRecursion (IsPlaceOf now.shape) h.places)) there.run
    (All-take (λ (h : Group). AllByRecursion (IsPlaceOf now.shape) h.places) 1 (drop first l.groups)
    (All-drop (λ (h : Group). AllByRecursion (IsPlaceOf now.shape) h.places) first l.groups places))).0 in
    let units = sum_by-cons (λ (k : Group). k.n) g [] in
    subst (λ (o : List ℕ). (first_of o l.groups + length o ≤ length l.groups) × AreFitGroups now l (data_units (run_of o l.groups)) c.new c.inode) (sym is)
    (there.within, subst (λ (n : ℕ). AreFitGroups now l n c.new c.inode) (sym (ap data_units there.run ∙ omega (arith, units))) (fit now l g c.new c.inode stands form))
runs now l (g ∷ h ∷ gs) c places mapped form gens is = absurd form

pub placed_run : (now : Moment) (l : Layout) (c : Change) → AllByRecursion (λ (g : Group). AllByRecursion (IsPlaceOf now.shape) g.places) l.groups → Places now l c → IsPlacedRun now l c
placed_run now l c places p =
    let run = runs now l p.old c places p.mapped p.form c.old p.generations in record { within = run.0; fit = run.1 }
