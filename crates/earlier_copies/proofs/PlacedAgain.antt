-- The three forms of a placement on a later map.
use Rattle.std.proofs.Common.{◌≡◌, ℕ, ◌+◌, ◌≤◌, ◌==◌, ◌&&◌, Bool, true, false, if◌then◌else◌, cond, inl, inr, List, [], ◌∷◌, ◌++◌, refl, sym, ap, subst, ◌∙◌}
use Rattle.std.specs.Prelude.{filter}
use Rattle.std.specs.List.{AllByRecursion, list_any}
use Rattle.std.proofs.lemmas.Bool.{and_from, cases_eq, eq-eqb, ne_eqb, or_left, or_right}
use Rattle.domains.specs.Place.{Place, same_place}
use Rattle.domains.specs.Level.{Level}
use Rattle.domains.specs.AtLevel.{AtLevel}
use Rattle.domains.specs.declared.group.Group.{Group}
use Rattle.domains.proofs.DriveLemmas.{same_place-self}
use Rattle.inode_codec.specs.Inode.{AreGenerations}
use Rattle.file_history.specs.World.{Moment}
use Rattle.file_history.specs.Layout.{Layout, places_of}
use Rattle.file_history.specs.Live.{is_dead}
use Rattle.file_history.specs.WriteRule.{AreChunks}
use Rattle.file_history.specs.Step.{AreKeptOrNew, AreNewPlaces, IsNewPlace, Repairs, Reshapes}
use Rattle.stale_changes.specs.Staleness.{is_kept}
use Rattle.stale_changes.specs.declared.basis.KeptUnit.{KeptUnit}
use Rattle.map_laws.specs.MappedGroups.{StandsFrom}
use Rattle.map_laws.proofs.StandingGroups.{stands-all}
use Rattle.earlier_copies.specs.ReadyWrites.{numbered}
use Rattle.earlier_copies.specs.ReadyPlaces.{kept_from, places_beside}
use Rattle.earlier_copies.proofs.NumberedGroups.{all_renumbered, numbered-places, numbered-widths, renumbered}

-- the groups with this generation
abbrev pub having : ℕ → List Group → List Group
having generation groups = filter (λ (g : Group). g.generation == generation) groups

head_of : Group → List Group → Group
head_of d [] = d
head_of d (g ∷ gs) = g

-- the one group with its generation stands in the map
pub stands_there : (gs : List Group) (start : ℕ) (g : Group) → having g.generation gs ≡ g ∷ [] → (first : ℕ) × StandsFrom gs start g first
unfolding head_of
stands_there [] start g one = absurd (none one)
  where
    none : [] ≡ g ∷ [] → ⊥
    none h = cc
stands_there (h ∷ hs) start g one = elim (cases_eq h.generation g.generation) [
  | inl same ↦
      let all : h ∷ having g.generation hs ≡ g ∷ [] =
      sym (ap (λ (b : Bool). cond b (h ∷ having g.generation hs) (having g.generation hs)) (eq-eqb h.generation g.generation same)) ∙ one in
      (start, inl (ap (head_of h) all, refl))
  | inr differ ↦
      let rest = stands_there hs (start + h.n) g
      (sym (ap (λ (b : Bool). cond b (h ∷ having g.generation hs) (having g.generation hs)) (ne_eqb h.generation g.generation differ)) ∙ one) in
      (rest.0, inr rest.1)
]

having-none : (gs : List Group) (n : ℕ) → AllByRecursion (λ (h : Group). n ≡ h.generation → ⊥) gs → having n gs ≡ []
having-none [] n differ = refl
having-none (h ∷ hs) n differ =
    ap (λ (b : Bool). cond b (h ∷ having n hs) (having n hs)) (ne_eqb h.generation n (λ same. differ.0 (sym same)))
    ∙ having-none hs n differ.1

-- and a group that stands there is the one with its generation
pub having-one : (gs : List Group) (start : ℕ) (g : Group) (first : ℕ) → AreGenerations gs → StandsFrom gs start g first → having g.generation gs ≡ g ∷ []
having-one [] start g first differ stands = absurd stands
having-one (h ∷ hs) start g first differ (inl here) =
    let same : h.generation ≡ g.generation = ap (λ (x : Group). x.generation) here.0 in
    ap (λ (b : Bool). cond b (h ∷ having g.generation hs) (having g.generation hs)) (eq-eqb h.generation g.generation same)
    ∙ ap (λ (l : List Group). h ∷ l) (having-none hs g.generation (subst (λ (n : ℕ). AllByRecursion (λ (x : Group). n ≡ x.generation → ⊥) hs) same differ.0))
    ∙ ap (λ (x : Group). x ∷ []) here.0
having-one (h ∷ hs) start g first differ (inr later) =
    ap (λ (b : Bool). cond b (h ∷ having g.generation hs) (having g.generation hs))
    (ne_eqb h.generation g.generation (λ same. stands-all (λ (x : Group). h.generation ≡ x.generation → ⊥) hs (start + h.n) g first differ.0 later same))
    ∙ having-one hs (start + h.n) g first differ.1 later

-- places that are none of the old ones are all of these
pub beside-all : (old ss : List Place) → AllByRecursion (λ (s : Place). list_any (same_place s) old ≡ false) ss → places_beside old ss ≡ ss
beside-all old [] apart = refl
beside-all old (s ∷ ss) apart =
    ap (λ (b : Bool). if b then places_beside old ss else s ∷ places_beside old ss) apart.0
    ∙ ap (λ (l : List Place). s ∷ l) (beside-all old ss apart.1)

-- what holds of the places that are none of the old ones holds of each that is none
all_beside : (P Q : Place → Type 0) (old ss : List Place) → AllByRecursion P (places_beside old ss) → ((s : Place) → Q s → list_any (same_place s) old ≡ false)
    → AllByRecursion (λ (s : Place). Q s → P s) ss
all_beside P Q old [] all apart = tt
all_beside P Q old (s ∷ ss) all apart = (
  λ q.
      (subst (AllByRecursion P) (ap (λ (b : Bool). if b then places_beside old ss else s ∷ places_beside old ss) (apart s q)) all).0,
  all_beside P Q old ss (rest (list_any (same_place s) old) all) apart,
)
  where
    rest : (b : Bool) → AllByRecursion P (if b then places_beside old ss else s ∷ places_beside old ss) → AllByRecursion P (places_beside old ss)
    rest true all = all
    rest false all = all.1

-- units that are kept, or new, are so later
kept_again : (ss ts : List Place) (position : ℕ) (was now : Moment) (l later : Layout) (generation : ℕ) (kept : List KeptUnit) → AreKeptOrNew ss ts position was l generation
    → ((n : ℕ) → is_kept kept generation n ≡ true → is_dead l generation n ≡ false → is_dead later generation n ≡ false)
    → ((n : ℕ) → is_kept (kept_from ss ts position generation) generation n ≡ true → is_kept kept generation n ≡ true)
    → AllByRecursion (λ (t : Place). IsNewPlace was l t → IsNewPlace now later t) ts → AreKeptOrNew ss ts position now later generation
kept_again [] [] position was now l later generation kept are alive among news = tt
kept_again [] (t ∷ ts) position was now l later generation kept are alive among news = absurd are
kept_again (s ∷ ss) [] position was now l later generation kept are alive among news = absurd are
kept_again (s ∷ ss) (t ∷ ts) position was now l later generation kept are alive among news = (
  elim are.0 [
    | inl stays ↦ inl (stays.0, alive position (among position (here stays.0)) stays.1)
    | inr new ↦ inr (news.0 new)
  ],
  kept_again ss ts (position + 1) was now l later generation kept are.1 alive (λ n is. among n (further n (same_place s t) is)) news.1,
)
  where
    here : s ≡ t → is_kept (kept_from (s ∷ ss) (t ∷ ts) position generation) generation position ≡ true
    here same =
        ap (λ (b : Bool). is_kept (if b then record { generation = generation; position = position } ∷ kept_from ss ts (position + 1) generation else kept_from ss ts (position + 1) generation) generation position)
        (subst (λ (x : Place). same_place s x ≡ true) same (same_place-self s))
        ∙ or_left ((generation == generation) && (position == position)) (is_kept (kept_from ss ts (position + 1) generation) generation position)
        (and_from (generation == generation) (position == position) (eq-eqb generation generation refl) (eq-eqb position position refl))

    further : (n : ℕ) (b : Bool) → is_kept (kept_from ss ts (position + 1) generation) generation n ≡ true
        → is_kept (if b then record { generation = generation; position = position } ∷ kept_from ss ts (position + 1) generation else kept_from ss ts (position + 1) generation) generation n ≡ true
    further n true is = or_right ((generation == generation) && (position == n)) (is_kept (kept_from ss ts (position + 1) generation) generation n) is
    further n false is = is

-- a repair
pub repairs_again : (was now : Moment) (l later : Layout) (old new inode : Group) (a b c d : ℕ) → l.requested ≡ later.requested
    → ((n : ℕ) → is_kept (kept_from old.places new.places 0 old.generation) old.generation n ≡ true → is_dead l old.generation n ≡ false → is_dead later old.generation n ≡ false)
    → ((s : Place) → IsNewPlace was l s → list_any (same_place s) old.places ≡ false)
    → AllByRecursion (IsNewPlace now later) (places_beside old.places new.places)
    → AreNewPlaces now later (places_beside old.places new.places ++ inode.places)
    → Repairs was l old (record new { generation = a }) (record inode { generation = b })
    → Repairs now later old (record new { generation = c }) (record inode { generation = d })
repairs_again was now l later old new inode a b c d level alive apart news are r = record {
  n = r.n;
  m = r.m;
  level = subst (AtLevel (record new { generation = c })) level (renumbered new a c l.requested r.level);
  kept = kept_again old.places new.places 0 was now l later old.generation (kept_from old.places new.places 0 old.generation) r.kept alive (λ n is. is)
      (all_beside (IsNewPlace now later) (IsNewPlace was l) old.places new.places news apart);
  places = are;
}

-- a new shape
pub reshapes_again : (was now : Moment) (l later : Layout) (old : Group) (new : List Group) (inode : Group) (a b c d : ℕ) → l.requested ≡ later.requested
    → AreNewPlaces now later (places_of new ++ inode.places)
    → Reshapes was l old (numbered new a) (record inode { generation = b }) → Reshapes now later old (numbered new c) (record inode { generation = d })
reshapes_again was now l later old new inode a b c d level are r = record {
  width = r.width;
  some = r.some;
  narrow = subst (λ (v : Level). r.width ≤ v.w) level r.narrow;
  chunks = subst (AreChunks old.n r.width) (numbered-widths new a ∙ sym (numbered-widths new c)) r.chunks;
  level = subst (λ (v : Level). AllByRecursion (λ (g : Group). AtLevel g v) (numbered new c)) level (all_renumbered new a c l.requested r.level);
  places = subst (λ (ss : List Place). AreNewPlaces now later (ss ++ inode.places)) (sym (numbered-places new c)) are;
}
