-- What is stored is determined by its live units.
use Rattle.std.proofs.Common.{◌≡◌, ◌≢◌, ℕ, suc, ◌+◌, ◌-◌, ◌<◌, ◌≤◌, true, false, List, [], ◌∷◌, ◌++◌, length, take, replicate, Option, Some, None, get_or, cond, refl, sym, ap, subst, ◌∙◌, arith}
use Rattle.std.specs.List.{AllByRecursion, flat_map}
use Rattle.std.proofs.Math.Seq.{take-append_seam}
use Rattle.std.proofs.lemmas.List.Elements.{All-cons, All-nil}
use Rattle.std.proofs.lemmas.List.Kept.{AllPairs-cons}
use Rattle.domains.specs.Place.{Place}
use Rattle.domains.specs.declared.group.Group.{Group}
use Rattle.galois.specs.Codeword.{unit_at}
use Rattle.inode_codec.specs.Inode.{IsInodeGroup, inode_bytes}
use Rattle.inode_codec.specs.declared.inode.Inode.{Inode}
use Rattle.inode_codec.proofs.InodeBytes.{inode_bytes-eq}
use Rattle.file_history.specs.World.{Moment}
use Rattle.file_history.specs.Layout.{Layout, group_list}
use Rattle.file_history.specs.Live.{is_live, live_from, live_units}
use Rattle.file_history.specs.Stored.{AreHeld, HoldsGroup, HoldsGroups, SpellsInode, IsStored, inode_of, AgreeOnPlaces}
use Rattle.file_history.specs.Laws.{LiveUnitsDetermine}
use Rattle.file_history.proofs.CodewordAgreement.{AgreeAt, same_codeword}

-- what holds of all of two lists holds of each
pub all_left : {X : Type 0} (P : X → Type 0) (xs ys : List X) → AllByRecursion P (xs ++ ys) → AllByRecursion P xs
all_left P [] ys all = tt
all_left P (x ∷ xs) ys all = (all.0, all_left P xs ys all.1)

pub all_right : {X : Type 0} (P : X → Type 0) (xs ys : List X) → AllByRecursion P (xs ++ ys) → AllByRecursion P ys
all_right P [] ys all = all
all_right P (x ∷ xs) ys all = all_right P xs ys all.1

-- no unit agrees yet
agree_none : (us vs : List (List ℕ)) (first : ℕ) → AgreeAt us vs first 0
agree_none us vs first = record {
  positions = [];
  count = refl;
  different = λ i j d less within. absurd (omega arith);
  from = All-nil (λ (i : ℕ). first ≤ i);
  below = All-nil (λ (i : ℕ). i < first + length us);
  same = All-nil (λ (i : ℕ). unit_at us (i - first) ≡ unit_at vs (i - first));
}

-- units before those that agree
agree_later : (u v : List ℕ) (us vs : List (List ℕ)) (first many : ℕ) → AgreeAt us vs (first + 1) many → AgreeAt (u ∷ us) (v ∷ vs) first many
agree_later u v us vs first many later = record {
  positions = later.positions;
  count = later.count;
  different = later.different;
  from = λ i d within. let far : first + 1 ≤ get_or later.positions i d = later.from i d within in omega (arith, far);
  below = λ i d within. let near : get_or later.positions i d < first + 1 + length us = later.below i d within in omega (arith, near);
  same = λ i d within.
      let p : ℕ = get_or later.positions i d in
      let far : first + 1 ≤ p = later.from i d within in
      let next : p - first ≡ suc (p - (first + 1)) = omega (arith, far) in
      ap (unit_at (u ∷ us)) next ∙ later.same i d within ∙ sym (ap (unit_at (v ∷ vs)) next);
}

-- one unit more that agrees
agree_here : (u v : List ℕ) (us vs : List (List ℕ)) (first many : ℕ) → u ≡ v → AgreeAt us vs (first + 1) many
    → AgreeAt (u ∷ us) (v ∷ vs) first (1 + many)
unfolding agree_later
agree_here u v us vs first many equal later =
    let rest = agree_later u v us vs first many later in
    let none : first - first ≡ 0 = omega arith in
    record {
      positions = first ∷ rest.positions;
      count = omega (arith, rest.count);
      different =
          AllPairs-cons (λ (i j : ℕ). i ≢ j) first rest.positions
          (λ i d within same. let far : first + 1 ≤ get_or rest.positions i d = later.from i d within in absurd (omega (arith, far, same)))
          rest.different;
      from = All-cons (λ (i : ℕ). first ≤ i) first rest.positions (omega arith) rest.from;
      below = All-cons (λ (i : ℕ). i < first + length (u ∷ us)) first rest.positions (omega arith) rest.below;
      same =
          All-cons (λ (i : ℕ). unit_at (u ∷ us) (i - first) ≡ unit_at (v ∷ vs) (i - first)) first rest.positions
          (ap (unit_at (u ∷ us)) none ∙ equal ∙ sym (ap (unit_at (v ∷ vs)) none)) rest.same;
    }

module _ (now : Moment) (l : Layout) (held other : Place → List ℕ) where
  -- units held at the same places agree wherever they are live
  live_agree : (ss : List Place) (us vs : List (List ℕ)) (first generation : ℕ) → AreHeld ss us (λ s. Some (held s))
      → AreHeld ss vs (λ s. Some (other s)) → AgreeOnPlaces ss first now l generation held other
      → AgreeAt us vs first (live_from ss first now l generation)
  live_agree [] us vs first generation hu hv agree = agree_none us vs first
  live_agree (s ∷ ss) [] vs first generation hu hv agree = absurd hu
  live_agree (s ∷ ss) (u ∷ us) [] first generation hu hv agree = absurd hv
  live_agree (s ∷ ss) (u ∷ us) (v ∷ vs) first generation hu hv agree =
      let rest = live_agree ss us vs (first + 1) generation hu.1 hv.1 agree.1 in
      let many : ℕ = live_from ss (first + 1) now l generation in
      elim (is_live now l generation first s)
      as (λ b. (b ≡ true → other s ≡ held s) → AgreeAt (u ∷ us) (v ∷ vs) first (cond b 1 0 + many)) [
        | true ↦ λ same. agree_here u v us vs first many (sym hu.0 ∙ sym (same refl) ∙ hv.0) rest
        | false ↦ λ same. subst (AgreeAt (u ∷ us) (v ∷ vs) first) (sym (zero_add many)) (agree_later u v us vs first many rest)
      ] agree.0
    where
      zero_add : (k : ℕ) → 0 + k ≡ k
      zero_add k = omega arith

  -- a live unit tells the text that all units of both hold
  live_text : (ss : List Place) (text shown : List ℕ) (first generation : ℕ) → AllByRecursion (λ (s : Place). held s ≡ text) ss
      → AllByRecursion (λ (s : Place). other s ≡ shown) ss → AgreeOnPlaces ss first now l generation held other
      → 1 ≤ live_from ss first now l generation → shown ≡ text
  live_text [] text shown first generation ht hs agree some = absurd (omega (arith, some))
  live_text (s ∷ ss) text shown first generation ht hs agree some =
      elim (is_live now l generation first s)
      as (λ b. (b ≡ true → other s ≡ held s) → 1 ≤ cond b 1 0 + live_from ss (first + 1) now l generation → shown ≡ text) [
        | true ↦ λ same any. sym hs.0 ∙ same refl ∙ ht.0
        | false ↦ λ same any. live_text ss text shown (first + 1) generation ht.1 hs.1 agree.1 (omega (arith, any))
      ] agree.0 some

  -- a group with enough live units holds the same bytes
  same_group_bytes : (unit : ℕ) (g : Group) (front shown : List ℕ) → IsInodeGroup g → HoldsGroup (λ s. Some (held s)) unit g front
      → HoldsGroup (λ s. Some (other s)) unit g shown → g.n ≤ live_units now l g
      → AgreeOnPlaces g.places 0 now l g.generation held other → shown ≡ front
  same_group_bytes unit g front shown is mine its enough agree =
      let same : mine.units ≡ its.units =
      same_codeword g.n g.m unit mine.units its.units mine.codeword its.codeword (omega (arith, is.units, is.more)) mine.lengths its.lengths
      (live_units now l g) enough (live_agree g.places mine.units its.units 0 g.generation mine.places its.places agree) in
      sym its.joined ∙ ap (λ (us : List (List ℕ)). flat_map (λ (u : List ℕ). u) (take g.n us)) (sym same) ∙ mine.joined

  -- and so do all groups
  same_bytes : (unit : ℕ) (gs : List Group) (bytes shown : List ℕ) → AllByRecursion IsInodeGroup gs
      → HoldsGroups gs bytes unit (λ s. Some (held s)) → HoldsGroups gs shown unit (λ s. Some (other s))
      → AllByRecursion (λ (g : Group). g.n ≤ live_units now l g) gs
      → AllByRecursion (λ (g : Group). AgreeOnPlaces g.places 0 now l g.generation held other) gs → shown ≡ bytes
  same_bytes unit [] bytes shown are mine its enough agree = its ∙ sym mine
  same_bytes unit (g ∷ gs) bytes shown are mine its enough agree =
      let front : its.0 ≡ mine.0 = same_group_bytes unit g mine.0 its.0 are.0 mine.3 its.3 enough.0 agree.0 in
      let rest : its.1 ≡ mine.1 = same_bytes unit gs mine.1 its.1 are.1 mine.4 its.4 enough.1 agree.1 in
      its.2 ∙ ap (λ (x : List ℕ). x ++ its.1) front ∙ ap (λ (x : List ℕ). mine.0 ++ x) rest ∙ sym mine.2

-- a list without elements is empty
no_bytes : (bytes : List ℕ) → length bytes ≡ 0 → bytes ≡ []
no_bytes [] none = refl
no_bytes (b ∷ bs) none = absurd (omega (arith, none))

-- two lists of one length are one where the same begins with both
same_front : (bytes shown back more : List ℕ) → length shown ≡ length bytes → shown ++ more ≡ bytes ++ back → shown ≡ bytes
same_front bytes shown back more long same =
    sym (take-append_seam shown more) ∙ ap (λ (x : List ℕ). take (length shown) x) same
    ∙ ap (λ (n : ℕ). take n (bytes ++ back)) long ∙ take-append_seam bytes back

-- what is found is the file: its groups, its size and its bytes
abbrev Found : Layout → List ℕ → Layout → List ℕ → Type 0
Found l bytes found shown = (found.groups ≡ l.groups) × (found.size ≡ l.size) × (shown ≡ bytes)

-- a file without an inode
found_none : (l found : Layout) (bytes shown : List ℕ) → (l.groups ≡ []) × (l.size ≡ 0) → (found.groups ≡ []) × (found.size ≡ 0)
    → l.size ≡ length bytes → found.size ≡ length shown → Found l bytes found shown
found_none l found bytes shown mine its size size_too = (
  its.0 ∙ sym mine.0,
  its.1 ∙ sym mine.1,
  no_bytes shown (sym size_too ∙ its.1) ∙ sym (no_bytes bytes (sym size ∙ mine.1)),
)

-- a file with an inode
found_some : (now : Moment) (held other : Place → List ℕ) (l found : Layout) (bytes shown : List ℕ) (root : Group)
    → SpellsInode (λ s. Some (held s)) now.shape.unit l root → SpellsInode (λ s. Some (other s)) now.shape.unit found root
    → IsStored (λ s. Some (held s)) now.shape.unit l bytes → IsStored (λ s. Some (other s)) now.shape.unit found shown
    → AllByRecursion (λ (g : Group). g.n ≤ live_units now l g) l.groups → 1 ≤ live_units now l root
    → AllByRecursion (λ (g : Group). AgreeOnPlaces g.places 0 now l g.generation held other) l.groups
    → AgreeOnPlaces root.places 0 now l root.generation held other → Found l bytes found shown
found_some now held other l found bytes shown root spells its_spells stored its enough some agree agree_root =
    let unit : ℕ = now.shape.unit in
    let text : inode_bytes (inode_of unit found) ≡ inode_bytes (inode_of unit l) =
    live_text now l held other root.places (inode_bytes (inode_of unit l)) (inode_bytes (inode_of unit found)) 0 root.generation
    spells.places its_spells.places agree_root some in
    let same : inode_of unit found ≡ inode_of unit l =
    inode_bytes-eq (inode_of unit found) (inode_of unit l) its_spells.valid spells.valid text in
    let groups : found.groups ≡ l.groups = ap (λ (i : Inode). i.groups) same in
    let size : found.size ≡ l.size = ap (λ (i : Inode). i.size) same in
    let holds : HoldsGroups l.groups (shown ++ replicate its.zeros 0) unit (λ s. Some (other s)) =
    subst (λ (gs : List Group). HoldsGroups gs (shown ++ replicate its.zeros 0) unit (λ s. Some (other s))) groups its.groups in
    let whole : shown ++ replicate its.zeros 0 ≡ bytes ++ replicate stored.zeros 0 =
    same_bytes now l held other unit l.groups (bytes ++ replicate stored.zeros 0) (shown ++ replicate its.zeros 0) spells.valid.groups
    stored.groups holds enough agree in
    (groups, size, same_front bytes shown (replicate stored.zeros 0) (replicate its.zeros 0) (sym its.size ∙ size ∙ stored.size) whole)

-- what is stored is determined by its live units, where they are enough
pub determined : LiveUnitsDetermine
determined now held l bytes rooted stored enough other found shown found_rooted same_root its agree =
    let unit : ℕ = now.shape.unit in
    let P : Group → Type 0 = λ g. AgreeOnPlaces g.places 0 now l g.generation held other in
    let spells_too : AllByRecursion (SpellsInode (λ s. Some (other s)) unit found) (group_list l.inode) =
    subst (λ (o : Option Group). AllByRecursion (SpellsInode (λ s. Some (other s)) unit found) (group_list o)) same_root its.inode in
    elim l.inode
    as (λ o. l.inode ≡ o → AllByRecursion (SpellsInode (λ s. Some (held s)) unit l) (group_list o)
    → AllByRecursion (SpellsInode (λ s. Some (other s)) unit found) (group_list o)
    → AllByRecursion (λ (g : Group). 1 ≤ live_units now l g) (group_list o) → AllByRecursion P (group_list o) → Found l bytes found shown) [
      | None ↦ λ is a b c d. found_none l found bytes shown (rooted is) (found_rooted (same_root ∙ is)) stored.size its.size
      | Some root ↦ λ is a b c d.
          found_some now held other l found bytes shown root a.0 b.0 stored its enough.map c.0
          (all_left P l.groups (group_list l.inode) agree) d.0
    ] refl stored.inode spells_too enough.root (all_right P l.groups (group_list l.inode) agree)
