-- What the code finds of a clear file is what the layout says.
use Rattle.std.proofs.Common.{◌≡◌, ℕ, suc, ◌+◌, ◌<◌, Bool, true, false, ◌&&◌, not, ◌⊎◌, List, [], ◌∷◌, ◌++◌, length, take, Option, Some, None, IfSome, inl, inr, refl, sym, ap, subst, ◌∙◌, arith}
use Rattle.std.specs.List.{AllByRecursion, slice_get}
use Rattle.std.proofs.lemmas.Bool.{false≢true}
use Rattle.domains.specs.AtLevel.{AtLevel, InodeAt}
use Rattle.domains.specs.DriveSet.{has}
use Rattle.domains.specs.Drive.{Drive, IsDrive}
use Rattle.domains.specs.Level.{Level}
use Rattle.domains.specs.Place.{Place}
use Rattle.domains.specs.declared.drive_set.DriveSet.{DriveSet}
use Rattle.domains.specs.declared.group.Group.{Group}
use Rattle.file_history.specs.Layout.{Layout, Unit_, group_list}
use Rattle.file_history.specs.Live.{is_dead}
use Rattle.file_history.specs.Refusals.{is_barred}
use Rattle.file_history.specs.Step.{AreAtLevel, AreClean, Clears}
use Rattle.file_heads.specs.Heads.{is_there}
use Rattle.file_heads.specs.DeadUnits.{names}
use Rattle.file_heads.specs.ClearFiles.{AnswersFirst, IsClear, IsClearAt, IsClearInode, IsClearInodeAt, IsFirstUnclear, are_clean}

-- what holds of each value that there is
pub if_some : (P : ℕ → Type 0) (answer : Option ℕ) → ((n : ℕ) → answer ≡ Some n → P n) → IfSome answer P
if_some P None all = tt
if_some P (Some n) all = all n refl

three : (a b c : Bool) → ((not a && not b) && c) ≡ true → (a ≡ false) × (b ≡ false) × (c ≡ true)
three true b c is = absurd (false≢true is)
three false true c is = absurd (false≢true is)
three false false c is = (refl, refl, is)

module _ (l : Layout) (drives : DriveSet) (level : Level) (dead : List Unit_)
    (requested : level ≡ l.requested) (same : (generation position : ℕ) → names dead generation position ≡ is_dead l generation position) where
  clean_so : (places : List Place) (position generation : ℕ) → are_clean places position dead generation drives ≡ true → AreClean places position l generation drives
  clean_so [] position generation is = tt
  clean_so (s ∷ ss) position generation is =
      let found = three (names dead generation position) (has drives s.drive) (are_clean ss (position + 1) dead generation drives) is in
      (sym (same generation position) ∙ found.0, found.1, clean_so ss (position + 1) generation found.2)

  so_clean : (places : List Place) (position generation : ℕ) → AreClean places position l generation drives → are_clean places position dead generation drives ≡ true
  so_clean [] position generation clean = refl
  so_clean (s ∷ ss) position generation clean =
      (λ i. (not ((same generation position ∙ clean.0) i) && not (clean.1 i)) && are_clean ss (position + 1) dead generation drives)
      ∙ so_clean ss (position + 1) generation clean.2

  clear_so : (g : Group) → IsClearAt level dead drives g → IsClear l drives g
  clear_so g is = record { level = subst (AtLevel g) requested is.level_is; clean = clean_so g.places 0 g.generation is.clean }

  so_clear : (g : Group) → IsClear l drives g → IsClearAt level dead drives g
  so_clear g is = record { level_is = subst (AtLevel g) (sym requested) is.level; clean = so_clean g.places 0 g.generation is.clean }

  inode_so : (g : Group) → IsClearInodeAt level dead drives g → IsClearInode l drives g
  inode_so g is = record { level = subst (InodeAt g) requested is.level_is; clean = clean_so g.places 0 g.generation is.clean }

  so_inode : (g : Group) → IsClearInode l drives g → IsClearInodeAt level dead drives g
  so_inode g is = record { level_is = subst (InodeAt g) (sym requested) is.level; clean = so_clean g.places 0 g.generation is.clean }

  -- all groups and the inode are clear
  abbrev AllClear : List Group → Option Group → Type 0
  AllClear gs inode = AllByRecursion (IsClear l drives) gs × AllByRecursion (IsClearInode l drives) (group_list inode)

  some_none : (n : ℕ) → Some n ≡ None → ⊥
  some_none n is = cc

  none_some : (n : ℕ) → None ≡ Some n → ⊥
  none_some n is = cc

  -- no position is answered exactly if all are clear
  none_so : (gs : List Group) (inode : Option Group) (at : ℕ) (answer : Option ℕ) → AnswersFirst gs inode level dead drives at answer → answer ≡ None → AllClear gs inode
  none_so [] None at answer found none = (tt, tt)
  none_so [] (Some g) at answer (inl clear) none = (tt, (inode_so g clear.1, tt))
  none_so [] (Some g) at answer (inr broken) none = absurd (some_none at (sym broken.0 ∙ none))
  none_so (g ∷ gs) inode at answer (inl found) none =
      let rest = none_so gs inode (at + 1) answer found.1 none in ((clear_so g found.0, rest.0), rest.1)
  none_so (g ∷ gs) inode at answer (inr broken) none = absurd (some_none at (sym broken.0 ∙ none))

  so_none : (gs : List Group) (inode : Option Group) (at : ℕ) (answer : Option ℕ) → AnswersFirst gs inode level dead drives at answer → AllClear gs inode → answer ≡ None
  so_none [] None at answer found clear = found
  so_none [] (Some g) at answer (inl found) clear = found.0
  so_none [] (Some g) at answer (inr broken) clear = absurd (broken.1 (so_inode g clear.1.0))
  so_none (g ∷ gs) inode at answer (inl found) clear = so_none gs inode (at + 1) answer found.1 (clear.0.1, clear.1)
  so_none (g ∷ gs) inode at answer (inr broken) clear = absurd (broken.1 (so_clear g clear.0.0))

  -- a position that is answered, counted from the first of these groups
  record Broken (gs : List Group) (inode : Option Group) (k : ℕ) : Type 0 where
    pub before : AllByRecursion (IsClear l drives) (take k gs)
    pub group : Group
    pub there : slice_get (gs ++ group_list inode) k ≡ Some group
    pub broken : ((k < length gs) × (IsClear l drives group → ⊥)) ⊎ ((k ≡ length gs) × (IsClearInode l drives group → ⊥))

  same_some : (m n : ℕ) → Some m ≡ Some n → m ≡ n
  same_some m n is = cc

  later : (g : Group) (gs : List Group) (inode : Option Group) (k : ℕ) → IsClear l drives g → Broken gs inode k → Broken (g ∷ gs) inode (suc k)
  later g gs inode k clear b = record { before = (clear, b.before); group = b.group; there = b.there; broken = further b.broken }
    where
      further : ((k < length gs) × (IsClear l drives b.group → ⊥)) ⊎ ((k ≡ length gs) × (IsClearInode l drives b.group → ⊥))
          → ((suc k < length (g ∷ gs)) × (IsClear l drives b.group → ⊥)) ⊎ ((suc k ≡ length (g ∷ gs)) × (IsClearInode l drives b.group → ⊥))
      further (inl x) = inl (let below = x.0 in omega (arith, below), x.1)
      further (inr x) = inr (ap suc x.0, x.1)

  broken_at : (gs : List Group) (inode : Option Group) (at : ℕ) (answer : Option ℕ) (position : ℕ) → AnswersFirst gs inode level dead drives at answer → answer ≡ Some position
      → (k : ℕ) × (position ≡ at + k) × Broken gs inode k
  broken_at [] None at answer position found is = absurd (none_some position (sym found ∙ is))
  broken_at [] (Some g) at answer position (inl clear) is = absurd (none_some position (sym clear.0 ∙ is))
  broken_at [] (Some g) at answer position (inr broken) is = (
    0,
    let here = same_some position at (sym is ∙ broken.0) in omega (arith, here),
    record { before = tt; group = g; there = refl; broken = inr (refl, λ clear. broken.1 (so_inode g clear)) },
  )
  broken_at (g ∷ gs) inode at answer position (inl found) is =
      let rest = broken_at gs inode (at + 1) answer position found.1 is in
      let further = rest.1 in
      (suc rest.0, omega (arith, further), later g gs inode rest.0 (clear_so g found.0) rest.2)
  broken_at (g ∷ gs) inode at answer position (inr broken) is = (
    0,
    let here = same_some position at (sym is ∙ broken.0) in omega (arith, here),
    record { before = tt; group = g; there = refl; broken = inl (omega arith, λ clear. broken.1 (so_clear g clear)) },
  )

  -- the position that is answered is the first that is not clear
  pub first_unclear_is : (answer : Option ℕ) (position : ℕ) → AnswersFirst l.groups l.inode level dead drives 0 answer → answer ≡ Some position → IsFirstUnclear l drives position
  first_unclear_is answer position found is =
      let at = broken_at l.groups l.inode 0 answer position found is in
      let here = at.1 in
      subst (IsFirstUnclear l drives) (omega (arith, here))
      (record { before = at.2.before; group = at.2.group; there = at.2.there; broken = at.2.broken })

  levels_of : (gs : List Group) → AllByRecursion (IsClear l drives) gs → AreAtLevel gs l.requested
  levels_of [] all = tt
  levels_of (g ∷ gs) all = (all.0.level, levels_of gs all.1)

  inode_levels_of : (gs : List Group) → AllByRecursion (IsClearInode l drives) gs → AllByRecursion (λ (g : Group). InodeAt g l.requested) gs
  inode_levels_of [] all = tt
  inode_levels_of (g ∷ gs) all = (all.0.level, inode_levels_of gs all.1)

  clean_inodes : (gs : List Group) → AllByRecursion (IsClearInode l drives) gs → AllByRecursion (λ (g : Group). AreClean g.places 0 l g.generation drives) gs
  clean_inodes [] all = tt
  clean_inodes (g ∷ gs) all = (all.0.clean, clean_inodes gs all.1)

  clean_groups : (gs inodes : List Group) → AllByRecursion (IsClear l drives) gs → AllByRecursion (IsClearInode l drives) inodes
      → AllByRecursion (λ (g : Group). AreClean g.places 0 l g.generation drives) (gs ++ inodes)
  clean_groups [] inodes all roots = clean_inodes inodes roots
  clean_groups (g ∷ gs) inodes all roots = (all.0.clean, clean_groups gs inodes all.1 roots)

  both_clear : (gs inodes : List Group) → AreAtLevel gs l.requested → AllByRecursion (λ (g : Group). InodeAt g l.requested) inodes
      → AllByRecursion (λ (g : Group). AreClean g.places 0 l g.generation drives) (gs ++ inodes)
      → AllByRecursion (IsClear l drives) gs × AllByRecursion (IsClearInode l drives) inodes
  both_clear [] [] levels roots clean = (tt, tt)
  both_clear [] (g ∷ gs) levels roots clean = (tt, (record { level = roots.0; clean = clean.0 }, (both_clear [] gs tt roots.1 clean.1).1))
  both_clear (g ∷ gs) inodes levels roots clean =
      let rest = both_clear gs inodes levels.1 roots clean.1 in ((record { level = levels.0; clean = clean.0 }, rest.0), rest.1)

  -- no position is answered exactly if the file may be cleared
  pub clears_if : (answer : Option ℕ) → ((d : Drive) → IsDrive d → has drives d ≡ true → is_barred l d ≡ true)
      → AnswersFirst l.groups l.inode level dead drives 0 answer → answer ≡ None → Clears l drives
  clears_if answer barred found none =
      let all = none_so l.groups l.inode 0 answer found none in record {
        barred = barred;
        groups = λ present. levels_of l.groups all.0;
        inode = λ present. inode_levels_of (group_list l.inode) all.1;
        clean = clean_groups l.groups (group_list l.inode) all.0 all.1;
      }

  pub if_clears : (answer : Option ℕ) → l.present ≡ is_there l.inode → (l.inode ≡ None → l.groups ≡ [])
      → AnswersFirst l.groups l.inode level dead drives 0 answer → Clears l drives → answer ≡ None
  if_clears answer there rooted found clears = so_none l.groups l.inode 0 answer found (present_or_not l.inode refl)
    where
      present_or_not : (inode : Option Group) → l.inode ≡ inode → AllClear l.groups l.inode
      present_or_not None is =
          subst (λ (x : List Group × Option Group). AllByRecursion (IsClear l drives) x.0 × AllByRecursion (IsClearInode l drives) (group_list x.1))
          (λ i. (sym (rooted is) i, sym is i)) (tt, tt)
      present_or_not (Some g) is =
          let present = there ∙ ap is_there is in
          both_clear l.groups (group_list l.inode) (clears.groups present) (clears.inode present) clears.clean
