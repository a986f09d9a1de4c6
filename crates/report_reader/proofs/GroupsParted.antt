-- The groups of a change as a loop reads them, up to the word inode.
use Rattle.std.proofs.Common.{codes, ◌≡◌, ℕ, ◌+◌, ◌<◌, ◌≤◌, ◌^◌, true, false, List, [], ◌∷◌, ◌++◌, length, refl, sym, ap, ◌∙◌, subst, arith, append_assoc, append-nil, length-append}
use Rattle.std.specs.List.{AllByRecursion}
use Rattle.domains.specs.Drive.{Drive, IsDrive}
use Rattle.domains.specs.Place.{Place, IsPlace}
use Rattle.domains.specs.declared.group.Group.{Group}
use Rattle.report.specs.Words.{group_text, groups_text, more_groups}
use Rattle.report_reader.specs.Fits.{FitsGroup, FitsPlace, IsWide}
use Rattle.report_reader.specs.Lines.{IsGeneration, IsGroup, groups_tail, inode_tail, lacks}
use Rattle.report_reader.proofs.WordsTold.{all_so, group_has, group_word}

pub place_fits : (s : Place) → IsPlace s → FitsPlace s
place_fits s h = record { drive = record { node = omega (arith, h.drive.nodes); drive = omega (arith, h.drive.drives) }; slot = omega (arith, h.slot) }

pub group_fits : (g : Group) → IsGroup g → FitsGroup g
group_fits g h = record { generation = omega (arith, h.generation); n = omega (arith, h.n); m = omega (arith, h.m); places = all_so IsPlace FitsPlace place_fits g.places h.places }

pub groups_fit : (gs : List Group) → AllByRecursion IsGroup gs → AllByRecursion FitsGroup gs
groups_fit gs h = all_so IsGroup FitsGroup group_fits gs h

-- a text with no = is no group
pub no_group : (g : Group) (word : List ℕ) → lacks 61 word ≡ true → word ≡ group_text g → ⊥
no_group g word clean is = let has : lacks 61 word ≡ false = ap (lacks 61) is ∙ group_has g in absurd cc

tail_spelled : (g : Group) (gs : List Group) (i : Group) → group_text g ++ (more_groups gs ++ inode_tail i) ≡ groups_tail (g ∷ gs) i
tail_spelled g [] i = refl
tail_spelled g (k ∷ ks) i = ap (λ (t : List ℕ). group_text g ++ 32 ∷ t) (append_assoc (group_text k) (more_groups ks) (inode_tail i) ∙ tail_spelled k ks i)

-- groups, with a dash for none
pub groups_spelled : (g : Group) (gs : List Group) (i : Group) → groups_text (g ∷ gs) ++ inode_tail i ≡ groups_tail (g ∷ gs) i
groups_spelled g gs i = append_assoc (group_text g) (more_groups gs) (inode_tail i) ∙ tail_spelled g gs i

-- what was read and what is left of the groups
pub record GroupsParted (all : List Group) (i : Group) (items : List Group) (rest : List ℕ) : Type 0 where
  pub left : List Group
  pub whole : all ≡ items ++ left
  pub are : AllByRecursion IsGroup left
  pub is : rest ≡ groups_tail left i

abbrev Cuts : List ℕ → List ℕ → List ℕ → Type 0
Cuts rest word after = (xs ys : List ℕ) → lacks 32 xs ≡ true → rest ≡ xs ++ 32 ∷ ys → (word ≡ xs) × (after ≡ ys)

step_at : (all : List Group) (i : Group) (items left : List Group) (rest word after : List ℕ) (made : Group) → all ≡ items ++ left → AllByRecursion IsGroup left → rest ≡ groups_tail left i
    → Cuts rest word after → (word ≡ codes "inode" → ⊥) → ((g : Group) → IsGroup g → word ≡ group_text g → made ≡ g) → GroupsParted all i (items ++ made ∷ []) after
step_at all i items [] rest word after made whole are is cuts other value = absurd (other (cuts (codes "inode") (group_text i) refl is).0)
step_at all i items (g ∷ gs) rest word after made whole are is cuts other value =
    let parts = cuts (group_text g) (groups_tail gs i) (group_word g (group_fits g are.0)).0 is in
    let same : made ≡ g = value g are.0 parts.0 in
    record {
      left = gs;
      whole = whole ∙ ap (λ (x : Group). items ++ x ∷ gs) (sym same) ∙ sym (append_assoc items (made ∷ []) gs);
      are = are.1;
      is = parts.1;
    }

pub groups_step : (all : List Group) (i : Group) (items : List Group) (rest word after : List ℕ) (made : Group) → GroupsParted all i items rest
    → Cuts rest word after → (word ≡ codes "inode" → ⊥) → ((g : Group) → IsGroup g → word ≡ group_text g → made ≡ g) → GroupsParted all i (items ++ made ∷ []) after
groups_step all i items rest word after made p cuts other value = step_at all i items p.left rest word after made p.whole p.are p.is cuts other value

end_at : (all : List Group) (i : Group) (items left : List Group) (rest word after : List ℕ) → all ≡ items ++ left → AllByRecursion IsGroup left → rest ≡ groups_tail left i
    → Cuts rest word after → word ≡ codes "inode" → (items ≡ all) × (after ≡ group_text i)
end_at all i items [] rest word after whole are is cuts inode = (sym (whole ∙ append-nil items), (cuts (codes "inode") (group_text i) refl is).1)
end_at all i items (g ∷ gs) rest word after whole are is cuts inode =
    let parts = cuts (group_text g) (groups_tail gs i) (group_word g (group_fits g are.0)).0 is in
    absurd (no_group g (codes "inode") refl (sym inode ∙ parts.0))

pub groups_end : (all : List Group) (i : Group) (items : List Group) (rest word after : List ℕ) → GroupsParted all i items rest → Cuts rest word after → word ≡ codes "inode"
    → (items ≡ all) × (after ≡ group_text i)
groups_end all i items rest word after p cuts inode = end_at all i items p.left rest word after p.whole p.are p.is cuts inode

tail_some : (left : List Group) (i : Group) → 1 ≤ length (groups_tail left i)
tail_some [] i = omega arith
tail_some (g ∷ gs) i = omega (arith, length-append (group_text g) (32 ∷ groups_tail gs i))

pub groups_never : (all : List Group) (i : Group) (items : List Group) (rest : List ℕ) → GroupsParted all i items rest → length rest ≡ 0 → ⊥
groups_never all i items rest p over =
    let len : length rest ≡ length (groups_tail p.left i) = ap length p.is in
    omega (arith, len, over, tail_some p.left i)

-- behind a dash or at the first group
pub behind_dash : (gs : List Group) (i : Group) (text word after : List ℕ) → AllByRecursion IsGroup gs → text ≡ groups_text gs ++ inode_tail i → Cuts text word after → word ≡ codes "-" → after ≡ groups_tail gs i
behind_dash [] i text word after are is cuts dash = (cuts (codes "-") (codes "inode" ++ 32 ∷ group_text i) refl is).1
behind_dash (g ∷ gs) i text word after are is cuts dash =
    let parts = cuts (group_text g) (groups_tail gs i) (group_word g (group_fits g are.0)).0 (is ∙ groups_spelled g gs i) in
    absurd (no_group g (codes "-") refl (sym dash ∙ parts.0))

pub no_dash : (gs : List Group) (i : Group) (text word after : List ℕ) → AllByRecursion IsGroup gs → text ≡ groups_text gs ++ inode_tail i → Cuts text word after → (word ≡ codes "-" → ⊥) → text ≡ groups_tail gs i
no_dash [] i text word after are is cuts other = absurd (other (cuts (codes "-") (codes "inode" ++ 32 ∷ group_text i) refl is).0)
no_dash (g ∷ gs) i text word after are is cuts other = is ∙ groups_spelled g gs i

generation_wide : (n : ℕ) → IsGeneration n → IsWide n
generation_wide n h = omega (arith, h)

pub generations_fit : (ns : List ℕ) → AllByRecursion IsGeneration ns → AllByRecursion IsWide ns
generations_fit ns h = all_so IsGeneration IsWide generation_wide ns h
