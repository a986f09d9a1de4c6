-- What a change replaces, and where its units stand.
use Rattle.std.specs.Prelude.{◌≡◌, ℕ, ◌+◌, false, not, List, ◌++◌, length, take, drop, take_while}
use Rattle.std.specs.List.{AllByRecursion}
use Rattle.domains.specs.Place.{Place}
use Rattle.domains.specs.Level.{Level}
use Rattle.domains.specs.declared.group.Group.{Group}
use Rattle.inode_codec.specs.declared.inode.Inode.{Inode}
use Rattle.file_history.specs.Layout.{Layout, all_groups, is_among, is_taken}
use Rattle.file_history.specs.Step.{AreDistinct}

-- the list, with `new` in the place of `count` elements from index `first` on
abbrev pub spliced : {A : Type 0} → List A → ℕ → ℕ → List A → List A
spliced xs first count new = take first xs ++ (new ++ drop (first + count) xs)

-- how many groups stand before the first of these generations
abbrev pub first_of : List ℕ → List Group → ℕ
first_of old groups = length (take_while (λ (g : Group). not (is_among old g.generation)) groups)

-- no unit of the layout stands at the places, and none comes twice
pub record AreFree (l : Layout) (places : List Place) : Type 0 where
  pub free : AllByRecursion (λ (s : Place). is_taken (all_groups l) s ≡ false) places
  pub distinct : AreDistinct places

-- what the inode of a changed map says
abbrev pub inode_with : Level → ℕ → ℕ → List Group → Inode
inode_with level unit size groups = record { level = level; unit = unit; size = size; groups = groups }
