-- Groups that are given their generations.
use Rattle.std.proofs.Common.{◌≡◌, ℕ, ◌+◌, ◌≤◌, List, [], ◌∷◌, ◌++◌, length, map, refl, ap, arith}
use Rattle.std.specs.List.{AllByRecursion}
use Rattle.domains.specs.Place.{Place}
use Rattle.domains.specs.Level.{Level}
use Rattle.domains.specs.AtLevel.{AtLevel}
use Rattle.domains.specs.declared.group.Group.{Group}
use Rattle.file_history.specs.Layout.{places_of}
use Rattle.file_history.specs.WriteRule.{AreChunks}
use Rattle.file_history.specs.Step.{AreNumbered}
use Rattle.earlier_copies.specs.ReadyWrites.{numbered}

pub numbered-length : (gs : List Group) (next : ℕ) → length (numbered gs next) ≡ length gs
numbered-length [] next = refl
numbered-length (g ∷ gs) next = let rest = numbered-length gs (next + 1) in omega (arith, rest)

pub numbered-widths : (gs : List Group) (next : ℕ) → map (λ (g : Group). g.n) (numbered gs next) ≡ map (λ (g : Group). g.n) gs
numbered-widths [] next = refl
numbered-widths (g ∷ gs) next = ap (λ (l : List ℕ). g.n ∷ l) (numbered-widths gs (next + 1))

pub numbered-places : (gs : List Group) (next : ℕ) → places_of (numbered gs next) ≡ places_of gs
numbered-places [] next = refl
numbered-places (g ∷ gs) next = ap (λ (l : List Place). g.places ++ l) (numbered-places gs (next + 1))

pub are_numbered : (gs : List Group) (next : ℕ) (inode : Group) → inode.generation ≡ next + length gs → AreNumbered next (numbered gs next) inode
are_numbered [] next inode is = omega (arith, is)
are_numbered (g ∷ gs) next inode is = (refl, are_numbered gs (next + 1) inode (omega (arith, is)))

-- a group at a level is at it whatever its generation
pub renumbered : (g : Group) (a b : ℕ) (level : Level) → AtLevel (record g { generation = a }) level → AtLevel (record g { generation = b }) level
renumbered g a b level at = record { some = at.some; narrow = at.narrow; corrected = at.corrected; whole = at.whole; apart = at.apart; spread = at.spread }

pub all_renumbered : (gs : List Group) (a b : ℕ) (level : Level) → AllByRecursion (λ (g : Group). AtLevel g level) (numbered gs a)
    → AllByRecursion (λ (g : Group). AtLevel g level) (numbered gs b)
all_renumbered [] a b level all = tt
all_renumbered (g ∷ gs) a b level all = (renumbered g a b level all.0, all_renumbered gs (a + 1) (b + 1) level all.1)

-- groups that share some units are not wider than nothing
pub wide : (n : ℕ) (ns : List ℕ) (count width : ℕ) → AreChunks count width (n ∷ ns) → 1 ≤ width
wide n [] count width are = let some = are.1 in let narrow = are.2 in omega (arith, some, narrow)
wide n (m ∷ ms) count width are = wide m ms _ width are.2

pub some_wide : (ns : List ℕ) (count width : ℕ) → AreChunks count width ns → 1 ≤ count → 1 ≤ width
some_wide [] count width are some = absurd (omega (arith, are, some))
some_wide (n ∷ ns) count width are some = wide n ns count width are
