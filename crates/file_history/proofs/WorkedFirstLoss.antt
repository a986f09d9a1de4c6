-- The first file after one of its drives is lost: its bytes are determined by what is left, and once both are lost they are not.
use Rattle.std.proofs.Common.{codes, ◌≡◌, ℕ, zero, suc, ◌<◌, ◌==◌, Bool, false, if◌then◌else◌, List, [], ◌∷◌, ◌++◌, replicate, All, get_or, Some, refl, ap, arith, lit<, lit≤, rules}
use Rattle.std.specs.List.{AllByRecursion}
use Rattle.std.proofs.lemmas.Bool.{false≢true}
use Rattle.std.proofs.lemmas.List.Elements.{All-cons, All-nil}
use Rattle.domains.specs.Place.{Place}
use Rattle.domains.specs.Level.{two_copies}
use Rattle.galois.specs.Field.{IsByte}
use Rattle.galois.specs.Codeword.{unit_at}
use Rattle.galois.proofs.Mirrors.{mirror_codeword}
use Rattle.inode_codec.specs.Inode.{IsInode, inode_bytes}
use Rattle.file_history.specs.World.{Moment}
use Rattle.file_history.specs.Layout.{Layout, layout_after, empty_layout}
use Rattle.file_history.specs.Stored.{IsStored, IsDetermined, inode_of}
use Rattle.file_history.specs.Laws.{LeavesEnough}
use Rattle.file_history.proofs.WorkedFirstScenario.{log}
use Rattle.file_history.proofs.DeterminedByLiveUnits.{determined}
use Rattle.file_history.proofs.RootedLayouts.{layout_rooted}

-- the layout after the write
abbrev layout : Layout
layout = layout_after two_copies log

-- the moment at which these nodes' drives are up
abbrev at : (ℕ → Bool) → Moment
at up = record {
  level = two_copies;
  shape = record { nodes = 2; drives = 1; slots = 16; unit = 8 };
  up = λ d. up d.node;
  gone = λ d. false;
}

-- a word, and the unit that has it
abbrev word : ℕ → List ℕ
word first = first ∷ codes "ello"

abbrev unit_of : ℕ → List ℕ
unit_of first = word first ++ replicate 3 0

-- the first slots of the drives hold that unit, and the second the inode
abbrev holding : ℕ → Place → List ℕ
holding first s = if s.slot == 1 then unit_of first else inode_bytes (inode_of 8 layout)

valid : IsInode (inode_of 8 layout)
valid = record {
  level = (9, lit< tt, refl);
  least_unit = lit≤ tt;
  most_unit = lit≤ tt;
  size = lit≤ tt;
  count = lit≤ tt;
  groups = (search rules, tt);
  generations = (tt, tt);
  sum = refl;
}

equal_units : (unit : List ℕ) (i : ℕ) → i < 2 → unit_at (unit ∷ unit ∷ []) i ≡ unit
equal_units unit zero within = refl
equal_units unit (suc zero) within = refl
equal_units unit (suc (suc i)) within = absurd (omega arith)

each_byte : (xs : List ℕ) → AllByRecursion IsByte xs → All IsByte xs
each_byte [] all = All-nil IsByte
each_byte (x ∷ xs) all = All-cons IsByte x xs all.0 (each_byte xs all.1)

-- each such word is stored so
stored : (first : ℕ) → first < 256 → IsStored (λ s. Some (holding first s)) 8 layout (word first)
stored first small =
    let unit : List ℕ = unit_of first in
    let bytes : All IsByte unit =
    each_byte unit (small, (lit< tt, (lit< tt, (lit< tt, (lit< tt, (lit< tt, (lit< tt, (lit< tt, tt)))))))) in
    record {
      inode = (record { valid = valid; places = (refl, (refl, tt)) }, tt);
      size = refl;
      zeros = 3;
      groups = (
        unit,
        [],
        refl,
        record {
          units = unit ∷ unit ∷ [];
          codeword = mirror_codeword 1 (unit ∷ unit ∷ []) refl bytes (equal_units unit);
          lengths = (refl, (refl, tt));
          joined = refl;
          places = (refl, (refl, tt));
        },
        refl,
      );
    }

hello : IsStored (λ s. Some (holding 104 s)) 8 layout (codes "hello")
hello = stored 104 (lit< tt)

jello : IsStored (λ s. Some (holding 106 s)) 8 layout (codes "jello")
jello = stored 106 (lit< tt)

-- with the second node's drive lost a live unit of each group is left
left : LeavesEnough (at (λ n. n == 1)) layout
left = record { map = (lit≤ tt, tt); root = (lit≤ tt, tt) }

after_a_loss : IsDetermined (at (λ n. n == 1)) (holding 104) layout (codes "hello")
after_a_loss = determined (at (λ n. n == 1)) (holding 104) layout (codes "hello") (layout_rooted two_copies log) hello left

-- with both lost, the units may have held another word
after_both : IsDetermined (at (λ n. false)) (holding 104) layout (codes "hello") → ⊥
after_both determines =
    let found =
    determines (holding 106) layout (codes "jello") (layout_rooted two_copies log) refl jello
    ((λ h. absurd (false≢true h), (λ h. absurd (false≢true h), tt)), ((λ h. absurd (false≢true h), (λ h. absurd (false≢true h), tt)), tt)) in
    other found.2
  where
    other : codes "jello" ≡ codes "hello" → ⊥
    other same = let first : 106 ≡ 104 = ap (λ (l : List ℕ). get_or l 0 0) same in absurd (omega (arith, first))

-- an absent file is determined, whatever the places hold
absent : (now : Moment) (held : Place → List ℕ) → IsDetermined now held (empty_layout two_copies) []
absent now held =
    determined now held (empty_layout two_copies) [] (layout_rooted two_copies [])
    (record { inode = tt; size = refl; zeros = 0; groups = refl }) (record { map = tt; root = tt })
