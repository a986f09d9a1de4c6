-- The definitions on a small run: two nodes of one drive, a mirrored file that is created, written and read.
use Rattle.std.proofs.Common.{codes, ◌≡◌, ℕ, false, List, [], ◌∷◌, get_or, ap, arith, refl, rules}
use Rattle.domains.specs.Place.{Place}
use Rattle.domains.specs.Shape.{is_of}
use Rattle.domains.specs.Level.{two_copies}
use Rattle.domains.specs.declared.group.Group.{Group}
use Rattle.inode_codec.specs.Inode.{inode_bytes, group_bytes, place_bytes}
use Rattle.file_history.specs.World.{World}
use Rattle.file_history.specs.Bytes.{bytes_after}
use Rattle.file_history.specs.Layout.{layout_after}
use Rattle.file_history.specs.Step.{IsLegalLog}
use Rattle.file_history.specs.Stored.{inode_of}
use Rattle.file_history.specs.declared.entry.FileEvent.{FileEvent}
use Rattle.file_history.specs.declared.entry.FileEvent.TheVariants.{Created, Written, Shown}
use Rattle.file_history.specs.declared.entry.NotedEntry.{NotedEntry}

world : World
world = record {
  level = two_copies;
  shape = record { nodes = 2; drives = 1; slots = 16; unit = 8 };
  epochs = 0;
  up = λ epoch d. is_of (record { nodes = 2; drives = 1; slots = 16; unit = 8 }) d;
  gone = λ epoch d. false;
}

abbrev placed : ℕ → ℕ → Place
placed node slot = record { drive = record { node = node; drive = 1 }; slot = slot }

abbrev mirror : ℕ → Place → Place → Group
mirror generation a b = record { generation = generation; n = 1; m = 1; places = a ∷ b ∷ [] }

abbrev noted : ℕ → FileEvent → List ℕ → NotedEntry
noted call event payload = record { entry = record { by = record { actor = 1; call = call }; epoch = 0; event = event }; payload = payload }

abbrev pub log : List NotedEntry
log =
    noted 1 (Created (mirror 0 (placed 1 0) (placed 2 0))) []
    ∷ noted 2 (Written 0 5 5 (record { old = []; new = mirror 1 (placed 2 1) (placed 1 1) ∷ []; inode = mirror 2 (placed 1 2) (placed 2 2) })) (codes "hello")
    ∷ noted 3 (Shown 0 5 (codes "hello")) [] ∷ []

is_legal : IsLegalLog world log
unfolding world
is_legal = search rules

-- a read that shows other bytes is not legal
other_bytes : IsLegalLog world (
    noted 1 (Created (mirror 0 (placed 1 0) (placed 2 0))) []
    ∷ noted 2 (Written 0 5 5 (record { old = []; new = mirror 1 (placed 2 1) (placed 1 1) ∷ []; inode = mirror 2 (placed 1 2) (placed 2 2) })) (codes "hello")
    ∷ noted 3 (Shown 0 5 (codes "jello")) [] ∷ []) → ⊥
other_bytes legal =
    let shown : codes "jello" ≡ codes "hello" = legal.1.1.0.shown tt in
    let first : 106 ≡ 104 = ap (λ (l : List ℕ). get_or l 0 0) shown in
    absurd (omega (arith, first))

bytes : bytes_after log ≡ codes "hello"
bytes = refl

inode : inode_bytes (inode_of 8 (layout_after two_copies log))
    ≡ 0x49 ∷ 0x4E ∷ 1 ∷ 9 ∷ 0 ∷ 0 ∷ 0 ∷ 8 ∷ 0 ∷ 0 ∷ 0 ∷ 0 ∷ 0 ∷ 0 ∷ 0 ∷ 5 ∷ 0 ∷ 1 ∷ 0 ∷ 0 ∷ 0 ∷ 1 ∷ 1 ∷ 1 ∷ 2 ∷ 1 ∷ 0 ∷ 1 ∷ 1 ∷ 1 ∷ 0 ∷ 1 ∷ []
unfolding inode_bytes group_bytes place_bytes
inode = refl
