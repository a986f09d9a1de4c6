-- A write of one byte that was made ready before another write of the file.
use Rattle.std.proofs.Common.{codes, ◌≡◌, ℕ, ◌++◌, false, List, [], ◌∷◌, Some, refl, lit<, lit≤, rules}
use Rattle.domains.specs.Place.{Place}
use Rattle.domains.specs.Shape.{Shape, is_of}
use Rattle.domains.specs.Level.{two_copies}
use Rattle.domains.specs.declared.group.Group.{Group}
use Rattle.file_history.specs.World.{World, moment_at}
use Rattle.file_history.specs.Layout.{layout_after}
use Rattle.file_history.specs.Step.{IsLegalLogWhere}
use Rattle.file_history.specs.declared.entry.FileEvent.{FileEvent}
use Rattle.file_history.specs.declared.entry.FileEvent.TheVariants.{Created, Written}
use Rattle.file_history.specs.declared.entry.NotedEntry.{NotedEntry}
use Rattle.map_laws.specs.Limits.{IsWithinLimits}
use Rattle.stale_changes.specs.Staleness.{cause_in}
use Rattle.stale_changes.specs.declared.stale.Stale.TheVariants as stale
use Rattle.earlier_copies.specs.ReadyWrites.{IsMade, IsReady, MayBeMade, ReadyWrite, Spares, basis_of, entries_of, last_generation, new_places}

abbrev cluster : Shape
cluster = record { nodes = 2; drives = 1; slots = 16; unit = 8 }

abbrev pub world : World
world = record { level = two_copies; shape = cluster; epochs = 0; up = λ epoch d. is_of cluster d; gone = λ epoch d. false }

abbrev pub placed : ℕ → ℕ → Place
placed node slot = record { drive = record { node = node; drive = 1 }; slot = slot }

abbrev pub mirror : ℕ → ℕ → Group
mirror generation slot = record { generation = generation; n = 1; m = 1; places = placed 1 slot ∷ placed 2 slot ∷ [] }

abbrev pub noted : ℕ → FileEvent → List ℕ → NotedEntry
noted call event payload = record { entry = record { by = record { actor = 1; call = call }; epoch = 0; event = event }; payload = payload }

-- five bytes
abbrev pub log : List NotedEntry
log =
    noted 1 (Created (mirror 0 0)) []
    ∷ noted 2 (Written 0 5 5 (record { old = []; new = mirror 1 1 ∷ []; inode = mirror 2 2 })) (codes "hello") ∷ []

-- and then two in the next unit
abbrev pub more : List NotedEntry
more = noted 3 (Written 8 2 10 (record { old = []; new = mirror 3 3 ∷ []; inode = mirror 4 4 })) (codes "ab") ∷ []

limits : IsWithinLimits world (log ++ more)
limits = record {
  cluster = record {
    some_node = lit≤ tt;
    nodes = lit≤ tt;
    some_drive = lit≤ tt;
    drives = lit≤ tt;
    all_drives = lit≤ tt;
    some_slot = lit≤ tt;
    slots = lit≤ tt;
    least_unit = lit≤ tt;
    most_unit = lit≤ tt;
  };
  declared = (9, lit< tt, refl);
  levels = (tt, (tt, (tt, tt)));
  entries = lit≤ tt;
}

legal : IsLegalLogWhere ⊥ world (log ++ more)
legal = search rules

-- a first byte, made ready after the five
abbrev write : ReadyWrite
write = record { offset = 0; payload = codes "j"; units = 1; level = two_copies; old = 1 ∷ []; new = mirror 0 5 ∷ []; inode = mirror 0 6 }

ready : IsReady (moment_at world 0) log (layout_after two_copies log) write
ready = search rules

-- the entry behind does not stand against it, and it is legal behind it
spared : Spares 8 (last_generation (layout_after two_copies (log ++ more)).groups) write log more
spared = refl

may : MayBeMade (moment_at world 0) (layout_after two_copies (log ++ more)) write 1
may = search rules

is_made : IsMade (moment_at world 0) (log ++ more) (layout_after two_copies (log ++ more)) write
is_made = search rules

-- an entry that takes the group away stands against it: the third of the log
replaced : cause_in (entries_of (noted 3 (Written 0 1 5 (record { old = 1 ∷ []; new = mirror 3 3 ∷ []; inode = mirror 4 4 })) (codes "j") ∷ [])) 2
    (basis_of 8 (Some 3) write) write.old [] (new_places write) ≡ Some (stale.Replaced 1 3)
replaced = refl

-- a write of the next unit adds one, and this entry adds it first
abbrev behind : ReadyWrite
behind = record { offset = 8; payload = codes "c"; units = 1; level = two_copies; old = []; new = mirror 0 5 ∷ []; inode = mirror 0 6 }

moved : cause_in (entries_of more) 2 (basis_of 8 (Some 3) behind) behind.old [] (new_places behind) ≡ Some (stale.Units 3)
moved = refl
