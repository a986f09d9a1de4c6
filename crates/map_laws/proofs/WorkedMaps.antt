-- A file of two groups, of which the first was there before.
use Rattle.std.proofs.Common.{codes, ◌≡◌, ℕ, ◌++◌, false, List, [], ◌∷◌, inl, inr, replicate, refl, ap, arith, lit<, lit≤, rules}
use Rattle.domains.specs.Place.{Place}
use Rattle.domains.specs.Shape.{Shape, is_of}
use Rattle.domains.specs.Level.{two_copies}
use Rattle.domains.specs.declared.group.Group.{Group}
use Rattle.file_history.specs.World.{World}
use Rattle.file_history.specs.Bytes.{bytes_after}
use Rattle.file_history.specs.Layout.{layout_after}
use Rattle.file_history.specs.Step.{IsLegalLogWhere}
use Rattle.file_history.specs.declared.entry.FileEvent.{FileEvent}
use Rattle.file_history.specs.declared.entry.FileEvent.TheVariants.{Created, Written}
use Rattle.file_history.specs.declared.entry.NotedEntry.{NotedEntry}
use Rattle.map_laws.specs.MappedGroups.{IsMapped, bytes_of_units}
use Rattle.map_laws.specs.Limits.{IsWithinLimits}
use Rattle.map_laws.proofs.LaterLogs.{mapped_groups_keep_bytes, mapped_groups_stood}

abbrev cluster : Shape
cluster = record { nodes = 2; drives = 1; slots = 16; unit = 8 }

abbrev world : World
world = record { level = two_copies; shape = cluster; epochs = 0; up = λ epoch d. is_of cluster d; gone = λ epoch d. false }

abbrev placed : ℕ → ℕ → Place
placed node slot = record { drive = record { node = node; drive = 1 }; slot = slot }

abbrev mirror : ℕ → ℕ → Group
mirror generation slot = record { generation = generation; n = 1; m = 1; places = placed 1 slot ∷ placed 2 slot ∷ [] }

abbrev noted : ℕ → FileEvent → List ℕ → NotedEntry
noted call event payload = record { entry = record { by = record { actor = 1; call = call }; epoch = 0; event = event }; payload = payload }

-- five bytes, and then two in the next unit
abbrev log : List NotedEntry
log =
    noted 1 (Created (mirror 0 0)) []
    ∷ noted 2 (Written 0 5 5 (record { old = []; new = mirror 1 1 ∷ []; inode = mirror 2 2 })) (codes "hello") ∷ []

abbrev more : List NotedEntry
more = noted 3 (Written 8 2 10 (record { old = []; new = mirror 3 3 ∷ []; inode = mirror 4 4 })) (codes "ab") ∷ []

limits : IsWithinLimits world (log ++ more)
limits = record {
  cluster = record {
    some_node = lit≤ tt;
    nodes = lit≤ tt;
    some_drive = lit≤ tt;
    drives = lit≤ tt;
    all_drives = lit≤ tt;
    some_slot = lit≤ tt;
    slots = lit≤ tt;
    least_unit = lit≤ tt;
    most_unit = lit≤ tt;
  };
  declared = (9, lit< tt, refl);
  levels = (tt, (tt, (tt, tt)));
  entries = lit≤ tt;
}

legal : IsLegalLogWhere ⊥ world (log ++ more)
legal = search rules

-- the first group stands after the second write where it stood, with the bytes that it had
stands : IsMapped (layout_after two_copies (log ++ more)).groups (mirror 1 1) 0
stands = inl (refl, refl)

stood : IsMapped (layout_after two_copies log).groups (mirror 1 1) 0
stood = mapped_groups_stood world log more (mirror 1 1) 0 limits legal stands (lit< tt)

keeps : bytes_of_units 8 (bytes_after (log ++ more)) 0 1 ≡ bytes_of_units 8 (bytes_after log) 0 1
keeps = mapped_groups_keep_bytes world log more (mirror 1 1) 0 limits legal stands (lit< tt)

its_bytes : bytes_of_units 8 (bytes_after (log ++ more)) 0 1 ≡ codes "hello" ++ replicate 3 0
its_bytes = refl

-- the second stands behind it, and did not stand before, since its generation is a new one
second : IsMapped (layout_after two_copies (log ++ more)).groups (mirror 3 3) 1
second = inr (inl (refl, refl))

new : IsMapped (layout_after two_copies log).groups (mirror 3 3) 1 → ⊥
new (inl here) = let same : 1 ≡ 3 = ap (λ (g : Group). g.generation) here.0 in absurd (omega (arith, same))
new (inr later) = later

-- a group does not begin elsewhere than it does
elsewhere : IsMapped (layout_after two_copies (log ++ more)).groups (mirror 3 3) 0 → ⊥
elsewhere (inl here) = let same : 1 ≡ 3 = ap (λ (g : Group). g.generation) here.0 in absurd (omega (arith, same))
elsewhere (inr (inl here)) = let same : 1 ≡ 0 = here.1 in absurd (omega (arith, same))
elsewhere (inr (inr later)) = later
