-- A file of five bytes whose entries write their units, and one whose units are lost behind its back.
use Rattle.std.proofs.Common.{codes, ◌≡◌, ℕ, zero, suc, ◌<◌, ◌≤◌, ◌==◌, ◌&&◌, ◌||◌, if◌then◌else◌, false, List, [], ◌∷◌, ◌++◌, length, replicate, All, Some, IfSome, inl, inr, refl, ap, subst, ◌∙◌, arith, lit<, lit≤, rules}
use Rattle.std.specs.List.{AllByRecursion}
use Rattle.std.proofs.lemmas.List.Elements.{All-cons, All-nil}
use Rattle.domains.specs.Place.{Place}
use Rattle.domains.specs.Shape.{Shape, is_of}
use Rattle.domains.specs.Level.{two_copies}
use Rattle.domains.specs.declared.group.Group.{Group}
use Rattle.galois.specs.Field.{IsByte}
use Rattle.galois.specs.Codeword.{unit_at}
use Rattle.galois.proofs.Mirrors.{mirror_codeword}
use Rattle.inode_codec.specs.Inode.{inode_bytes}
use Rattle.file_history.specs.World.{World, moment_at}
use Rattle.file_history.specs.Bytes.{bytes_after}
use Rattle.file_history.specs.Layout.{group_list, layout_after}
use Rattle.file_history.specs.Step.{IsLegalLogWhere}
use Rattle.file_history.specs.Stored.{AreHeld, HoldsGroup, IsDetermined, IsStored, inode_of}
use Rattle.file_history.specs.declared.entry.FileEvent.{FileEvent}
use Rattle.file_history.specs.declared.entry.FileEvent.TheVariants.{Created, Refused, Written}
use Rattle.file_history.specs.declared.entry.NotedEntry.{NotedEntry}
use Rattle.file_history.specs.declared.entry.Refused.TheVariants.{CreateExists}
use Rattle.map_laws.specs.Limits.{IsWithinLimits}
use Rattle.map_laws.specs.MappedGroups.{IsMapped, bytes_of_units}
use Rattle.loss_laws.specs.BorneLosses.{IsFileAtLevel, LosesOnly}
use Rattle.stored_laws.specs.WrittenUnits.{AreWrittenFrom, Contents, tells}
use Rattle.stored_laws.proofs.StoredLogs.{files_stay_stored, stored_files_bear_losses}

abbrev cluster : Shape
cluster = record { nodes = 2; drives = 1; slots = 16; unit = 8 }

-- the second node is lost after the first entry of the board's log
abbrev world : World
world = record { level = two_copies; shape = cluster; epochs = 1; up = λ epoch d. is_of cluster d && ((epoch == 0) || (d.node == 1)); gone = λ epoch d. false }

abbrev placed : ℕ → ℕ → Place
placed node slot = record { drive = record { node = node; drive = 1 }; slot = slot }

abbrev mirror : ℕ → ℕ → Group
mirror generation slot = record { generation = generation; n = 1; m = 1; places = placed 1 slot ∷ placed 2 slot ∷ [] }

abbrev noted : ℕ → FileEvent → List ℕ → NotedEntry
noted call event payload = record { entry = record { by = record { actor = 1; call = call }; epoch = 0; event = event }; payload = payload }

abbrev created : List NotedEntry
created = noted 1 (Created (mirror 0 0)) [] ∷ []

-- five bytes
abbrev log : List NotedEntry
log = created ++ noted 2 (Written 0 5 5 (record { old = []; new = mirror 1 1 ∷ []; inode = mirror 2 2 })) (codes "hello") ∷ []

abbrev hello : List ℕ
hello = codes "hello" ++ replicate 3 0

-- the first slots of the drives hold the first inode, the second the bytes, and the others the second inode
abbrev held : Place → List ℕ
held s =
    if s.slot == 1 then hello else
    if s.slot == 0 then inode_bytes (inode_of 8 (layout_after two_copies created)) else inode_bytes (inode_of 8 (layout_after two_copies log))

limits : IsWithinLimits world log
limits = record {
  cluster = record {
    some_node = lit≤ tt;
    nodes = lit≤ tt;
    some_drive = lit≤ tt;
    drives = lit≤ tt;
    all_drives = lit≤ tt;
    some_slot = lit≤ tt;
    slots = lit≤ tt;
    least_unit = lit≤ tt;
    most_unit = lit≤ tt;
  };
  declared = (9, lit< tt, refl);
  levels = (tt, (tt, tt));
  entries = lit≤ tt;
}

legal : IsLegalLogWhere ⊥ world log
legal = search rules

equal_units : (unit : List ℕ) (i : ℕ) → i < 2 → unit_at (unit ∷ unit ∷ []) i ≡ unit
equal_units unit zero within = refl
equal_units unit (suc zero) within = refl
equal_units unit (suc (suc i)) within = absurd (omega arith)

each_byte : (xs : List ℕ) → AllByRecursion IsByte xs → All IsByte xs
each_byte [] all = All-nil IsByte
each_byte (x ∷ xs) all = All-cons IsByte x xs all.0 (each_byte xs all.1)

group : HoldsGroup (tells held) 8 (mirror 1 1) (bytes_of_units 8 (bytes_after log) 0 1)
group = record {
  units = hello ∷ hello ∷ [];
  codeword = mirror_codeword 1 (hello ∷ hello ∷ []) refl
      (each_byte hello (lit< tt, (lit< tt, (lit< tt, (lit< tt, (lit< tt, (lit< tt, (lit< tt, (lit< tt, tt))))))))) (equal_units hello);
  lengths = (refl, (refl, tt));
  joined = refl;
  places = (refl, (refl, tt));
}

only_group : (g : Group) (first : ℕ) → IsMapped (layout_after two_copies log).groups g first → HoldsGroup (tells held) 8 g (bytes_of_units 8 (bytes_after log) first g.n)
only_group g first (inl here) =
    subst (λ (x : Group × ℕ). HoldsGroup (tells held) 8 x.0 (bytes_of_units 8 (bytes_after log) x.1 x.0.n)) (λ i. (here.0 i, here.1 i)) group
only_group g first (inr none) = absurd none

written : AreWrittenFrom log world [] (tells held) (tells held ∷ tells held ∷ [])
written = (
  record { stay = λ s old new. refl; groups = λ g first mapped late. absurd mapped; inode = (λ late. (refl, (refl, tt)), tt) },
  (record { stay = λ s old new. refl; groups = λ g first mapped late. only_group g first mapped; inode = (λ late. (refl, (refl, tt)), tt) }, tt),
)

stored : IsStored (tells held) 8 (layout_after two_copies log) (codes "hello")
stored = files_stay_stored world log (tells held) (tells held ∷ tells held ∷ []) limits legal written

-- the level bears the loss of a node, so the bytes are determined without it
at_level : IsFileAtLevel (layout_after two_copies log)
at_level = search rules

loses : LosesOnly (moment_at world 1) (layout_after two_copies log) (2 ∷ []) []
loses = search rules

without_a_node : IsDetermined (moment_at world 1) held (layout_after two_copies log) (codes "hello")
without_a_node = stored_files_bear_losses world log held (held ∷ held ∷ []) 1 (2 ∷ []) [] limits legal written at_level (lit≤ tt) loses

-- behind an entry that brings nothing, places that were emptied meet all that is asked but that units stay
abbrev emptied : Contents
emptied = λ s. Some []

abbrev refused : List NotedEntry
refused = log ++ noted 3 (Refused CreateExists) [] ∷ []

legal_still : IsLegalLogWhere ⊥ world refused
legal_still = search rules

no_new_group : (g : Group) (first : ℕ) → IsMapped (layout_after two_copies refused).groups g first → 3 ≤ g.generation → ⊥
no_new_group g first (inl here) late = let same : 1 ≡ g.generation = ap (λ (x : Group). x.generation) here.0 in absurd (omega (arith, same, late))
no_new_group g first (inr none) late = none

no_new_inode : AllByRecursion (λ (g : Group).
    3 ≤ g.generation → AllByRecursion (λ (s : Place). IfSome (emptied s) (λ content. content ≡ inode_bytes (inode_of 8 (layout_after two_copies refused)))) g.places)
    (group_list (layout_after two_copies refused).inode)
no_new_inode = (λ late. absurd (omega (arith, late)), tt)

-- and the file is stored no more
not_stored : IsStored emptied 8 (layout_after two_copies refused) (codes "hello") → ⊥
not_stored is = no_units is.groups.3.units is.groups.3.lengths is.groups.3.places
  where
    no_units : (units : List (List ℕ)) → AllByRecursion (λ (u : List ℕ). length u ≡ 8) units → AreHeld (placed 1 1 ∷ placed 2 1 ∷ []) units emptied → ⊥
    no_units [] lengths places = places
    no_units (u ∷ us) lengths places = let none : 0 ≡ 8 = ap (λ (l : List ℕ). length l) places.0 ∙ lengths.0 in absurd (omega (arith, none))
