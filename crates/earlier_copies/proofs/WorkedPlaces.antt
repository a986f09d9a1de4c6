-- A repair of a group with a dead unit that was made ready before another write of the file.
use Rattle.std.proofs.Common.{codes, ◌≡◌, ℕ, ◌++◌, inl, inr, List, [], ◌∷◌, Some, refl, sym, ap, subst, rules}
use Rattle.std.specs.List.{AllByRecursion}
use Rattle.std.proofs.lemmas.Bool.{true≢false}
use Rattle.domains.specs.Level.{two_copies}
use Rattle.domains.specs.declared.group.Group.{Group}
use Rattle.file_history.specs.World.{moment_at}
use Rattle.file_history.specs.Layout.{Layout, layout_after}
use Rattle.file_history.specs.Step.{HasPlaceForm}
use Rattle.file_history.specs.WriteRule.{generations_of}
use Rattle.file_history.specs.declared.entry.FileEvent.TheVariants.{Dead, Written}
use Rattle.file_history.specs.declared.entry.NotedEntry.{NotedEntry}
use Rattle.stale_changes.specs.Staleness.{cause_in}
use Rattle.stale_changes.specs.declared.stale.Stale.TheVariants as stale
use Rattle.earlier_copies.specs.ReadyWrites.{entries_of, last_generation}
use Rattle.earlier_copies.specs.ReadyPlaces.{IsPlaceMade, IsPlaceReady, MayBePlaced, ReadyPlace, SparesPlace, kept_units, place_basis, placed_places}
use Rattle.earlier_copies.proofs.PlacedAgain.{having}
use Rattle.earlier_copies.proofs.WorkedCopies.{log, mirror, noted, placed, world}

-- five bytes, the second unit of whose group is dead
abbrev before : List NotedEntry
before = log ++ noted 3 (Dead 1 1) [] ∷ []

-- and then two in the next unit
abbrev behind : List NotedEntry
behind = noted 4 (Written 8 2 10 (record { old = []; new = mirror 3 3 ∷ []; inode = mirror 4 4 })) (codes "ab") ∷ []

-- the first unit stays, and the second gets a new place
abbrev mended : ℕ → Group
mended generation = record { generation = generation; n = 1; m = 1; places = placed 1 1 ∷ placed 2 7 ∷ [] }

abbrev repair : ReadyPlace
repair = record { units = 1; level = two_copies; old = mirror 1 1 ∷ []; new = mended 0 ∷ []; inode = mirror 0 6 }

ready : IsPlaceReady (moment_at world 0) (layout_after two_copies before) repair
ready = record {
  level = refl;
  legal = record {
    present = refl;
    old = mirror 1 1 ∷ [];
    mapped = (refl, tt);
    generations = refl;
    form = inl (search rules);
    inode = search rules;
    numbers = (refl, refl);
    groups = search rules;
  };
  groups = refl;
}

-- the write does not stand against it, and it is legal behind the write
spared : SparesPlace 8 (last_generation (layout_after two_copies (before ++ behind)).groups) repair before behind
spared = refl

may : MayBePlaced (moment_at world 0) (layout_after two_copies (before ++ behind)) repair
may = search rules

is_made : IsPlaceMade (moment_at world 0) (layout_after two_copies (before ++ behind)) repair
is_made = record {
  present = refl;
  old = mirror 1 1 ∷ [];
  mapped = (refl, tt);
  generations = refl;
  form = inl (search rules);
  inode = search rules;
  numbers = (refl, refl);
  groups = search rules;
}

-- an entry that says its first unit is dead stands against it: the fourth of the log
abbrev dead : List NotedEntry
dead = noted 4 (Dead 1 0) [] ∷ []

stale_is : cause_in (entries_of dead) 3 (place_basis 8 (Some 1) repair) (generations_of repair.old) (kept_units repair.old repair.new) (placed_places repair) ≡ Some (stale.Dead 1 0 4)
stale_is = refl

-- and behind it the repair is not legal, though it passes its caller's tests
may_still : MayBePlaced (moment_at world 0) (layout_after two_copies (before ++ dead)) repair
may_still = search rules

abbrev later : Layout
later = layout_after two_copies (before ++ dead)

abbrev head_of : List Group → Group
head_of [] = mirror 1 1
head_of (g ∷ gs) = g

abbrev first : List ℕ → ℕ
first [] = 1
first (n ∷ ns) = n

not_made : IsPlaceMade (moment_at world 0) (layout_after two_copies (before ++ dead)) repair → ⊥
not_made made = by_form made.old made.mapped made.generations made.form
  where
    one_dead : HasPlaceForm (moment_at world 0) later (mirror 1 1 ∷ []) (mended 3 ∷ []) (mirror 4 6) → ⊥
    one_dead (inl r) = elim r.kept.0 [ inl stays ↦ true≢false stays.1 | inr new ↦ true≢false new.free ]
    one_dead (inr r) = true≢false r.places.each.0.free

    is_first : (g : Group) → having g.generation later.groups ≡ g ∷ [] → 1 ∷ [] ≡ generations_of (g ∷ []) → mirror 1 1 ≡ g
    is_first g one gens =
        let same : 1 ≡ g.generation = ap first gens in
        ap head_of (subst (λ (n : ℕ). having n later.groups ≡ g ∷ []) (sym same) one)

    by_form : (old : List Group) → AllByRecursion (λ (g : Group). having g.generation later.groups ≡ g ∷ []) old → 1 ∷ [] ≡ generations_of old
        → HasPlaceForm (moment_at world 0) later old (mended 3 ∷ []) (mirror 4 6) → ⊥
    by_form [] mapped gens form = absurd form
    by_form (g ∷ []) mapped gens form =
        one_dead (subst (λ (x : Group). HasPlaceForm (moment_at world 0) later (x ∷ []) (mended 3 ∷ []) (mirror 4 6)) (sym (is_first g mapped.0 gens)) form)
    by_form (g ∷ h ∷ gs) mapped gens form = absurd form
