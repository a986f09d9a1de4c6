-- What a scenario that keeps its rules has.
use Rattle.std.proofs.Common.{◌≡◌, ℕ, suc, ◌+◌, ◌≤◌, List, [], ◌∷◌, ◌++◌, length, Bool, true, false, cond, Option, Some, None, refl, sym, ap, subst, inl, inr, arith}
use Rattle.std.specs.Prelude.{All, nat_le}
use Rattle.std.proofs.lemmas.Bool.{cases_Bool}
use Rattle.std.proofs.lemmas.Bool.Decides.{nat_tests}
use Rattle.std.proofs.lemmas.List.{length-append}
use Rattle.std.proofs.lemmas.List.Elements.{All-cons, All-nil}
use Rattle.domains.specs.Shape.{Shape}
use Rattle.operation_rules.specs.FirstPlaces.{first_where, first_start_past}
use Rattle.operation_rules.specs.OpRules.{is_outside, started_in, starts}
use Rattle.operation_rules.specs.declared.place.Place.{Place}
use Rattle.operation_rules.specs.declared.place.PlacedOp.{PlacedOp}
use Rattle.scenario.specs.declared.scenario.FileDecl.{FileDecl}
use Rattle.scenario_reader.specs.Resolved.{IsActor}
use Rattle.scenario_rules.specs.Actors.{no_place}
use Rattle.scenario_rules.specs.Files.{AreFilesOf}
use Rattle.scenario_rules.specs.Places.{all_places, script_places, AreOps}
use Rattle.scenario_rules.specs.Rules.{AllKept, FirstOf, IsNamedOf}
use Rattle.scenario_rules.specs.declared.reading.NamedScenario.{NamedScenario}
use Rattle.scenario_rules.specs.declared.rule.Rule.{Rule}
use Rattle.scenario_table.specs.declared.draft.Draft.{Draft}
use Rattle.scenario_table.specs.declared.draft.FileRow.{FileRow}

-- ---- the files

pub at_most : (n most : ℕ) → ((n ≤ most → ⊥) → ⊥) → n ≤ most
at_most n most twice = elim (cases_Bool (nat_le n most)) [
  | inl is ↦ grind (arith, nat_tests)
  | inr isnt ↦ absurd (twice (λ h. grind (arith, nat_tests)))
]

files_length : (rows : List FileRow) (files : List FileDecl) → AreFilesOf rows files → length files ≡ length rows
files_length [] [] are = refl
files_length [] (f ∷ fs) are = absurd are
files_length (r ∷ rs) [] are = absurd are
files_length (r ∷ rs) (f ∷ fs) are = ap suc (files_length rs fs are.1)

pub few_files : (d : Draft) (n : NamedScenario) → IsNamedOf d n → length n.files ≤ 256
few_files d n is =
    let rows : length d.files ≤ 256 = at_most (length d.files) 256 (λ past. is.kept.1.1.1.0 no_place (refl, λ are. past are.few)) in
    omega (arith, rows, files_length d.files n.files is.files)

-- ---- the drives

pub no_place_at : (o : Option Place) → ((p : Place) → o ≡ Some p → ⊥) → o ≡ None
no_place_at None never = refl
no_place_at (Some p) never = absurd (never p refl)

pub all_inside : (d : Draft) (n : NamedScenario) → IsNamedOf d n → first_where (is_outside n.shape) n.ops ≡ None
all_inside d n is =
    no_place_at (first_where (is_outside n.shape) n.ops)
    (λ p found. is.kept.1.1.1.1.1.1.1.0 p (record {
      ops = n.ops;
      are = is.ops;
      broken = subst (λ (s : Shape). first_where (is_outside s) n.ops ≡ Some p) is.shape found;
    }))

-- ---- the jobs

pub passed_over : (b : Bool) (p : Place) (rest : Option Place) → cond b (Some p) rest ≡ None → (b ≡ false) × (rest ≡ None)
passed_over true p rest none = absurd cc
passed_over false p rest none = (refl, none)

few_starts : (ops : List PlacedOp) (count : ℕ) → first_start_past ops count ≡ None → count ≤ 64 → count + length (started_in ops) ≤ 64
few_starts [] count none few = omega (arith, few)
few_starts (x ∷ xs) count none few =
    let over = passed_over (nat_le 65 (count + length (starts x.what))) x.place (first_start_past xs (count + length (starts x.what))) none in
    let low : count + length (starts x.what) ≤ 64 = grind (arith, nat_tests, over.0) in
    omega (arith, few_starts xs (count + length (starts x.what)) over.1 low, length-append (starts x.what) (started_in xs))

pub few_jobs : (d : Draft) (n : NamedScenario) → IsNamedOf d n → length (started_in n.ops) ≤ 64
few_jobs d n is =
    let none : first_start_past n.ops 0 ≡ None =
    no_place_at (first_start_past n.ops 0) (λ p found. is.kept.1.1.1.1.1.1.1.1.1.0 p (record { ops = n.ops; are = is.ops; broken = found })) in
    let few : 0 + length (started_in n.ops) ≤ 64 = few_starts n.ops 0 none (omega arith) in
    omega (arith, few)

-- ---- the actors

abbrev pub Within : List (Place × List ℕ) → ℕ → ℕ → Type 0
Within [] low high = Unit {0}
Within (p ∷ ps) low high = ((low ≤ p.0.actor) × (p.0.actor ≤ high)) × Within ps low high

within-append : (ps qs : List (Place × List ℕ)) (low high : ℕ) → Within ps low high → Within qs low high → Within (ps ++ qs) low high
within-append [] qs low high a b = b
within-append (p ∷ ps) qs low high a b = (a.0, within-append ps qs low high a.1 b)

within-script : (texts : List (List ℕ)) (actor number low high : ℕ) → low ≤ actor → actor ≤ high → Within (script_places texts actor number) low high
within-script [] actor number low high a b = tt
within-script (t ∷ ts) actor number low high a b = ((a, b), within-script ts actor (number + 1) low high a b)

pub within-all : (actors : List (List (List ℕ))) (actor low high : ℕ) → low ≤ actor → actor + length actors ≤ high + 1 → Within (all_places actors actor) low high
within-all [] actor low high a b = tt
within-all (texts ∷ more) actor low high a b =
    within-append (script_places texts actor 1) (all_places more (actor + 1)) low high
    (within-script texts actor 1 low high a (omega (arith, b)))
    (within-all more (actor + 1) low high (omega (arith, a)) (omega (arith, b)))

actors-within : (ps : List (Place × List ℕ)) (xs : List PlacedOp) (n : ℕ) → AreOps ps xs → Within ps 1 n → All (IsActor n) xs
actors-within [] [] n are within = All-nil (IsActor n)
actors-within [] (x ∷ xs) n are within = absurd are
actors-within (p ∷ ps) [] n are within = absurd are
actors-within (p ∷ ps) (x ∷ xs) n are within =
    let here : IsActor n x = subst (λ (q : Place). IsActor n (record { place = q; what = x.what })) (sym are.0.0) (record { some = within.0.0; few = within.0.1 }) in
    All-cons (IsActor n) x xs here (actors-within ps xs n are.1 within.1)

pub each_an_actor : (d : Draft) (n : NamedScenario) → IsNamedOf d n → All (IsActor n.actors) n.ops
each_an_actor d n is =
    actors-within (all_places d.actors 1) n.ops n.actors is.ops (within-all d.actors 1 1 n.actors (omega arith) (omega (arith, is.actors)))

-- ---- all rules

-- rules that are kept have no first that is broken
pub none_broken : (breaks : Rule → Place → Type 0) (rules : List Rule) (r : Rule) (p : Place) → AllKept breaks rules → FirstOf breaks rules r p → ⊥
none_broken breaks [] r p kept first = first
none_broken breaks (x ∷ xs) r p kept first = elim first [ inl here ↦ kept.0 p here.1 | inr later ↦ none_broken breaks xs r p kept.1 later.1 ]
