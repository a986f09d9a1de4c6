-- The canonical text of a scenario spells it.
use Rattle.std.proofs.Common.{◌≡◌, ℕ, ℤ, pos, negsuc, ◌≤◌, List, [], ◌∷◌, length, Bool, true, false, cond, ◌&&◌, Option, Some, None, refl, sym, ◌∙◌, ap, subst, inl, inr, arith}
use Rattle.std.specs.Prelude.{nat_le}
use Rattle.std.proofs.lemmas.Bool.{and_parts, cases_Bool}
use Rattle.std.proofs.lemmas.Bool.Decides.{nat_tests}
use Rattle.toml.specs.Parse.{parse_document}
use Rattle.operation_rules.specs.FirstPlaces.{first_where}
use Rattle.operation_rules.specs.OpRules.{file_names, is_unbuilt, is_undeclared, started_in}
use Rattle.operation_rules.specs.declared.place.Place.{Place}
use Rattle.scenario.specs.declared.scenario.FileDecl.{FileDecl}
use Rattle.scenario_rules.specs.Actors.{broken_actors, first_long, no_place}
use Rattle.scenario_rules.specs.Files.{AreFilesOf}
use Rattle.scenario_rules.specs.Numbers.{count, InRange, IsWithin}
use Rattle.scenario_rules.specs.Places.{all_places}
use Rattle.scenario_rules.specs.Rules.{IsNamedOf, row_names}
use Rattle.scenario_rules.specs.declared.reading.NamedScenario.{NamedScenario}
use Rattle.scenario_table.specs.Canonical.{draft_of, IsPlainTable, ReadsBack, table_text}
use Rattle.scenario_table.specs.Table.{all_given, table_of}
use Rattle.scenario_table.specs.declared.draft.Draft.{Draft}
use Rattle.scenario_table.specs.declared.draft.FileRow.{FileRow}
use Rattle.whole_scenario.specs.Canonical.{all_actor_lines, canonical_text}
use Rattle.whole_scenario.specs.declared.whole.Scenario.{Scenario}
use Rattle.scenario_reader.specs.Answers.{SpellsScenario}
use Rattle.scenario_reader.specs.Laws.{HasPlainText}
use Rattle.scenario_reader.specs.Resolved.{scenario_of, scripts_in}
use Rattle.scenario_reader.proofs.CanonicalLines.{actors_same, numbers_of, text_same, texts_told}
use Rattle.scenario_reader.proofs.KeptRules.{all_inside, at_most, no_place_at}
use Rattle.scenario_reader.proofs.OneTable.{only_draft}
use Rattle.scenario_reader.proofs.PlainTable.{plain_actors, plain_rows}

-- ---- the numbers

within : (low high : ℕ) (z : ℤ) → ((IsWithin low high z → ⊥) → ⊥) → IsWithin low high z
within low high (pos n) twice = elim (cases_Bool (nat_le low n && nat_le n high)) [
  | inl is ↦
      let (least, most) = and_parts (nat_le low n) (nat_le n high) is in
      record { number = n; is = refl; least = grind (arith, nat_tests, least); most = grind (arith, nat_tests, most) }
  | inr isnt ↦ absurd (twice (λ w. let same : n ≡ w.number = ap count w.is in outside n w.number w.least w.most same isnt))
]
  where
    outside : (n m : ℕ) → low ≤ m → m ≤ high → n ≡ m → (nat_le low n && nat_le n high) ≡ false → ⊥
    outside n m least most same isnt = grind (arith, nat_tests)
within low high (negsuc n) twice = absurd (twice (λ w. absurd (cc w.is)))

in_range : (d : Draft) (n : NamedScenario) → IsNamedOf d n → InRange d
in_range d n is =
    let twice : (InRange d → ⊥) → ⊥ = λ never. is.kept.0 no_place (refl, never) in
    record {
      unit = within 8 131072 d.unit (λ never. twice (λ r. never r.unit));
      nodes = within 1 32 d.nodes (λ never. twice (λ r. never r.nodes));
      drives = within 1 16 d.drives (λ never. twice (λ r. never r.drives));
      slots = within 1 4096 d.slots (λ never. twice (λ r. never r.slots));
      workers = within 1 16 d.workers (λ never. twice (λ r. never r.workers));
    }

counted : (low high : ℕ) (z : ℤ) → IsWithin low high z → pos (count z) ≡ z
counted low high z w = ap (λ (y : ℤ). pos (count y)) w.is ∙ sym w.is

counted_most : (low high n : ℕ) (z : ℤ) → IsWithin low high z → n ≡ count z → n ≤ high
counted_most low high n z w is =
    let number : count z ≡ w.number = ap count w.is in
    let most = w.most in
    omega (arith, is, number, most)

abbrev draft : ℤ → ℤ → ℤ → ℤ → ℤ → Draft → Draft
draft unit nodes drives slots workers d = record { unit = unit; nodes = nodes; drives = drives; slots = slots; workers = workers; files = d.files; actors = d.actors }

draft_same : (d : Draft) (u n r l w : ℕ) → pos u ≡ d.unit → pos n ≡ d.nodes → pos r ≡ d.drives → pos l ≡ d.slots → pos w ≡ d.workers
    → draft (pos u) (pos n) (pos r) (pos l) (pos w) d ≡ d
draft_same d u n r l w units nodes drives slots workers =
    ap (λ (z : ℤ). draft z (pos n) (pos r) (pos l) (pos w) d) units
    ∙ (ap (λ (z : ℤ). draft d.unit z (pos r) (pos l) (pos w) d) nodes
    ∙ (ap (λ (z : ℤ). draft d.unit d.nodes z (pos l) (pos w) d) drives
    ∙ (ap (λ (z : ℤ). draft d.unit d.nodes d.drives z (pos w) d) slots
    ∙ ap (λ (z : ℤ). draft d.unit d.nodes d.drives d.slots z d) workers)))

-- ---- the operations

names_same : (rows : List FileRow) (files : List FileDecl) → AreFilesOf rows files → file_names files ≡ row_names rows
names_same [] [] are = refl
names_same [] (f ∷ fs) are = absurd are
names_same (r ∷ rs) [] are = absurd are
names_same (r ∷ rs) (f ∷ fs) are =
    ap (λ (name : List ℕ). name ∷ file_names fs) are.0.name ∙ ap (λ (names : List (List ℕ)). r.name ∷ names) (names_same rs fs are.1)

all_declared : (d : Draft) (n : NamedScenario) → IsNamedOf d n → first_where (is_undeclared (file_names n.files)) n.ops ≡ None
all_declared d n is =
    no_place_at (first_where (is_undeclared (file_names n.files)) n.ops)
    (λ p found. is.kept.1.1.1.1.1.1.0 p (record {
      ops = n.ops;
      are = is.ops;
      broken = subst (λ (names : List (List ℕ)). first_where (is_undeclared names) n.ops ≡ Some p) (names_same d.files n.files is.files) found;
    }))

all_built : (d : Draft) (n : NamedScenario) → IsNamedOf d n → first_where is_unbuilt n.ops ≡ None
all_built d n is =
    no_place_at (first_where is_unbuilt n.ops) (λ p found. is.kept.1.1.1.1.1.1.1.1.1.1.1.0 p (record { ops = n.ops; are = is.ops; broken = found }))

-- ---- the table

some_files : (d : Draft) (n : NamedScenario) → IsNamedOf d n → 1 ≤ length d.files
some_files d n is = at_most 1 (length d.files) (λ never. is.kept.1.1.1.0 no_place (refl, λ are. never are.some))

few_or_many : (b : Bool) (o : Option Place) (p : Place) → cond b o (Some p) ≡ None → b ≡ true
few_or_many true o p none = refl
few_or_many false o p none = absurd cc

some_actors : (d : Draft) (n : NamedScenario) → IsNamedOf d n → 1 ≤ length d.actors
some_actors d n is =
    let none : broken_actors d.actors ≡ None = no_place_at (broken_actors d.actors) (λ p found. is.kept.1.1.1.1.0 p found) in
    let few = few_or_many (nat_le 1 (length d.actors) && nat_le (length d.actors) 16) (first_long d.actors 1) no_place none in
    let some = (and_parts (nat_le 1 (length d.actors)) (nat_le (length d.actors) 16) few).0 in
    grind (arith, nat_tests, some)

plain_table : (d : Draft) (n : NamedScenario) → IsNamedOf d n → InRange d → IsPlainTable (numbers_of (scenario_of n)) d.files d.actors
plain_table d n is range =
    let unit = counted_most 8 131072 n.shape.unit d.unit range.unit (ap (λ s. s.unit) is.shape) in
    let nodes = counted_most 1 32 n.shape.nodes d.nodes range.nodes (ap (λ s. s.nodes) is.shape) in
    let drives = counted_most 1 16 n.shape.drives d.drives range.drives (ap (λ s. s.drives) is.shape) in
    let slots = counted_most 1 4096 n.shape.slots d.slots range.slots (ap (λ s. s.slots) is.shape) in
    let workers = counted_most 1 16 n.workers d.workers range.workers is.workers in
    record {
      unit = omega (arith, unit);
      nodes = omega (arith, nodes);
      drives = omega (arith, drives);
      slots = omega (arith, slots);
      workers = omega (arith, workers);
      some_files = some_files d n is;
      some_actors = some_actors d n is;
      rows = plain_rows d.files [] n.files (λ never. is.kept.1.1.1.0 no_place (refl, λ are. never are.each)) is.files;
      ops = plain_actors d.actors 1 n.ops is.ops;
    }

draft_again : (d : Draft) (n : NamedScenario) → IsNamedOf d n → InRange d → draft_of (numbers_of (scenario_of n)) d.files d.actors ≡ d
draft_again d n is range =
    draft_same d n.shape.unit n.shape.nodes n.shape.drives n.shape.slots n.workers
    (ap (λ s. pos s.unit) is.shape ∙ counted 8 131072 d.unit range.unit)
    (ap (λ s. pos s.nodes) is.shape ∙ counted 1 32 d.nodes range.nodes)
    (ap (λ s. pos s.drives) is.shape ∙ counted 1 16 d.drives range.drives)
    (ap (λ s. pos s.slots) is.shape ∙ counted 1 4096 d.slots range.slots)
    (ap (λ (w : ℕ). pos w) is.workers ∙ counted 1 16 d.workers range.workers)

-- the canonical text is that of the draft
canonical_table : (d : Draft) (n : NamedScenario) → IsNamedOf d n → canonical_text (scenario_of n) ≡ table_text (numbers_of (scenario_of n)) d.files d.actors
canonical_table d n is =
    let range = in_range d n is in
    let names = file_names n.files in
    let jobs = started_in n.ops in
    let nodes = counted_most 1 32 n.shape.nodes d.nodes range.nodes (ap (λ s. s.nodes) is.shape) in
    let drives = counted_most 1 16 n.shape.drives d.drives range.drives (ap (λ s. s.drives) is.shape) in
    let texts = texts_told names jobs n.shape (all_places d.actors 1) n.ops (omega (arith, nodes)) (omega (arith, drives)) is.ops (all_declared d n is) (all_inside d n is) (all_built d n is) in
    let lines = ap (λ (k : ℕ). all_actor_lines names jobs (scripts_in names jobs n.ops 1 k)) is.actors ∙ actors_same names jobs d.actors 1 n.ops texts in
    text_same (scenario_of n) d.files d.actors is.files lines

canonical_parsed : ReadsBack → (d : Draft) (n : NamedScenario) → IsNamedOf d n → parse_document (canonical_text (scenario_of n)) ≡ Some (table_of all_given d)
canonical_parsed reads d n is =
    let range = in_range d n is in
    ap parse_document (canonical_table d n is)
    ∙ reads (numbers_of (scenario_of n)) d.files d.actors (plain_table d n is range)
    ∙ ap (λ (e : Draft). Some (table_of all_given e)) (draft_again d n is range)

pub canonical_plain : (text : List ℕ) (s : Scenario) → SpellsScenario text s → HasPlainText s
canonical_plain text s spells =
    let whole = spells.spells in
    let d = whole.draft in
    let n = spells.named in
    record {
      numbers = numbers_of (scenario_of n);
      files = d.files;
      actors = d.actors;
      plain = plain_table d n whole.named (in_range d n whole.named);
      is = ap canonical_text spells.is ∙ canonical_table d n whole.named;
    }

pub canonical_spells : ReadsBack → (text : List ℕ) (s : Scenario) → SpellsScenario text s → SpellsScenario (canonical_text s) s
canonical_spells reads text s spells =
    let whole = spells.spells in
    let d = whole.draft in
    let parsed : parse_document (canonical_text s) ≡ Some (table_of all_given d) =
    ap (λ (x : Scenario). parse_document (canonical_text x)) spells.is ∙ canonical_parsed reads d spells.named whole.named in
    record {
      named = spells.named;
      spells = record {
        draft = d;
        table = record {
          spells = record {
            members = table_of all_given d;
            parsed = parsed;
            is = record { given = all_given; omitted = record { unit = λ none. absurd cc; workers = λ none. absurd cc }; is = refl };
          };
          only = only_draft (canonical_text s) text d whole.table parsed;
        };
        named = whole.named;
      };
      is = spells.is;
    }
