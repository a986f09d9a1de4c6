-- A table with all keys has one draft.
use Rattle.std.proofs.Common.{codes, ◌≡◌, ℕ, ℤ, List, Bool, true, false, Some, sym, ◌∙◌, ap}
use Rattle.toml.specs.Data.{Data, Members, array, integer, member, no_members}
use Rattle.toml.specs.Parse.{parse_document}
use Rattle.scenario_rules.specs.Rules.{SpellsOneTable}
use Rattle.scenario_table.specs.Table.{actor_data, all_given, file_data, Given, items_by, number_member, SpellsTable, table_of}
use Rattle.scenario_table.specs.declared.draft.Draft.{Draft}

abbrev tail : Given → ℤ → ℤ → Members
tail given unit workers = number_member given.unit (codes "unit") unit (number_member given.workers (codes "workers") workers no_members)

-- both keys are there, so the numbers are theirs
tail_same : (u w : Bool) (a b c d : ℤ)
    → member (codes "unit") (integer a) (member (codes "workers") (integer b) no_members) ≡ number_member u (codes "unit") c (number_member w (codes "workers") d no_members)
    → (a ≡ c) × (b ≡ d)
tail_same true true a b c d is = (cc, cc)
tail_same true false a b c d is = absurd cc
tail_same false true a b c d is = absurd cc
tail_same false false a b c d is = absurd cc

-- the table of these values
abbrev whole : Data → Data → Data → Data → Data → Members → Members
whole actors drives files nodes slots rest =
    member (codes "actor") actors (member (codes "drives") drives (member (codes "file") files (member (codes "nodes") nodes (member (codes "slots") slots rest))))

record Same (a b c d e a' b' c' d' e' : Data) (r r' : Members) : Type 0 where
  actors : a ≡ a'
  drives : b ≡ b'
  files : c ≡ c'
  nodes : d ≡ d'
  slots : e ≡ e'
  rest : r ≡ r'

parts : (a b c d e a' b' c' d' e' : Data) (r r' : Members) → whole a b c d e r ≡ whole a' b' c' d' e' r' → Same a b c d e a' b' c' d' e' r r'
parts a b c d e a' b' c' d' e' r r' is = record { actors = cc; drives = cc; files = cc; nodes = cc; slots = cc; rest = cc }

joins : (a b c d e a' b' c' d' e' : Data) (r r' : Members) → a ≡ a' → b ≡ b' → c ≡ c' → d ≡ d' → e ≡ e' → r ≡ r' → whole a b c d e r ≡ whole a' b' c' d' e' r'
joins a b c d e a' b' c' d' e' r r' p q s t u v = cc

abbrev actors_of : Draft → Data
actors_of d = array (items_by actor_data d.actors)

abbrev files_of : Draft → Data
files_of d = array (items_by file_data d.files)

-- a text that is TOML for the table of a draft with all keys, where another text spells this draft and no other, spells no other either
pub only_draft : (text other : List ℕ) (d : Draft) → SpellsOneTable other d → parse_document text ≡ Some (table_of all_given d) → (e : Draft) → SpellsTable text e → d ≡ e
only_draft text other d one parsed e spells =
    let is : table_of all_given d ≡ table_of spells.is.given e = cc (parsed, spells.parsed, spells.is.is) in
    let g = spells.is.given in
    let same = parts (actors_of d) (integer d.drives) (files_of d) (integer d.nodes) (integer d.slots) (actors_of e) (integer e.drives) (files_of e) (integer e.nodes) (integer e.slots)
    (tail all_given d.unit d.workers) (tail g e.unit e.workers) is in
    let (units, workers) = tail_same g.unit g.workers d.unit d.workers e.unit e.workers same.rest in
    let was = one.spells.is in
    let again : table_of was.given d ≡ table_of was.given e =
    joins (actors_of d) (integer d.drives) (files_of d) (integer d.nodes) (integer d.slots) (actors_of e) (integer e.drives) (files_of e) (integer e.nodes) (integer e.slots)
    (tail was.given d.unit d.workers) (tail was.given e.unit e.workers) same.actors same.drives same.files same.nodes same.slots
    (ap (λ (z : ℤ). tail was.given z d.workers) units ∙ ap (λ (z : ℤ). tail was.given e.unit z) workers) in
    one.only e (record {
      members = one.spells.members;
      parsed = one.spells.parsed;
      is = record {
        given = was.given;
        omitted = record { unit = λ none. sym units ∙ was.omitted.unit none; workers = λ none. sym workers ∙ was.omitted.workers none };
        is = was.is ∙ again;
      };
    })
