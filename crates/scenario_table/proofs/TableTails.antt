-- The keys that may be left out.
use Rattle.std.proofs.Common.{codes, ◌≡◌, ◌≢◌, ℤ, ℕ, List, Bool, true, false, Result, Ok, Err, refl, sym, ap, ◌∙◌, inl, inr}
use Rattle.std.specs.Result.{IsErrAnd}
use Rattle.toml.specs.Data.{Data, array, Members, no_members, member}
use Rattle.scenario_table.specs.Answers.{ParsesTo, ReadsAs}
use Rattle.scenario_table.specs.Table.{number_member, default_unit, default_workers, items_by, file_data, actor_data, IsTableOf}
use Rattle.scenario_table.specs.Parts.{IsNumberOr, IsOutline, IsTail}
use Rattle.scenario_table.specs.declared.draft.Draft.{Draft}
use Rattle.scenario_table.specs.declared.reading.TableFault.{TableFault}
use Rattle.scenario_table.specs.declared.reading.TableFault.TheVariants.{NotToml, Keys, NoMemory}

IsNumberOr-given : (given : Bool) (key : List ℕ) (default n : ℤ) (before rest : Members) → (given ≡ false → n ≡ default) → before ≡ number_member given key n rest
    → ((d : Data) (more : Members) → rest ≢ member key d more) → IsNumberOr key default n before rest
IsNumberOr-given true key default n before rest omitted is fresh = inl is
IsNumberOr-given false key default n before rest omitted is fresh = inr (omitted refl, is, λ d more here. fresh d more (sym is ∙ here))

given-IsNumberOr : (key : List ℕ) (default n : ℤ) (before rest : Members) → IsNumberOr key default n before rest
    → (given : Bool) × (given ≡ false → n ≡ default) × (before ≡ number_member given key n rest)
given-IsNumberOr key default n before rest is =
    elim is [ inl here ↦ (true, λ h. absurd cc, here) | inr other ↦ (false, λ h. other.0, other.1) ]

no_unit : (given : Bool) (workers : ℤ) (d : Data) (more : Members) → number_member given (codes "workers") workers no_members ≢ member (codes "unit") d more
no_unit true workers d more here = cc
no_unit false workers d more here = cc

no_workers : (d : Data) (more : Members) → no_members ≢ member (codes "workers") d more
no_workers d more here = cc

-- what stands after the unit
abbrev pub after_unit : Bool → ℤ → Members
after_unit given workers = number_member given (codes "workers") workers no_members

pub unit_in-tail : (before : Members) (unit workers : ℤ) (tail : IsTail before unit workers)
    → IsNumberOr (codes "unit") default_unit unit before (after_unit tail.given.workers workers)
unit_in-tail before unit workers tail =
    IsNumberOr-given tail.given.unit (codes "unit") default_unit unit before (after_unit tail.given.workers workers) tail.no_unit tail.is
    (no_unit tail.given.workers workers)

pub workers_in-tail : (before after : Members) (unit workers : ℤ) (tail : IsTail before unit workers) → after ≡ after_unit tail.given.workers workers
    → IsNumberOr (codes "workers") default_workers workers after no_members
workers_in-tail before after unit workers tail is =
    IsNumberOr-given tail.given.workers (codes "workers") default_workers workers after no_members tail.no_workers is no_workers

pub IsTail-numbers : (before more rest : Members) (unit workers : ℤ) → IsNumberOr (codes "unit") default_unit unit before more
    → IsNumberOr (codes "workers") default_workers workers more rest → rest ≡ no_members → IsTail before unit workers
IsTail-numbers before more rest unit workers first second none =
    let (of_unit, omitted, is_unit) = given-IsNumberOr (codes "unit") default_unit unit before more first in
    let (of_workers, same, is_workers) = given-IsNumberOr (codes "workers") default_workers workers more rest second in
    let whole : more ≡ after_unit of_workers workers = is_workers ∙ ap (λ (r : Members). number_member of_workers (codes "workers") workers r) none in
    record {
      given = record { unit = of_unit; workers = of_workers };
      no_unit = omitted;
      no_workers = same;
      is = is_unit ∙ ap (λ (r : Members). number_member of_unit (codes "unit") unit r) whole;
    }

-- the outline of the table of a draft
pub outlined : (ms : Members) (d : Draft) → IsTableOf ms d
    → IsOutline ms d.unit d.nodes d.drives d.slots d.workers (array (items_by file_data d.files)) (array (items_by actor_data d.actors))
outlined ms d is = record {
  tail = number_member is.given.unit (codes "unit") d.unit (number_member is.given.workers (codes "workers") d.workers no_members);
  is_tail = record { given = is.given; no_unit = is.omitted.unit; no_workers = is.omitted.workers; is = refl };
  is = is.is;
}

-- a text that is no TOML, or for which memory ran out, spells no draft that was read
pub not_parsed : (e : TableFault) (r : Result Draft TableFault) (ms : Members) (d : Draft) → IsErrAnd r (λ f. f ≡ e) → ParsesTo (Err e) ms → ReadsAs r d
not_parsed NotToml r ms d failed part = absurd part
not_parsed Keys r ms d failed part = absurd part
not_parsed NoMemory (Ok x) ms d failed part = absurd failed
not_parsed NoMemory (Err NotToml) ms d failed part = absurd cc
not_parsed NoMemory (Err Keys) ms d failed part = absurd cc
not_parsed NoMemory (Err NoMemory) ms d failed part = tt
