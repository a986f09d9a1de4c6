use Rattle.std.proofs.Common.{rules, ◌≡◌, ◌∷◌, sym, ap, ◌∙◌, arith}
use Rattle.std.specs.Result.{is_ok}
use Rattle.toml.specs.View.{array_view}
use Rattle.scenario_table.specs.Table.{actor_data}
use Rattle.scenario_table.proofs.RowLists.{rows-start, rows-step, rows-failed, rows-end, none_of, on_ok, actors_same}
use Rattle.scenario_table.proofs.rows.actors_of.Goals as goal

pub loop-value-init : goal.loop-value-init
loop-value-init c =
    let is : c.args.items.items ≡ c.into_iter-value-iterator.result.rest.items = search rules in
    rows-start actor_data c.args.items.items c.into_iter-value-iterator.result.rest.items c.new-actors.result is c.new-actors.ensures

pub returns-in_err-ops-clause-only : goal.returns-in_err-ops-clause-only
returns-in_err-ops-clause-only c =
    let is : c.loop-value.value-iterator.rest.items ≡ c.in-Some.value ∷ c.next.new.self.rest.items = search rules in
    rows-failed c.in_err-ops.field-0.0 actor_data c.loop-value.actors c.in-Some.value _ _ (array_view c.args.items) c.from_residual.result is c.loop-value.invariant
    c.in_err-ops.ensures.only c.from_residual.ensures.1

pub loop-value-preserved : goal.loop-value-preserved
loop-value-preserved c =
    let is : c.loop-value.value-iterator.rest.items ≡ c.in-Some.value ∷ c.next.new.self.rest.items = search rules in
    let pushed = on_ok c.push.result (sym c.map_err.ensures.variant ∙ ap is_ok c.in_ok-map_err.was) c.push.ensures.ok in
    rows-step actor_data c.loop-value.actors c.push.new.self c.in_ok-ops.ops c.in-Some.value _ _ (array_view c.args.items) is c.in_ok-ops.ensures.found pushed c.loop-value.invariant

pub returns-clause-found : goal.returns-clause-found
returns-clause-found c =
    let count = c.loop-value.value-iterator.rest.ok.0 in
    let ended = c.in-None.ensures.steps.0 in
    let none = none_of c.loop-value.value-iterator.rest.items (omega (arith, count, ended)) in
    rows-end actor_data c.loop-value.actors _ (array_view c.args.items) none c.loop-value.invariant

pub returns-clause-only : goal.returns-clause-only
returns-clause-only c = λ xs is.
    let count = c.loop-value.value-iterator.rest.ok.0 in
    let ended = c.in-None.ensures.steps.0 in
    let none = none_of c.loop-value.value-iterator.rest.items (omega (arith, count, ended)) in
    actors_same c.loop-value.actors xs (sym (rows-end actor_data c.loop-value.actors _ (array_view c.args.items) none c.loop-value.invariant) ∙ is)
