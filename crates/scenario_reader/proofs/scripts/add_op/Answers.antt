use Rattle.std.proofs.Common.{◌∙◌, ap, arith, sym}
use Rattle.std.specs.Result.{is_ok}
use Rattle.scenario_reader.specs.Resolved.{pushed}
use Rattle.scenario_reader.proofs.ScriptLists.{on_ok, set-pushed}
use Rattle.scenario_reader.proofs.scripts.add_op.Goals as goal

pub returns : goal.returns
returns c =
    let longer = on_ok c.push.result (sym c.map_err.ensures.variant ∙ ap is_ok c.in_ok-map_err.was) c.push.ensures.ok in
    let place = c.from.ensures in
    let some = c.requires.some in
    let few = c.requires.few in
    set-pushed c.args.scripts.now.items c.from.result c.index_mut.result.now c.push.new.self c.args.op (omega (arith, place, some, few)) c.index_mut.ensures.value longer
    ∙ ap (λ n. pushed c.args.scripts.now.items n c.args.op) place
