use Rattle.std.proofs.Common.{rules, ◌≡◌, ◌∷◌, [], ap, length, arith, sym, ◌∙◌, subst}
use Rattle.std.specs.Prelude.{All}
use Rattle.std.proofs.lemmas.List.{length-replicate}
use Rattle.operation_rules.specs.FirstPlaces.{first_where}
use Rattle.operation_rules.specs.OpRules.{is_outside}
use Rattle.scenario_reader.specs.Resolved.{IsActor}
use Rattle.scenario_reader.proofs.ScriptLists.{placed-start, placed-step, placed-end, first_actor, inside_next, none_left, other_actors, length-pushed}
use Rattle.scenario_reader.proofs.scripts.scripts_of.Goals as goal

pub loop-placed-init : goal.loop-placed-init
loop-placed-init c =
    let is : c.into_iter-placed-iterator.result.rest.items ≡ c.args.ops = search rules in (
      ap length c.in_ok-scripts.ensures ∙ length-replicate c.args.actors [],
      subst (λ xs. All (IsActor c.args.actors) xs) (sym is) c.requires.actors,
      ap (first_where (is_outside c.args.shape)) is ∙ c.requires.inside,
      λ names started files jobs. placed-start names started c.args.ops _ c.in_ok-scripts.scripts.items c.args.actors is c.in_ok-scripts.ensures,
    )

pub loop-placed-preserved : goal.loop-placed-preserved
loop-placed-preserved c =
    let is : c.loop-placed.placed-iterator.rest.items ≡ c.in-Some.placed ∷ c.next.new.self.rest.items = search rules in
    let (count, actors, inside, so_far) = c.loop-placed.invariant in (
      ap length c.in_ok-add_op.ensures ∙ length-pushed _ _ _ ∙ count,
      other_actors c.args.actors c.in-Some.placed _ _ is actors,
      inside_next c.args.shape c.in-Some.placed _ _ is inside,
      λ names started files jobs.
          placed-step names started _ c.loop-placed.scripts.items c.add_op.new.scripts.items c.in-Some.placed _ _ c.args.actors c.op_of-op.result is c.in_ok-add_op.ensures
          (c.op_of-op.ensures names started files jobs) (first_actor c.args.actors c.in-Some.placed _ _ is actors) count (so_far names started files jobs),
    )

pub returns : goal.returns
returns c = λ names started files jobs.
    let (count, actors, inside, so_far) = c.loop-placed.invariant in
    let left = c.loop-placed.placed-iterator.rest.ok.0 in
    let ended = c.in-None.ensures.steps.0 in
    let none = none_left c.loop-placed.placed-iterator.rest.items (omega (arith, left, ended)) in
    c.from_vec.ensures ∙ placed-end names started _ c.loop-placed.scripts.items _ c.args.actors none count (so_far names started files jobs)
