use Rattle.std.proofs.Common.{◌∙◌, ◌<◌, ◌∷◌, ◌++◌, [], ℕ, List, length, ap, arith}
use Rattle.file_core.specs.FileView.{layout_of}
use Rattle.write_plans.proofs.TakenGroups.{generations_more, widths_more}
use Rattle.write_plans.proofs.map_heads.map_heads.Goals as goal

pub loop-position-preserved : goal.loop-position-preserved
loop-position-preserved g c =
    let below : c.loop-position.position < length (layout_of c.args.file.now).groups =
    let test = c.loop-position-test.true in let all = c.requires.groups in omega (arith, test, all) in
    let found = c.in-Some.ensures.found in record {
      generations = c.in_ok-push.ensures.items ∙ ap (λ (xs : List ℕ). xs ++ c.in-Some.group.now.generation ∷ []) c.loop-position.invariant.generations
          ∙ generations_more (layout_of c.args.file.now) c.loop-position.position c.in-Some.group.now found below;
      widths = c.in_ok-push-2.ensures.items ∙ ap (λ (xs : List ℕ). xs ++ c.in-Some.group.now.n ∷ []) c.loop-position.invariant.widths
          ∙ widths_more (layout_of c.args.file.now) c.loop-position.position c.in-Some.group.now found below;
    }
