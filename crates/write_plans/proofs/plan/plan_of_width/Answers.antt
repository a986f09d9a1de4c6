use Rattle.std.proofs.Common.{◌∙◌, ◌≤◌, ap, sym, arith}
use Rattle.domains.specs.Shape.{Shape}
use Rattle.inode_codec.specs.Inode.{IsInode}
use Rattle.file_core.specs.FileView.{layout_of, now_of}
use Rattle.file_history.specs.Stored.{inode_of}
use Rattle.write_plans.proofs.PlanParts.{is_plan, run_at, run_ends}
use Rattle.write_plans.proofs.PresentInodes.{inode_is}
use Rattle.write_plans.proofs.RunBounds.{new_units_small}
use Rattle.write_plans.proofs.plan.plan_of_width.Goals as goal

pub groups_after-count-requires-clause-few : goal.groups_after-count-requires-clause-few
groups_after-count-requires-clause-few g c =
    let l = layout_of c.args.file.now in
    let valid : IsInode (inode_of c.args.file.now.shape.unit l) = inode_is g.S.Slot.place_of g.S.Slot.content g.S.Slot.len_of c.args.file.now c.requires.file c.requires.present in
    let run = run_at c.args.file.now.shape.unit c.unit.result (c.unit.ensures.value ∙ ap (λ (s : Shape). s.unit) c.requires.shape) l c.args.offset c.args.len c.args.most c.replaced_run-run.result valid
    (λ is. c.replaced_run-run.ensures.run l is (sym (c.deref.ensures.value ∙ c.in-Ok.ensures.widths)) (sym c.requires.look.size)) in
    new_units_small c.args.file.now.shape.unit l c.args.offset c.args.len c.args.most c.replaced_run-run.result valid run c.requires.within

pub plan_of_run-requires-clause-within : goal.plan_of_run-requires-clause-within
plan_of_run-requires-clause-within g c =
    let l = layout_of c.args.file.now in
    let valid : IsInode (inode_of c.args.file.now.shape.unit l) = inode_is g.S.Slot.place_of g.S.Slot.content g.S.Slot.len_of c.args.file.now c.requires.file c.requires.present in
    let run = run_at c.args.file.now.shape.unit c.unit.result (c.unit.ensures.value ∙ ap (λ (s : Shape). s.unit) c.requires.shape) l c.args.offset c.args.len c.args.most c.replaced_run-run.result valid
    (λ is. c.replaced_run-run.ensures.run l is (sym (c.deref.ensures.value ∙ c.in-Ok.ensures.widths)) (sym c.requires.look.size)) in
    run_ends c.args.file.now.shape.unit l c.args.offset c.args.len c.args.most c.replaced_run-run.result c.in-Ok.heads.generations.items run c.in-Ok.ensures.generations

pub returns-in-Ok-plan_of_run : goal.returns-in-Ok-plan_of_run
returns-in-Ok-plan_of_run g c =
    let l = layout_of c.args.file.now in
    let valid : IsInode (inode_of c.args.file.now.shape.unit l) = inode_is g.S.Slot.place_of g.S.Slot.content g.S.Slot.len_of c.args.file.now c.requires.file c.requires.present in
    let run = run_at c.args.file.now.shape.unit c.unit.result (c.unit.ensures.value ∙ ap (λ (s : Shape). s.unit) c.requires.shape) l c.args.offset c.args.len c.args.most c.replaced_run-run.result valid
    (λ is. c.replaced_run-run.ensures.run l is (sym (c.deref.ensures.value ∙ c.in-Ok.ensures.widths)) (sym c.requires.look.size)) in
    let test = c.if-count-gt-GROUPS.false in
    let few : c.groups_after-count.result ≤ 256 = omega (arith, test) in record {
      tells = is_plan (now_of c.args.file.now c.args.view.now) l c.args.offset c.args.len c.args.most c.groups_after-count.result c.in-Ok.heads.generations.items
          c.replaced_run-run.result c.in-Ok-plan_of_run.plan c.requires.present c.requires.wide c.requires.some_wide run c.in-Ok.ensures.generations
          (c.groups_after-count.ensures.count c.args.file.now.shape.unit l c.args.offset c.args.len run (sym (c.from.ensures ∙ c.requires.look.groups))) few
          c.in-Ok-plan_of_run.ensures.width c.in-Ok-plan_of_run.ensures.run c.in-Ok-plan_of_run.ensures.old c.in-Ok-plan_of_run.ensures.chunks;
    }
