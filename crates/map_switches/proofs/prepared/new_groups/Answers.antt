use Rattle.std.proofs.Common.{◌≡◌, ℕ, ◌≤◌, List, length, sym, ap, subst, ◌∙◌}
use Rattle.std.proofs.lemmas.Result.{IfOk-weaker}
use Rattle.domains.specs.declared.group.Group.{Group}
use Rattle.striped_groups.specs.StoredGroups.{GroupSlots}
use Rattle.map_switches.specs.Switches.{brought_groups, groups_of, new_groups, numbered, repaired_among, run_in}
use Rattle.map_switches.proofs.BroughtGroups.{run-groups}
use Rattle.map_switches.proofs.NumberedGroups.{numbered-length}
use Rattle.map_switches.proofs.RepairedRuns.{one_logged}
use Rattle.map_switches.proofs.prepared.new_groups.Given.{Over}
use Rattle.map_switches.proofs.prepared.new_groups.Goals as goal

module _ (g : Over) (c : goal.After-brought_groups g) where
  same : brought_groups (groups_of c.run_in-run.result.now) c.args.change.now.fresh ≡ new_groups (groups_of c.args.stripes.now) c.args.change.now
  same =
      ap (λ (l : List Group). brought_groups l c.args.change.now.fresh)
      (ap (λ (l : List (GroupSlots g.row.S.Denot)). groups_of l) (c.run_in-run.ensures ∙ ap (λ (l : List ℕ). run_in l c.args.stripes.now) c.as_slice.ensures)
      ∙ run-groups c.args.change.now.old c.args.stripes.now)

pub returns-clause-groups : goal.returns-clause-groups
returns-clause-groups g c =
    IfOk-weaker c.brought_groups.result _ _ (λ groups is. is ∙ ap (λ (l : List Group). numbered l c.args.next) (same g c)) c.brought_groups.ensures

pub returns-clause-one : goal.returns-clause-one
returns-clause-one g c =
    IfOk-weaker c.brought_groups.result _ _
    (λ groups is. subst (λ (l : List Group). length (repaired_among c.args.change.now.fresh l) ≤ 1) (sym (is ∙ ap (λ (l : List Group). numbered l c.args.next) (same g c)))
    (one_logged c.args.stripes.now c.args.change.now.old c.args.change.now.fresh c.args.next c.requires.units))
    c.brought_groups.ensures

pub returns-clause-count : goal.returns-clause-count
returns-clause-count g c =
    IfOk-weaker c.brought_groups.result _ _
    (λ groups is. ap (λ (l : List Group). length l) (is ∙ ap (λ (l : List Group). numbered l c.args.next) (same g c))
    ∙ numbered-length (new_groups (groups_of c.args.stripes.now) c.args.change.now) c.args.next)
    c.brought_groups.ensures
