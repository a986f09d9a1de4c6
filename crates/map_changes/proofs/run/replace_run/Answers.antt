use Rattle.std.proofs.Common.{◌∙◌, ◌++◌, ◌≤◌, ◌+◌, ◌-◌, ℕ, List, reverse, ap, subst}
use Rattle.map_changes.proofs.TurnedRuns.{Replaced, run_replaced}
use Rattle.map_changes.proofs.run.replace_run.Given.{Over}
use Rattle.map_changes.proofs.run.replace_run.Goals as goal

done : (g : Over) (c : goal.After-rotate_left-2 g) → Replaced c.args.items.now.items c.rotate_left-2.new.self.items c.args.fresh.now.items c.pop_run.ensures.popped.0 c.args.first c.args.count
done g c =
    let len = c.args.items.now.ok.0 in
    run_replaced _ _ _ _ _ _ _ _ _ _ (subst (λ (n : ℕ). c.args.first + c.args.count ≤ n) len c.requires.within)
    c.rotate_left.ensures.items c.pop_run.ensures.popped.1 c.pop_run.ensures.popped.2 c.in-Ok.ensures.items
    (ap (λ (n : ℕ). n - (c.args.first + c.args.count)) (c.len.ensures ∙ len)) c.rotate_left-2.ensures.items

pub returns-clause-items : goal.returns-clause-items
returns-clause-items g c = (done g c).items

pub returns-clause-gone : goal.returns-clause-gone
returns-clause-gone g c = c.pop_run.ensures.popped.3 ∙ ap (λ (l : List g.row.T.Denot). c.args.gone.now.items ++ reverse l) (done g c).gone
