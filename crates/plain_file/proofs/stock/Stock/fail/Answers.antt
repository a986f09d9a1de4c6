use Rattle.std.proofs.Common.{◌∙◌, ◌&&◌, not, ap, sym}
use Rattle.domains.specs.Drive.{same_drive}
use Rattle.plain_file.proofs.DriveLoss.{up_after-fail, gone_after-fail, effect_of-loss}
use Rattle.plain_file.proofs.stock.Stock.fail.Goals as goal

pub invariant_of-self-2 : goal.invariant_of-self-2
invariant_of-self-2 g c =
    let inside = c.self.inside in
    rw c.in_ok-push.ensures.items (record {
      up_set = λ d of_d.
          c.remove.ensures d of_d ∙ ap (λ b. not (same_drive d c.args.drive) && b) (c.self.invariant.up_set d of_d)
          ∙ sym (up_after-fail inside.shape inside.board.items c.args.by c.effect_of_loss-effect.result c.args.drive d);
      gone = λ d. gone_after-fail inside.board.items c.args.by c.effect_of_loss-effect.result c.args.drive d (c.self.invariant.gone d);
      free_of = c.self.invariant.free_of;
      retired_of = c.self.invariant.retired_of;
    })

pub returns-clause-effect : goal.returns-clause-effect
returns-clause-effect g c =
    let inside = c.self.inside in
    rw (c.effect_of_loss-effect.ensures.value, ← c.self.view_is)
    (effect_of-loss inside.shape inside.board.items c.args.drive _ (c.self.invariant.up_set c.args.drive c.effect_of_loss-effect.ensures.within)
    (rw (ap (λ s. s.shape) c.self.view_is) c.requires) (c.self.invariant.gone c.args.drive))
