-- The slot goes to its pool, or all slots of the drive are free.
use Rattle.std.proofs.Common.{inl, inr, true, false, refl}
use Rattle.std.proofs.lemmas.Bool.{both_ways}
use Rattle.slot_search.proofs.release.release.Goals as goal

pub returns-in-Ok : goal.returns-in-Ok
returns-in-Ok g c =
    let at = c.in-Ok.ensures.ok.up c.requires.up in
    record {
      keeps = record { hand = c.release.ensures.hand; number = c.release.ensures.number; board = at.board };
      yard = at.yard;
      others = at.others;
      once = record { before = at.before; after = at.after; before_is = at.before_is; after_is = at.after_is; done = inl (c.args.held, at.done) };
      gives = λ went. at;
      less = λ went. c.in-Ok.ensures.less;
      same = λ stayed. absurd (both_ways true stayed refl);
    }

pub returns-in-Err : goal.returns-in-Err
returns-in-Err g c =
    let at = c.in-Err.ensures.refused.up c.requires.up in
    record {
      keeps = record { hand = c.release.ensures.hand; number = c.release.ensures.number; board = at.board };
      yard = at.yard;
      others = at.others;
      once = record { before = at.before; after = at.after; before_is = at.before_is; after_is = at.after_is; done = inr at.done };
      gives = λ went. absurd (both_ways false refl went);
      less = λ went. absurd (both_ways false refl went);
      same = λ stayed. c.in-Err.ensures.same;
    }
