use Rattle.std.proofs.Common.{ℕ, List, sym, subst}
use Rattle.file_writes.proofs.WriteTryLemmas.{exact_terms}
use Rattle.range_writes.proofs.StandingSlots.{run_stands}
use Rattle.range_writes.specs.ReadyWrites.{IsReadyWrite}
use Rattle.file_writes.proofs.trying.place_and_switch.Goals as goal

pub place_write-requires-clause-terms : goal.place_write-requires-clause-terms
place_write-requires-clause-terms g c κs within = exact_terms c.args.file.now c.args.terms.now.view c.args.terms.now c.requires.terms

pub switch_placed-requires-clause-ready : goal.switch_placed-requires-clause-ready
switch_placed-requires-clause-ready g c κs within =
    let place_of = g.S.Slot.place_of in
    let content = g.S.Slot.content in
    let len_of = g.S.Slot.len_of in
    let x = c.args.file.now in
    let t = c.args.terms.now in
    let plan = c.args.plan.now in
    let run = c.in-Ok-place_write.placed in
    let made = c.in-Ok-place_write.ensures.placed in
    let stands = run_stands place_of content len_of g.S.Slot.faults t x.shape made.bytes plan.chunks _ 0 run.groups run.inode _ _ made.placed in (
      made.bytes,
      subst (λ (payload : List ℕ). IsReadyWrite place_of content len_of x t.view t plan c.args.offset payload made.bytes run.groups run.inode) (sym c.in-Ok.ensures.1)
          (record {
            plan_is = c.requires.plan;
            some = c.requires.some;
            terms = exact_terms x t.view t c.requires.terms;
            groups_hold = stands.0;
            inode_stands = stands.1;
            written = made.written;
          }),
    )
