-- The first open drive of a node gives the slot.
use Rattle.std.proofs.Common.{◌≡◌, ◌+◌, ◌<◌, true, false, not, ◌&&◌, sym, subst, ◌∙◌}
use Rattle.std.proofs.lemmas.Bool.{and_parts, not-true}
use Rattle.domains.specs.DriveSet.{has}
use Rattle.fabric.specs.Views.{fabric_view}
use Rattle.slot_search.specs.Searches.{GivesSlot, IsSpentNow, KeepsSearch, is_closed}
use Rattle.slot_search.proofs.FirstOpenDrive.{DrawsFirst-gave, HasPassed, HasPassed-shut, HasPassed-spent}
use Rattle.slot_search.proofs.SearchSteps.{Keeps-trans}
use Rattle.slot_search.proofs.search.draw_on_node.Goals.{else-is_open-via-then-is_open+else-draw_on, else-is_open-via-else-is_open}
use Rattle.slot_search.proofs.search.draw_on_node.Goals as goal

pub returns-then-draw_on-clause-keeps : goal.returns-then-draw_on-clause-keeps
returns-then-draw_on-clause-keeps g c =
    Keeps-trans g.S.Slot.place_of (fabric_view c.args.fabric.now) c.args.request.now c.args.search.now c.loop-step.search c.draw_on.new.search
    c.args.hand.now c.loop-step.hand c.draw_on.new.hand c.loop-step.invariant.keeps c.draw_on.ensures.keeps

pub returns-then-draw_on-clause-first : goal.returns-then-draw_on-clause-first
returns-then-draw_on-clause-first g c =
    let place_of = g.S.Slot.place_of in
    let test : ((has c.args.request.now.allowed c.drive-drive.result && has c.args.request.now.up c.drive-drive.result) && not (is_closed c.loop-step.search c.drive-drive.result)) ≡ true
    = sym c.is_open.ensures ∙ c.if-is_open.true in
    let parts = and_parts (has c.args.request.now.allowed c.drive-drive.result && has c.args.request.now.up c.drive-drive.result) (not (is_closed c.loop-step.search c.drive-drive.result)) test in
    DrawsFirst-gave place_of c.args.request.now c.args.node c.args.search.now c.requires.some c.requires.within c.loop-step.step c.loop-step.search
    c.loop-step.invariant.keeps.search (subst (λ n. c.loop-step.step < n) c.drives-step-end.ensures.value c.loop-step-test.true)
    (subst (λ d. (has c.args.request.now.allowed d && has c.args.request.now.up d) ≡ true) c.drive-drive.ensures parts.0)
    (not-true (is_closed c.loop-step.search _) (subst (λ d. not (is_closed c.loop-step.search d) ≡ true) c.drive-drive.ensures parts.1))
    c.loop-step.invariant.passed c.draw_on.new.search
    (subst (λ d. GivesSlot place_of d c.loop-step.search c.draw_on.new.search) c.drive-drive.ensures (c.draw_on.ensures.given c.if-draw_on.true))

pub loop-step-preserved : goal.loop-step-preserved
loop-step-preserved g c =
    let place_of = g.S.Slot.place_of in
    let view = fabric_view c.args.fabric.now in
    let t = c.args.request.now in
    let old = c.args.search.now in
    let now = c.loop-step.search in
    let next = c.else-is_open.search in
    let low : c.loop-step.step < t.shape.drives = subst (λ n. c.loop-step.step < n) c.drives-step-end.ensures.value c.loop-step-test.true in
    let parts = λ (opens : c.is_open.result ≡ true).
    and_parts (has t.allowed c.drive-drive.result && has t.up c.drive-drive.result) (not (is_closed now c.drive-drive.result)) (sym c.is_open.ensures ∙ opens) in
    elim c.else-is_open.branch [
      | else-is_open-via-then-is_open+else-draw_on w ↦
          let spent : HasPassed place_of t c.args.node old (c.loop-step.step + 1) w.draw_on.new.search =
          HasPassed-spent place_of t c.args.node old c.requires.some c.requires.within c.loop-step.step now c.loop-step.invariant.keeps.search
          low
          (subst (λ d. (has t.allowed d && has t.up d) ≡ true) c.drive-drive.ensures (parts w.if-is_open.true).0)
          (not-true (is_closed now _) (subst (λ d. not (is_closed now d) ≡ true) c.drive-drive.ensures (parts w.if-is_open.true).1))
          c.loop-step.invariant.passed w.draw_on.new.search
          (subst (λ d. IsSpentNow t.shape d now w.draw_on.new.search) c.drive-drive.ensures (w.draw_on.ensures.none w.if-draw_on.false)) in
          record {
            keeps = subst (λ h. KeepsSearch place_of view t old next c.args.hand.now h) (sym w.hand-is)
                (subst (λ s. KeepsSearch place_of view t old s c.args.hand.now w.draw_on.new.hand) (sym w.search-is)
                (Keeps-trans place_of view t old now w.draw_on.new.search c.args.hand.now c.loop-step.hand w.draw_on.new.hand c.loop-step.invariant.keeps w.draw_on.ensures.keeps));
            passed = subst (HasPassed place_of t c.args.node old (c.loop-step.step + 1)) (sym w.search-is) spent;
          }
      | else-is_open-via-else-is_open w ↦
          let shut : HasPassed place_of t c.args.node old (c.loop-step.step + 1) now =
          HasPassed-shut place_of t c.args.node old c.requires.some c.requires.within c.loop-step.step now c.loop-step.invariant.keeps.search
          low
          (subst (λ d. ((has t.allowed d && has t.up d) && not (is_closed now d)) ≡ false) c.drive-drive.ensures (sym c.is_open.ensures ∙ w.if-is_open.false))
          c.loop-step.invariant.passed in
          record {
            keeps = subst (λ h. KeepsSearch place_of view t old next c.args.hand.now h) (sym w.hand-is)
                (subst (λ s. KeepsSearch place_of view t old s c.args.hand.now c.loop-step.hand) (sym w.search-is) c.loop-step.invariant.keeps);
            passed = subst (HasPassed place_of t c.args.node old (c.loop-step.step + 1)) (sym w.search-is) shut;
          }
    ]
