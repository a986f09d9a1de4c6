-- A slot that failed is retired, and then another is drawn.
use Rattle.std.proofs.Common.{◌∷◌, length, reverse, ap, ◌∙◌, arith}
use Rattle.std.proofs.lemmas.List.{length-append}
use Rattle.placement.proofs.unit_writes.replace.Goals as goal

pub returns-then-draw_one-clause-placed : goal.returns-then-draw_one-clause-placed
returns-then-draw_one-clause-placed g c units start drawn same rose at placed =
    c.draw_one.ensures.placed units start (c.set_aside.ensures.placed c.if-not-set_aside.false units start drawn same rose at placed)

pub returns-else-draw_one-clause-no_room : goal.returns-else-draw_one-clause-no_room
returns-else-draw_one-clause-no_room g c stopped =
    let p = c.args.group.now in
    let none = c.draw_one.ensures.none c.if-draw_one.false in
    let written = ap length (c.draw_one.ensures.written ∙ c.set_aside.ensures.written) in
    let waiting = ap (λ xs. length (reverse xs)) (none.0 ∙ c.set_aside.ensures.waiting) in
    let full = c.requires.full in
    let now = length-append c.draw_one.new.group.written.items (reverse c.draw_one.new.group.waiting.items) in
    let was = length-append p.written.items (c.args.held ∷ reverse p.waiting.items) in
    record { stage = c.draw_one.ensures.stage; short = omega (arith, written, waiting, full, now, was); none = none.1 }

pub returns-else-draw_one-clause-so_far : goal.returns-else-draw_one-clause-so_far
returns-else-draw_one-clause-so_far g c stopped units start drawn same rose at placed =
    c.draw_one.ensures.placed units start (c.set_aside.ensures.placed c.if-not-set_aside.false units start drawn same rose at placed)

pub returns-then-not-set_aside-clause-lost : goal.returns-then-not-set_aside-clause-lost
returns-then-not-set_aside-clause-lost g c stopped units start placed = c.set_aside.ensures.lost c.if-not-set_aside.true units start placed

pub returns-then-not-set_aside-clause-once : goal.returns-then-not-set_aside-clause-once
returns-then-not-set_aside-clause-once g c start asked = c.set_aside.ensures.once start asked

pub returns-then-draw_one-clause-once : goal.returns-then-draw_one-clause-once
returns-then-draw_one-clause-once g c start asked = c.draw_one.ensures.once start (c.set_aside.ensures.once start asked)

pub returns-else-draw_one-clause-once : goal.returns-else-draw_one-clause-once
returns-else-draw_one-clause-once g c start asked = c.draw_one.ensures.once start (c.set_aside.ensures.once start asked)
