use Rattle.std.proofs.Common.{sym, subst}
use Rattle.std.proofs.lemmas.Result.{on_ok_weaker}
use Rattle.plain_file.specs.Plain.{FileView, OneEach}
use Rattle.plain_file.proofs.StoredFile.{keeps_played}
use Rattle.plain_file.proofs.file.PlainFile.play.Goals as goal

pub create-requires-clause-one_each : goal.create-requires-clause-one_each
create-requires-clause-one_each g c =
    subst (λ (f : FileView g.row.S.Denot). OneEach g.S.Slot.place_of f c.args.stock.now) (sym c.self.view_is) c.requires.one_each

pub write-requires-clause-one_each : goal.write-requires-clause-one_each
write-requires-clause-one_each g c =
    subst (λ (f : FileView g.row.S.Denot). OneEach g.S.Slot.place_of f c.args.stock.now) (sym c.self.view_is) c.requires.one_each

pub returns-in-Create-clause-conserved : goal.returns-in-Create-clause-conserved
returns-in-Create-clause-conserved g c = rw (← c.self.view_is) c.create.ensures.moves.conserved

pub returns-in-Create-clause-spared : goal.returns-in-Create-clause-spared
returns-in-Create-clause-spared g c = rw c.in-Create.is c.create.ensures.moves.spared

pub returns-in-Write-clause-conserved : goal.returns-in-Write-clause-conserved
returns-in-Write-clause-conserved g c = rw (← c.self.view_is) c.write.ensures.moves.conserved

pub returns-in-Write-clause-spared : goal.returns-in-Write-clause-spared
returns-in-Write-clause-spared g c = rw c.in-Write.is c.write.ensures.moves.spared

pub returns-in-Read-clause-conserved : goal.returns-in-Read-clause-conserved
returns-in-Read-clause-conserved g c = rw (← c.self.view_is) c.read.ensures.moves.conserved

pub returns-in-Create-clause-keeps : goal.returns-in-Create-clause-keeps
returns-in-Create-clause-keeps g c =
    let one = subst (λ (f : FileView g.row.S.Denot). OneEach g.S.Slot.place_of f c.args.stock.now) (sym c.self.view_is) c.requires.one_each in
    on_ok_weaker c.create.result
    (λ played. keeps_played g.S.Slot.place_of g.S.Slot.content _ _ _ _ _ _ _ _ _ c.nodes-nodes.ensures.within one c.create.ensures.moves played)
    c.create.ensures.played

pub returns-in-Write-clause-keeps : goal.returns-in-Write-clause-keeps
returns-in-Write-clause-keeps g c =
    let one = subst (λ (f : FileView g.row.S.Denot). OneEach g.S.Slot.place_of f c.args.stock.now) (sym c.self.view_is) c.requires.one_each in
    on_ok_weaker c.write.result
    (λ played. keeps_played g.S.Slot.place_of g.S.Slot.content _ _ _ _ _ _ _ _ _ c.nodes-nodes.ensures.within one c.write.ensures.moves played)
    c.write.ensures.played

pub returns-in-Read-clause-keeps : goal.returns-in-Read-clause-keeps
returns-in-Read-clause-keeps g c =
    let one = subst (λ (f : FileView g.row.S.Denot). OneEach g.S.Slot.place_of f c.args.stock.now) (sym c.self.view_is) c.requires.one_each in
    on_ok_weaker c.read.result
    (λ played. keeps_played g.S.Slot.place_of g.S.Slot.content _ _ _ _ _ _ _ _ _ c.nodes-nodes.ensures.within one c.read.ensures.moves played)
    c.read.ensures.played

pub returns-in-Read-clause-spared : goal.returns-in-Read-clause-spared
returns-in-Read-clause-spared g c = rw c.in-Read.is c.read.ensures.moves.spared

pub returns-in-Create-clause-ordered : goal.returns-in-Create-clause-ordered
returns-in-Create-clause-ordered g c =
    rw (← c.self.view_is) (on_ok_weaker c.create.result (λ played. played.ordered) c.create.ensures.played)

pub returns-in-Write-clause-ordered : goal.returns-in-Write-clause-ordered
returns-in-Write-clause-ordered g c =
    rw (← c.self.view_is) (on_ok_weaker c.write.result (λ played. played.ordered) c.write.ensures.played)

pub returns-in-Read-clause-ordered : goal.returns-in-Read-clause-ordered
returns-in-Read-clause-ordered g c =
    rw (← c.self.view_is) (on_ok_weaker c.read.result (λ played. played.ordered) c.read.ensures.played)
