use Rattle.std.proofs.Common.{◌≡◌, ℕ, ap, ◌∙◌, ◌++◌, ◌∷◌, [], map}
use Rattle.std.proofs.lemmas.Result.{err_from_is_err_and}
use Rattle.std.proofs.lemmas.List.{map_push}
use Rattle.field_readers.specs.FieldReaders.{each}
use Rattle.checkpoints.specs.CheckpointFields.{drive_at, raw_drive, this_drive}
use Rattle.field_readers.proofs.EachInTurn.{ends, goes_on}
use Rattle.checkpoints.proofs.reading.drives_of.Goals as goal

pub returns-in_err-node : goal.returns-in_err-node
returns-in_err-node c =
    let p = err_from_is_err_and c.from_residual.result c.from_residual.ensures.1 in
    rw (p.1, p.2) (ends drive_at this_drive c.in_err-node.field-0.0 (map raw_drive c.loop-drive.drives.items) c.args.count c.loop-drive._drive (c.loop-drive.before.0, c.loop-drive.before.1) c.loop-drive.rest.now (each drive_at this_drive c.args.count (0, 0) c.args.bytes.now) c.loop-drive-test.true c.in_err-node.ensures.read c.loop-drive.invariant)

pub loop-drive-preserved : goal.loop-drive-preserved
loop-drive-preserved c =
    let n : ℕ × ℕ = (c.in_ok-node.node, c.in_ok-node.drive) in
    let made : raw_drive c.new.result ≡ n = ap raw_drive c.new.ensures in
    let e : map raw_drive c.push.new.self.items ≡ map raw_drive c.loop-drive.drives.items ++ n ∷ [] =
    rw c.in_ok-push.ensures.items (map_push raw_drive c.loop-drive.drives.items c.new.result ∙ ap (λ (d : ℕ × ℕ). map raw_drive c.loop-drive.drives.items ++ d ∷ []) made) in
    rw e (goes_on drive_at this_drive (map raw_drive c.loop-drive.drives.items) c.args.count c.loop-drive._drive (c.loop-drive.before.0, c.loop-drive.before.1) c.loop-drive.rest.now n c.in_ok-node.after.now (each drive_at this_drive c.args.count (0, 0) c.args.bytes.now) c.loop-drive-test.true c.in_ok-node.ensures.read c.loop-drive.invariant)
