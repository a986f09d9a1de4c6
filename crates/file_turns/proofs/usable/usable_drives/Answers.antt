use Rattle.std.proofs.Common.{◌≡◌, ◌∙◌, ◌&&◌, not, ℕ, Bool, ap, arith, rules}
use Rattle.domains.specs.Drive.{Drive, same_drive}
use Rattle.domains.specs.DriveSet.{has}
use Rattle.file_heads.proofs.DriveSetUnion.{drive_at}
use Rattle.file_turns.proofs.UsableDrives.{removed_before, removed-all, removed-more, removed-none}
use Rattle.file_turns.proofs.usable.usable_drives.Goals as goal

pub loop-rank-init : goal.loop-rank-init
loop-rank-init c = λ d is. removed-none c.args.up.now c.args.barred.now d

drive : (c : goal.After-remove_if_in) → c.new-drive.result ≡ drive_at c.loop-rank.rank
drive c = search rules

pub loop-rank-preserved : goal.loop-rank-preserved
loop-rank-preserved c = λ d is.
    c.remove_if_in.ensures d is
    ∙ ap (λ (x : Drive). has c.loop-rank.usable d && not (has c.args.barred.now d && same_drive d x)) (drive c)
    ∙ ap (λ (b : Bool). b && not (has c.args.barred.now d && same_drive d (drive_at c.loop-rank.rank))) (c.loop-rank.invariant d is)
    ∙ removed-more c.args.up.now c.args.barred.now c.loop-rank.rank d is

pub returns : goal.returns
returns c = λ d is.
    let all : c.loop-rank.rank ≡ 512 = omega arith in
    c.loop-rank.invariant d is ∙ ap (λ (r : ℕ). removed_before c.args.up.now c.args.barred.now r d) all
    ∙ removed-all c.args.up.now c.args.barred.now d is
