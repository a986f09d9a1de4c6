use Rattle.std.proofs.Common.{◌≡◌, ◌∙◌, ◌||◌, ◌&&◌, ℕ, Bool, ap, arith, rules}
use Rattle.domains.specs.Drive.{Drive, same_drive}
use Rattle.domains.specs.DriveSet.{has}
use Rattle.file_heads.proofs.DriveSetUnion.{before-none, before-more, before-all, is_before, drive_at}
use Rattle.file_heads.proofs.head.add_drives.Goals as goal

pub loop-rank-init : goal.loop-rank-init
loop-rank-init c = λ d is. before-none c.args.drives.now d (has c.args.set.now d)

drive : (c : goal.After-add_if_in) → c.new-drive.result ≡ drive_at c.loop-rank.rank
drive c = search rules

pub loop-rank-preserved : goal.loop-rank-preserved
loop-rank-preserved c = λ d is.
    c.add_if_in.ensures d is
    ∙ ap (λ (x : Drive). has c.loop-rank.set d || (has c.args.drives.now d && same_drive d x)) (drive c)
    ∙ ap (λ (b : Bool). b || (has c.args.drives.now d && same_drive d (drive_at c.loop-rank.rank))) (c.loop-rank.invariant d is)
    ∙ before-more c.args.drives.now c.loop-rank.rank d (has c.args.set.now d) is

pub returns : goal.returns
returns c = λ d is.
    let all : c.loop-rank.rank ≡ 512 = omega arith in
    c.loop-rank.invariant d is ∙ ap (λ (r : ℕ). has c.args.set.now d || is_before c.args.drives.now r d) all
    ∙ before-all c.args.drives.now d (has c.args.set.now d) is
