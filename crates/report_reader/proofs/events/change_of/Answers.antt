use Rattle.std.proofs.Common.{codes, ◌++◌, ◌∷◌, ◌∙◌, refl, arith}
use Rattle.std.specs.Fmt.{decimal}
use Rattle.report.specs.Words.{groups_text, numbers_text}
use Rattle.report_reader.specs.Lines.{inode_tail}
use Rattle.report_reader.proofs.Cuts.{number_word}
use Rattle.report_reader.proofs.ReadRefusals.{change_is}
use Rattle.report_reader.proofs.GroupsParted.{generations_fit}
use Rattle.report_reader.proofs.WordsTold.{numbers_word}
use Rattle.report_reader.proofs.events.change_of.Goals as goal

pub returns-clause-only : goal.returns-clause-only
returns-clause-only c = λ size change wide fit is.
    let tail = groups_text change.new ++ inode_tail change.inode in
    let first = c.cut.ensures.at (decimal size) (codes "old" ++ 32 ∷ (numbers_text change.old ++ 32 ∷ (codes "new" ++ 32 ∷ tail))) (number_word size wide).0 is in
    let second = c.cut-2.ensures.at (codes "old") (numbers_text change.old ++ 32 ∷ (codes "new" ++ 32 ∷ tail)) refl first.1 in
    let third = c.cut-3.ensures.at (numbers_text change.old) (codes "new" ++ 32 ∷ tail) (numbers_word change.old (generations_fit change.old fit.old)).0 second.1 in
    let fourth = c.cut-4.ensures.at (codes "new") tail refl third.1 in
    let groups = c.in-Ok.ensures.only change.new change.inode fit.new fourth.1 in (
      c.u64_of.ensures size wide first.0,
      change_is c.from_vec.result c.from_vec-2.result c.in_ok-inode.inode change (c.from_vec.ensures ∙ c.in_ok-old.ensures.only change.old fit.old third.0) (c.from_vec-2.ensures ∙ groups.0)
          (c.in_ok-inode.ensures.only change.inode fit.inode groups.1),
    )
