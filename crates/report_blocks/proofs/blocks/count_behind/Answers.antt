use Rattle.std.proofs.Common.{◌++◌, ◌∷◌, [], lit<, refl, sym, append_assoc}
use Rattle.std.specs.Fmt.{decimal}
use Rattle.report_reader.specs.Counts.{count_line}
use Rattle.report_reader.specs.Fits.{IsWide}
use Rattle.report_reader.proofs.Cuts.{decimal_lacks, lacks_both}
use Rattle.report_blocks.proofs.FrontLemmas.{no_line}
use Rattle.report_blocks.proofs.Outcomes.{none_found}
use Rattle.report_blocks.proofs.blocks.count_behind.Goals as goal

pub returns-in-Ok-None-clause-stopped : goal.returns-in-Ok-None-clause-stopped
returns-in-Ok-None-clause-stopped c =
    let head = c.args.head.now in
    no_line IsWide (count_line head) (λ n. head ++ decimal n) (λ n. sym (append_assoc head (decimal n) (10 ∷ [])))
    (λ n wide. lacks_both 10 head (decimal n) c.requires (decimal_lacks 10 n refl wide)) 0 (lit< tt) c.args.text.now
    (λ n wide rest is. none_found c.in-Ok-None.field-0 _ c.in-Ok-None.field-0-is (c.in-Ok-None.ensures.only n rest wide is))
