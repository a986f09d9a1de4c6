use Rattle.std.proofs.Common.{drop}
use denote.Shadow.{shadow}
use denote.Text.{Utf8}
use Rattle.report_blocks.proofs.FileFronts.{IsPlaced}
use Rattle.report_blocks.proofs.files.read_files.Given as goal

-- the logs of the first files were read
abbrev pub invariant-loop-file : goal.invariant-loop-file
invariant-loop-file l = shadow (Utf8 l.rest) × IsPlaced l.files (drop l.file-index l.files) l.logs.items l.text l.rest
