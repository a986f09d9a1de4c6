-- What is known of a file when a write to it is judged.
use Rattle.std.specs.Prelude.{◌≡◌, true}
use Rattle.file_history.specs.World.{Moment}
use Rattle.file_history.specs.Layout.{Layout}
use Rattle.file_history.specs.Stored.{inode_of}
use Rattle.inode_codec.specs.Inode.{IsInode}
use Rattle.write_rule.specs.Runs.{widths_of}
use Rattle.entry_checks.specs.Facts.{AreFactsOf}
use Rattle.write_checks.specs.declared.facts.MapFacts.{MapFacts}

-- the facts are those of the file at this moment, and its inode can be spelled
pub record AreMapFactsOf (f : MapFacts) (now : Moment) (l : Layout) : Type 0 where
  pub file : AreFactsOf f.file now l
  pub widths : widths_of l.groups ≡ f.widths.now
  pub spelled : f.file.present ≡ true → IsInode (inode_of now.shape.unit l)

-- the facts are those of some file that is there
pub record IsKnown (f : MapFacts) : Type 0 where
  pub now : Moment
  pub l : Layout
  pub are : AreMapFactsOf f now l
  pub there : f.file.present ≡ true
