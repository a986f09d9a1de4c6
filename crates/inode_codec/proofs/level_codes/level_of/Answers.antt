use Rattle.std.proofs.Common.{◌≡◌, Ok, sym, subst}
use Rattle.domains.specs.Level.{Level}
use Rattle.inode_codec.specs.Inode.{level_code}
use Rattle.inode_codec.specs.InodeReader.{level_at}
use Rattle.inode_codec.proofs.LevelCodes.{code_again, is_row}
use Rattle.inode_codec.proofs.level_codes.level_of.Goals as goal

pub unreachable-requires : goal.unreachable-requires
unreachable-requires c = c.in-Err.ensures.refused (level_at c.args.code) (is_row c.args.code c.requires) (sym c.name_of.ensures)

module _ (c : goal.In-Ok) where
  level_is : c.in-Ok.level ≡ level_at c.args.code
  level_is =
      let found : c.read.result ≡ Ok (level_at c.args.code) = c.read.ensures.every (level_at c.args.code) (is_row c.args.code c.requires) (sym c.name_of.ensures) in
      let read : c.read.result ≡ Ok c.in-Ok.level = c.in-Ok.is in
      cc

pub returns-clause-level : goal.returns-clause-level
returns-clause-level c = level_is c

pub returns-clause-code : goal.returns-clause-code
returns-clause-code c = subst (λ (l : Level). level_code l ≡ c.args.code) (sym (level_is c)) (code_again c.args.code c.requires)
