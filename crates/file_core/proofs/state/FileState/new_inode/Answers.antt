use Rattle.std.proofs.Common.{◌≡◌, ◌≤◌, ℕ, List, IfOk, length, sym, subst, rules}
use Rattle.inode_codec.specs.Inode.{inode_bytes}
use Rattle.file_core.specs.Creation.{empty_inode}
use Rattle.file_core.proofs.CreatedFile.{empty_inode-length, if_ok_then}
use Rattle.file_core.proofs.state.FileState.new_inode.Goals as goal

pub returns-clause-fits : goal.returns-clause-fits
returns-clause-fits g c =
    let spells : IfOk c.write.result (λ text. text.items ≡ inode_bytes (empty_inode c.self.inside.level c.self.inside.shape.unit)) = search rules in
    if_ok_then (λ text. text.items ≡ inode_bytes (empty_inode c.self.inside.level c.self.inside.shape.unit)) (λ text. length text.items ≤ 262144) c.write.result
    (λ text is. subst (λ (bytes : List ℕ). length bytes ≤ 262144) (sym is) (empty_inode-length c.self.inside.level c.self.inside.shape.unit)) spells
