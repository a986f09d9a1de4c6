use Rattle.file_core.proofs.FileAccounts.{accounts_balance as proved}
use Rattle.file_core.proofs.laws.accounts_balance.Goals as goal

pub returns : goal.returns
returns c = proved
