use Rattle.file_core.proofs.FileAccounts.{accounts_stay as proved}
use Rattle.file_core.proofs.laws.accounts_stay.Goals as goal

pub returns : goal.returns
returns c = proved
