use Rattle.std.proofs.Common.{◌≡◌, rules}
use Rattle.std.specs.List.{insert}
use Rattle.engine_core.specs.SavedJobs.{before_in, put}
use Rattle.engine_core.proofs.SavedLists.{insert_put}
use Rattle.engine_core.proofs.saved.put.Goals as goal

pub returns-in-Ok : goal.returns-in-Ok
returns-in-Ok c =
    let whole : insert c.args.saved.now.items (before_in c.args.job.job c.args.saved.now.items) c.args.job ≡ put c.args.job c.args.saved.now.items = insert_put c.args.job c.args.saved.now.items in
    search rules
