use Rattle.plans.proofs.Replies.{run_found}
use Rattle.plans.proofs.run_found.Goals as goal

pub returns : goal.returns
returns c = run_found
