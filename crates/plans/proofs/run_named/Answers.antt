use Rattle.plans.proofs.Runs.{run_named}
use Rattle.plans.proofs.run_named.Goals as goal

pub returns : goal.returns
returns c = run_named
