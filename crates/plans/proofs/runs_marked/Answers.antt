use Rattle.plans.proofs.Marked.{runs_marked}
use Rattle.plans.proofs.runs_marked.Goals as goal

pub returns : goal.returns
returns c = runs_marked
