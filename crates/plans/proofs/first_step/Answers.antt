use Rattle.plans.proofs.First.{first_step}
use Rattle.plans.proofs.first_step.Goals as goal

pub returns : goal.returns
returns c = first_step
