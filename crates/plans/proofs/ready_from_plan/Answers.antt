use Rattle.plans.proofs.Tight.{ready_from_plan}
use Rattle.plans.proofs.ready_from_plan.Goals as goal

pub returns : goal.returns
returns c = ready_from_plan
