use Rattle.plans.proofs.Exists.{plan_exists}
use Rattle.plans.proofs.plan_exists.Goals as goal

pub returns : goal.returns
returns c = plan_exists
