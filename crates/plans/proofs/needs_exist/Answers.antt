use Rattle.plans.proofs.NeedRight.{needs_exist}
use Rattle.plans.proofs.needs_exist.Goals as goal

pub returns : goal.returns
returns c = needs_exist
