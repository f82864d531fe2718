use Rattle.plans.proofs.First.{first_single}
use Rattle.plans.proofs.first_single.Goals as goal

pub returns : goal.returns
returns c = first_single
