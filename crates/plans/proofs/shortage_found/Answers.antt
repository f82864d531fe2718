use Rattle.plans.proofs.Shortage.{shortage_found}
use Rattle.plans.proofs.shortage_found.Goals as goal

pub returns : goal.returns
returns c = shortage_found
