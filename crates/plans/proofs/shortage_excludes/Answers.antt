use Rattle.plans.proofs.Excludes.{shortage_excludes}
use Rattle.plans.proofs.shortage_excludes.Goals as goal

pub returns : goal.returns
returns c = shortage_excludes
