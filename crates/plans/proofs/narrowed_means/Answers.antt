use Rattle.plans.proofs.Narrowing.{narrowed_means}
use Rattle.plans.proofs.narrowed_means.Goals as goal

pub returns : goal.returns
returns c = narrowed_means
