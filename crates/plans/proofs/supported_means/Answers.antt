use Rattle.plans.proofs.Narrowing.{supported_means}
use Rattle.plans.proofs.supported_means.Goals as goal

pub returns : goal.returns
returns c = supported_means
