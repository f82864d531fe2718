use Rattle.plans.proofs.Listing.{plans_listed}
use Rattle.plans.proofs.plans_listed.Goals as goal

pub returns : goal.returns
returns c = plans_listed
