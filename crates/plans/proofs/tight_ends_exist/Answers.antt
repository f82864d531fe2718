use Rattle.plans.proofs.Ends.{tight_ends_exist}
use Rattle.plans.proofs.tight_ends_exist.Goals as goal

pub returns : goal.returns
returns c = tight_ends_exist
