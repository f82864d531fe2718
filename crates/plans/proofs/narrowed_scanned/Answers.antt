use Rattle.plans.proofs.Scanned.{narrowed_scanned}
use Rattle.plans.proofs.narrowed_scanned.Goals as goal

pub returns : goal.returns
returns c = narrowed_scanned
