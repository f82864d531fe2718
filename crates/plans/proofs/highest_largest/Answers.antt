use Rattle.plans.proofs.Scan.{highest_largest}
use Rattle.plans.proofs.highest_largest.Goals as goal

pub returns : goal.returns
returns c = highest_largest
