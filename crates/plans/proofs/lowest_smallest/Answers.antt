use Rattle.plans.proofs.Scan.{lowest_smallest}
use Rattle.plans.proofs.lowest_smallest.Goals as goal

pub returns : goal.returns
returns c = lowest_smallest
