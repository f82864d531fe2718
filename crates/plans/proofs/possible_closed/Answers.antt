use Rattle.plans.proofs.Narrowing.{possible_closed}
use Rattle.plans.proofs.possible_closed.Goals as goal

pub returns : goal.returns
returns c = possible_closed
