use Rattle.plans.proofs.Tight.{day_possible}
use Rattle.plans.proofs.day_possible.Goals as goal

pub returns : goal.returns
returns c = day_possible
