use Rattle.narrowing.proofs.Meaning.{plans_stay}
use Rattle.narrowing.proofs.laws.plans_stay.Goals as goal

pub returns : goal.returns
returns c = plans_stay
