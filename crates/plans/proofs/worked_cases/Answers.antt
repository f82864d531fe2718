use Rattle.plans.proofs.Worked.{worked_cases}
use Rattle.plans.proofs.worked_cases.Goals as goal

pub returns : goal.returns
returns c = worked_cases
