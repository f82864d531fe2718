use Rattle.ledger.proofs.Worked.{worked_cases}
use Rattle.ledger.proofs.worked_cases.Goals as goal

pub returns : goal.returns
returns c = worked_cases
