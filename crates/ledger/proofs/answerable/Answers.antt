use Rattle.ledger.proofs.Telling.{answerable}
use Rattle.ledger.proofs.answerable.Goals as goal

pub returns : goal.returns
returns c = answerable
