use Rattle.ledger.proofs.Law.{law}
use Rattle.ledger.proofs.ledger_law.Goals as goal

pub returns : goal.returns
returns c = law
