use Rattle.ledger.proofs.Law.{law_goes_on}
use Rattle.ledger.proofs.law_goes_on.Goals as goal

pub returns : goal.returns
returns c = law_goes_on
