use Rattle.ledger.proofs.Keeping.{kept_by_calls}
use Rattle.ledger.proofs.kept_by_calls.Goals as goal

pub returns : goal.returns
returns c = kept_by_calls
