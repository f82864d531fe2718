use Rattle.ledger.proofs.Keeping.{orderly_by_calls}
use Rattle.ledger.proofs.orderly_by_calls.Goals as goal

pub returns : goal.returns
returns c = orderly_by_calls
