use Rattle.ledger.proofs.Weighing.{marks_no_matter}
use Rattle.ledger.proofs.marks_no_matter.Goals as goal

pub returns : goal.returns
returns c = marks_no_matter
