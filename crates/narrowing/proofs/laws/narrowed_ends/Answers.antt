use Rattle.narrowing.proofs.Meaning.{narrowed_ends}
use Rattle.narrowing.proofs.laws.narrowed_ends.Goals as goal

pub returns : goal.returns
returns c = narrowed_ends
