use Rattle.narrowing.proofs.Meaning.{narrowed_twice}
use Rattle.narrowing.proofs.laws.narrowed_twice.Goals as goal

pub returns : goal.returns
returns c = narrowed_twice
