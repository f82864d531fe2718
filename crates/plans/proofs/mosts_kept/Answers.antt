use Rattle.plans.proofs.Exists.{mosts_kept_when}
use Rattle.plans.proofs.mosts_kept.Goals as goal

pub returns : goal.returns
returns c = mosts_kept_when
