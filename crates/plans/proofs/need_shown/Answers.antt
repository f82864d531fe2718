use Rattle.plans.proofs.Shortage.{need_shown}
use Rattle.plans.proofs.need_shown.Goals as goal

pub returns : goal.returns
returns c = need_shown
