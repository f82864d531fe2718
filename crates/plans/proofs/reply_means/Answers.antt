use Rattle.plans.proofs.Replies.{reply_means}
use Rattle.plans.proofs.reply_means.Goals as goal

pub returns : goal.returns
returns c = reply_means
