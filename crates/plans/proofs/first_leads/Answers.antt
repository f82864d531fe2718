use Rattle.plans.proofs.First.{first_leads}
use Rattle.plans.proofs.first_leads.Goals as goal

pub returns : goal.returns
returns c = first_leads
