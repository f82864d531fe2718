use Rattle.lists.proofs.Fronts.{blank_after}
use Rattle.lists.proofs.front.Front.push.Goals as goal

pub invariant_of-self-clause-blank : goal.invariant_of-self-clause-blank
invariant_of-self-clause-blank g c = let list = c.args.self.now in blank_after list.values list.len g.row.CAP c.args.number list.blank
