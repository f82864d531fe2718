use Rattle.plans.specs.Plans.{most}
use Rattle.narrowing.proofs.Writes.{Sums}
use Rattle.narrowing.proofs.runs.sum_mosts.Given as goal

abbrev pub invariant-loop-v : goal.invariant-loop-v
invariant-loop-v l = Sums (most l.days.pairs.now) 65535 l.v l.before
