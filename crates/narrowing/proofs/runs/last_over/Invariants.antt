use Rattle.narrowing.specs.Counting.{Fits}
use Rattle.narrowing.proofs.runs.last_over.Given as goal

abbrev pub invariant-loop-p : goal.invariant-loop-p
invariant-loop-p l = Fits l.row l.before l.top l.p
