use Rattle.narrowing.specs.Counting.{tabled}
use Rattle.narrowing.proofs.Writes.{Sums}
use Rattle.narrowing.proofs.shortage.sum_marks.Given as goal

abbrev pub invariant-loop-v : goal.invariant-loop-v
invariant-loop-v l = Sums (tabled l.marks) 255 l.v l.before
