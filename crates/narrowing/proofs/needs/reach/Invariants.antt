use Rattle.std.proofs.Common.{length}
use Rattle.narrowing.specs.Counting.{Reach}
use Rattle.narrowing.proofs.needs.reach.Given as goal

abbrev pub invariant-loop-held : goal.invariant-loop-held
invariant-loop-held l = Reach l.row l.needs l.start (length l.yielded) l.largest
