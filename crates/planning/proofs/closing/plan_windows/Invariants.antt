use Rattle.std.proofs.Common.{map}
use Rattle.records.specs.Bare.{span_of}
use Rattle.planning.proofs.Turns.{Kept}
use Rattle.planning.proofs.closing.plan_windows.Given as goal

abbrev pub invariant-loop-place : goal.invariant-loop-place
invariant-loop-place l = Kept l.first l.pairs l.place (map span_of l.initial.windows) (map span_of l.windows)
