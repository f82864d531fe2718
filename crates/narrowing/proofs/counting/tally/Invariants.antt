use Rattle.std.proofs.Common.{◌≡◌, map, length, take}
use Rattle.narrowing.specs.Counting.{Tallied}
use Rattle.narrowing.proofs.counting.tally.Given as goal

abbrev pub invariant-loop-each : goal.invariant-loop-each
invariant-loop-each g l = (length l.table ≡ 16384) × Tallied l.day (take l.each-index (map g.R.Record.span l.records)) l.table
