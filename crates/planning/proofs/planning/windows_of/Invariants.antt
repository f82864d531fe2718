use Rattle.std.proofs.Common.{◌≡◌, map, take}
use Rattle.records.specs.Bare.{bare}
use Rattle.planning.proofs.planning.windows_of.Given as goal

abbrev pub invariant-loop-each : goal.invariant-loop-each
invariant-loop-each g l = l.windows.items ≡ map bare (take l.each-index (map g.R.Record.span l.records))
