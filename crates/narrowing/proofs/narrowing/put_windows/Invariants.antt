use Rattle.std.proofs.Common.{◌≡◌, ◌++◌, map, take, drop}
use Rattle.narrowing.proofs.Placing.{moved}
use Rattle.narrowing.proofs.narrowing.put_windows.Given as goal

abbrev pub invariant-loop-each : goal.invariant-loop-each
invariant-loop-each g l =
    let m = g.R.Record in
    l.records ≡ map (moved m.put m.span l.day l.table) (take l.each-index l.initial.records) ++ drop l.each-index l.initial.records
