use Rattle.std.proofs.Common.{ℕ, ◌<◌, List, length, arith}
use Rattle.std.proofs.lemmas.List.Edits.{map_over_more}
use Rattle.plans.specs.Plans.{Window}
use Rattle.narrowing.specs.Scanning.{found}
use Rattle.narrowing.proofs.Placing.{moved, taken, at_hand, moved_all}
use Rattle.narrowing.proofs.narrowing.put_windows.Goals as goal

pub window_in-first-requires : goal.window_in-first-requires
window_in-first-requires g c =
    let m = g.R.Record in
    let k : ℕ = c.args.day in
    let table : List ℕ = c.args.table.now in
    at_hand m.span (moved m.put m.span k table) k table c.args.records.now c.loop-each.records c.loop-each.each-index _ _ c.requires.within c.requires.shorter c.loop-each-test.true c.loop-each.invariant c.each-item.is c.window.ensures

pub loop-each-preserved : goal.loop-each-preserved
loop-each-preserved g c =
    let m = g.R.Record in
    let k : ℕ = c.args.day in
    let table : List ℕ = c.args.table.now in
    let w : Window = c.window.result in
    let h = at_hand m.span (moved m.put m.span k table) k table c.args.records.now c.loop-each.records c.loop-each.each-index _ w c.requires.within c.requires.shorter c.loop-each-test.true c.loop-each.invariant c.each-item.is c.window.ensures in
    let x = c.each-item.result in
    let lt : c.loop-each.each-index < length c.args.records.now = omega arith in
    let step = map_over_more (moved m.put m.span k table) c.args.records.now c.loop-each.records c.loop-each.each-index x lt c.loop-each.invariant c.each-item.is in
    let e1 = c.set_window.ensures in
    let e2 = c.window.ensures in
    let e3 = taken m.put x (found k table w) h.has_day in
    let e4 = c.window_in-first.ensures in
    cc

pub returns : goal.returns
returns g c =
    let m = g.R.Record in
    moved_all m.put m.span c.args.day c.args.table.now c.args.records.now c.loop-each.records c.loop-each.each-index c.loop-each-test.false c.loop-each.invariant
