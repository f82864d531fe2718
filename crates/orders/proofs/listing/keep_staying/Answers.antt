use Rattle.std.proofs.Common.{ℕ, ◌<◌, List, length, arith}
use Rattle.orders.specs.declared.order.Order.{Order}
use Rattle.orders.proofs.Places.{unused}
use Rattle.orders.proofs.Parting.{kept_more, kept_same}
use Rattle.orders.proofs.listing.keep_staying.Goals as goal
use Rattle.orders.proofs.listing.keep_staying.Goals.{then-day-today, else-day-today}

pub loop-place-preserved : goal.loop-place-preserved
loop-place-preserved c =
    let os : List Order = c.args.orders.now in
    let now : List Order = c.loop-place.orders in
    let i : ℕ = c.loop-place.place in
    let h : i < length os = omega arith in
    elim c.if-day-today.branch [
      | then-day-today w ↦ rw (w.count-is, w.orders-is) (kept_more c.args.today os _ i _ now h c.loop-place-test.true c.loop-place.invariant unused c.loop-place.auto.orders w.if-day-today.true)
      | else-day-today w ↦ rw (w.count-is, w.orders-is) (kept_same c.args.today os _ i _ now h c.loop-place-test.true c.loop-place.invariant unused w.if-day-today.false)
    ]
