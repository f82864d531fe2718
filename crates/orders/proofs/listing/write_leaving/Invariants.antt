use Rattle.std.proofs.Common.{◌≤◌, map, length}
use Rattle.ledger.specs.Orders.{leaving}
use Rattle.orders.specs.Records.{entry_of}
use Rattle.orders.proofs.Parting.{Written, leaving_from}
use Rattle.orders.proofs.listing.write_leaving.Given as goal

abbrev pub invariant-loop-order : goal.invariant-loop-order
invariant-loop-order l =
    (l.count ≤ length l.yielded) × Written (leaving l.today (map entry_of l.orders) l.days) l.initial.list (leaving_from l.today l.days (length l.yielded) l.orders) l.count l.count l.list
