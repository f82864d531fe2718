use Rattle.std.proofs.Common.{◌≡◌, ◌++◌, map, take, drop}
use Rattle.orders.specs.Records.{told_begun}
use Rattle.orders.proofs.listing.begin_at.Given as goal

abbrev pub invariant-loop-order : goal.invariant-loop-order
invariant-loop-order l = l.order-items ≡ map (told_begun l.today) (take l.order-index l.initial.order-items) ++ drop l.order-index l.initial.order-items
