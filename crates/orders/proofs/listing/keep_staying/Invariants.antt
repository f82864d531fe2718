use Rattle.orders.specs.Lists.{off}
use Rattle.orders.proofs.Parting.{Written, off_from}
use Rattle.orders.proofs.listing.keep_staying.Given as goal

abbrev pub invariant-loop-place : goal.invariant-loop-place
invariant-loop-place l = Written (off l.today l.initial.orders l.days) l.initial.orders (off_from l.today l.days l.place l.initial.orders) l.count l.place l.orders
