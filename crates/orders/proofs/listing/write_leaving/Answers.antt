use Rattle.std.proofs.Common.{ℕ, length, arith, rules}
use Rattle.std.proofs.lemmas.Slice.Zip.{zip_end}
use Rattle.orders.proofs.Parting.{leaving_end, written_onto}
use Rattle.orders.proofs.listing.write_leaving.Goals as goal

pub returns : goal.returns
returns c =
    let os = c.args.orders.now in
    let ts = c.args.days.now in
    let i : ℕ = length c.loop-order.yielded in
    let e = zip_end os ts c.loop-order.yielded c.into_iter-order-iterator.result _ c.next.new.self _ (search rules) (search rules) c.loop-order.yielded_by c.in-None.is c.next.ensures.steps in
    let w = written_onto _ c.args.list.now _ c.loop-order.count c.loop-order.list c.loop-order.invariant.1 (leaving_end c.args.today ts i os e) (omega arith) in
    record { many = w.0; list = w.1 }
