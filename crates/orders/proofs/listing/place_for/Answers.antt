use Rattle.std.proofs.Common.{ℕ, leb, List, sym, ◌∙◌, rules}
use Rattle.std.proofs.lemmas.List.Sorted.{IsPartitionPoint-from_clause}
use Rattle.orders.specs.declared.order.Order.{Order}
use Rattle.orders.proofs.Places.{unused, parted_upto, point_is, entry_map}
use Rattle.orders.proofs.listing.place_for.Goals as goal

pub returns-clause-place : goal.returns-clause-place
returns-clause-place c =
    let n : ℕ = c.args.number in
    let os : List Order = c.args.orders.now in
    let i : ℕ = c.partition_point.result in
    let s = IsPartitionPoint-from_clause (λ (o : Order). leb o.number n) os i c.partition_point.ensures.partitioned (parted_upto n os c.requires) (λ a r f h. search rules) in
    point_is (λ (o : Order). leb o.number n) os i unused c.partition_point.ensures.bound s ∙ sym (entry_map n os)
