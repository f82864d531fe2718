use Rattle.std.proofs.Common.{◌≡◌, ℕ, ◌<◌, ltb, List, length, get_or, ◌∙◌, arith, rules}
use Rattle.std.proofs.lemmas.Grind.{common_steps}
use Rattle.std.proofs.lemmas.List.Sorted.{IsPartitionPoint-from_clause}
use Rattle.orders.specs.declared.order.Order.{Order}
use Rattle.orders.proofs.Places.{unused, parted_below, sought, sought_past}
use Rattle.orders.proofs.listing.find.Goals as goal

pub returns-in_err-order : goal.returns-in_err-order
returns-in_err-order c =
    let n : ℕ = c.args.number in
    let os : List Order = c.args.orders.now in
    let i : ℕ = c.partition_point-place.result in
    let s = IsPartitionPoint-from_clause (λ (o : Order). ltb o.number n) os i c.partition_point-place.ensures.partitioned (parted_below n os c.requires) (λ a r f h. search rules) in
    let past : i < length os → ⊥ = grind (arith, common_steps) in
    let e = sought_past n os c.requires i s unused (λ l e. past l) in
    grind (arith, common_steps)

pub returns : goal.returns
returns c =
    let n : ℕ = c.args.number in
    let os : List Order = c.args.orders.now in
    let i : ℕ = c.partition_point-place.result in
    let s = IsPartitionPoint-from_clause (λ (o : Order). ltb o.number n) os i c.partition_point-place.ensures.partitioned (parted_below n os c.requires) (λ a r f h. search rules) in
    let within : i < length os = grind (arith, common_steps) in
    let here : c.in_ok-order.order.now ≡ get_or os i unused = grind (arith, common_steps) in
    c.then_some.ensures ∙ sought n os c.requires i s c.in_ok-order.order.now unused within here
