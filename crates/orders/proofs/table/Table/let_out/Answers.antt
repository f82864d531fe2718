use Rattle.std.proofs.Common.{◌≡◌, ℕ, ◌-◌, ◌≤◌, List, ◌++◌, map, length, take, drop, sym, ap, ◌∙◌, ap₂, subst, arith}
use Rattle.std.proofs.lemmas.List.{length-take-le}
use Rattle.ledger.specs.Orders.{staying}
use Rattle.orders.specs.declared.order.Order.{Order}
use Rattle.orders.specs.declared.table.Table.{Table}
use Rattle.orders.specs.Records.{told_span, entry_of}
use Rattle.orders.specs.Lists.{InOrder, off}
use Rattle.orders.specs.Tables.{listed, held_in, days_of}
use Rattle.orders.proofs.Parting.{off_map, off_staying}
use Rattle.orders.proofs.Sorted.{in_order_staying}
use Rattle.orders.proofs.Tables.{long, lent_front, front_lent}
use Rattle.orders.proofs.table.Table.let_out.Goals as goal

-- the orders that stay are moved to the front
module _ (t : Table) (today : ℕ) (days : List ℕ) (ys : List Order) (n : ℕ) (same : length ys ≡ length (take (t.len - 0) t.orders))
    (bound : n ≤ length (take (t.len - 0) t.orders)) (front : take n ys ≡ off today (take (t.len - 0) t.orders) (take t.len days)) where
  few : n ≤ t.len
  few = omega (arith, length-take-le (t.len - 0) t.orders (omega arith))

  abbrev after : List Order
  after = take n (ys ++ drop (t.len - 0) t.orders)

  now : after ≡ off today (listed t) (days_of t days)
  now =
      lent_front t.orders ys t.len (omega arith) same n few ∙ front ∙ ap₂ (off today) (front_lent t.orders t.len) (ap (λ m. take m days) (sym (long t)))

  held : map entry_of after ≡ staying today (held_in t) (days_of t days)
  held = ap (map entry_of) now ∙ off_map entry_of today (listed t) (days_of t days) ∙ off_staying today (held_in t) (days_of t days)

pub invariant_of-self-clause-sorted : goal.invariant_of-self-clause-sorted
invariant_of-self-clause-sorted c =
    let t = c.args.self.now in
    let k = c.keep_staying-self in
    let e = held t c.args.today c.args.days.now k.new.orders k.result k.auto.orders k.ensures.bound k.ensures.front in
    subst InOrder (sym e) (in_order_staying c.args.today (held_in t) (days_of t c.args.days.now) t.sorted)

pub returns-clause-held : goal.returns-clause-held
returns-clause-held c =
    let k = c.keep_staying-self in
    held c.args.self.now c.args.today c.args.days.now k.new.orders k.result k.auto.orders k.ensures.bound k.ensures.front

pub returns-clause-told : goal.returns-clause-told
returns-clause-told c =
    let t = c.args.self.now in
    let k = c.keep_staying-self in
    ap (map told_span) (now t c.args.today c.args.days.now k.new.orders k.result k.auto.orders k.ensures.bound k.ensures.front)
    ∙ off_map told_span c.args.today (listed t) (days_of t c.args.days.now)
