use Rattle.std.proofs.Common.{◌≡◌, ℕ, ◌-◌, List, ◌++◌, map, length, take, drop, sym, ap, ◌∙◌, subst, arith}
use Rattle.plans.specs.Plans.{Pair}
use Rattle.records.specs.Checks.{Outcome}
use Rattle.narrowing.specs.Narrow.{narrow_of}
use Rattle.orders.specs.declared.order.Order.{Order}
use Rattle.orders.specs.declared.table.Table.{Table}
use Rattle.orders.specs.Records.{told_span, retold, entry_of}
use Rattle.orders.specs.Tables.{listed, held_in, told_in, told_after}
use Rattle.orders.specs.Lists.{InOrder}
use Rattle.orders.proofs.Tables.{lent_all, front_lent}
use Rattle.orders.proofs.Telling.{narrow_entries, narrow_told}
use Rattle.orders.proofs.table.Table.narrow.Goals as goal

-- the orders after the narrowing of a table whose orders are begun
module _ (t : Table) (today : ℕ) (pairs : List Pair) (r : Outcome) (ys : List Order) (same : length ys ≡ length (take (t.len - 0) t.orders))
    (e : let os : List Order = take (t.len - 0) t.orders in ys ≡ narrow_of retold today pairs (map told_span os) r os) where
  abbrev after : List Order
  after = take t.len (ys ++ drop (t.len - 0) t.orders)

  now : after ≡ narrow_of retold today pairs (told_in t) r (listed t)
  now =
      lent_all t.orders ys t.len (omega arith) same ∙ e ∙ ap (λ os. narrow_of retold today pairs (map told_span os) r os) (front_lent t.orders t.len)

  held : map entry_of after ≡ held_in t
  held = ap (map entry_of) now ∙ narrow_entries today pairs (told_in t) r (listed t)

pub invariant_of-self-clause-sorted : goal.invariant_of-self-clause-sorted
invariant_of-self-clause-sorted c =
    let t = c.begin_at.new.self in
    let e = held t c.args.today c.args.pairs.now c.narrow.result c.narrow.new.records c.narrow.auto.records c.narrow.ensures.records in
    subst InOrder (sym e) t.sorted

pub returns-clause-held : goal.returns-clause-held
returns-clause-held c =
    held c.begin_at.new.self c.args.today c.args.pairs.now c.narrow.result c.narrow.new.records c.narrow.auto.records c.narrow.ensures.records
    ∙ c.begin_at.ensures.held

pub returns-clause-told : goal.returns-clause-told
returns-clause-told c =
    let today : ℕ = c.args.today in
    let pairs : List Pair = c.args.pairs.now in
    let t = c.begin_at.new.self in
    let r = c.narrow.result in
    ap (map told_span) (now t today pairs r c.narrow.new.records c.narrow.auto.records c.narrow.ensures.records) ∙ narrow_told today pairs r (listed t)
    ∙ ap (told_after r today pairs) c.begin_at.ensures.told
