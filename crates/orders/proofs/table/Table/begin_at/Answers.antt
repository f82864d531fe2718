use Rattle.std.proofs.Common.{◌≡◌, ℕ, ◌-◌, List, ◌++◌, map, length, take, drop, sym, ap, ◌∙◌, subst, arith}
use Rattle.orders.specs.declared.order.Order.{Order}
use Rattle.orders.specs.declared.table.Table.{Table}
use Rattle.orders.specs.Records.{told_span, entry_of, told_begun}
use Rattle.orders.specs.Lists.{InOrder}
use Rattle.orders.specs.Tables.{listed, held_in}
use Rattle.orders.proofs.Tables.{lent_all, front_lent}
use Rattle.orders.proofs.Telling.{begin_entries, begin_told}
use Rattle.orders.proofs.table.Table.begin_at.Goals as goal

-- the orders after the loan
module _ (t : Table) (today : ℕ) (ys : List Order) (long : length ys ≡ length (take (t.len - 0) t.orders))
    (e : ys ≡ map (told_begun today) (take (t.len - 0) t.orders)) where
  now : take t.len (ys ++ drop (t.len - 0) t.orders) ≡ map (told_begun today) (listed t)
  now = lent_all t.orders ys t.len (omega arith) long ∙ e ∙ ap (map (told_begun today)) (front_lent t.orders t.len)

  held : map entry_of (take t.len (ys ++ drop (t.len - 0) t.orders)) ≡ held_in t
  held = ap (map entry_of) now ∙ begin_entries today (listed t)

pub invariant_of-self-clause-sorted : goal.invariant_of-self-clause-sorted
invariant_of-self-clause-sorted c =
    let t = c.args.self.now in
    subst InOrder (sym (held t c.args.today c.begin_at.new.orders c.begin_at.auto.orders c.begin_at.ensures)) t.sorted

pub returns : goal.returns
returns c =
    let t = c.args.self.now in
    let ys : List Order = c.begin_at.new.orders in
    record {
      held = held t c.args.today ys c.begin_at.auto.orders c.begin_at.ensures;
      told = ap (map told_span) (now t c.args.today ys c.begin_at.auto.orders c.begin_at.ensures) ∙ begin_told c.args.today (listed t);
    }
