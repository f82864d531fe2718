use Rattle.std.proofs.Common.{◌≡◌, ℕ, ◌+◌, ◌-◌, ◌<◌, ◌≤◌, true, List, ◌++◌, map, length, take, drop, set, Some, sym, ap, ◌∙◌, subst, arith}
use borrow.Rule.Slice.PartMut.{put_mid, mid_of}
use Rattle.std.specs.List.{insert}
use Rattle.std.proofs.lemmas.List.Sums.{prefix_len-le-length}
use Rattle.std.proofs.lemmas.Bool.{lt-ltb}
use Rattle.ledger.specs.Orders.{enter}
use Rattle.orders.specs.declared.order.Order.{Order}
use Rattle.orders.specs.declared.table.Table.{Table}
use Rattle.orders.specs.Records.{told_span, new_order, entry_of}
use Rattle.orders.specs.Lists.{InOrder, upto, entry_place}
use Rattle.orders.specs.Tables.{listed, held_in, has_room}
use Rattle.orders.proofs.Edits.{enter_map, map_inserted}
use Rattle.orders.proofs.Sorted.{in_order_enter}
use Rattle.orders.proofs.Turns.{turned_in}
use Rattle.orders.proofs.Tables.{long}
use Rattle.orders.proofs.table.Table.enter.Goals as goal

-- the order is put behind the others and turned to its place
module _ (t : Table) (o : Order) (at : ℕ) (ys : List Order) (room : t.len < 512) (place : at ≡ entry_place o.number (held_in t))
    (turned : let mid : List Order = mid_of at (t.len + 1 - at) (set t.orders t.len o) in ys ≡ drop (length mid - 1) mid ++ take (length mid - 1) mid) where
  abbrev after : List Order
  after = take (t.len + 1) (put_mid at (t.len + 1 - at) (set t.orders t.len o) ys)

  now : after ≡ insert (listed t) (entry_place o.number (held_in t)) o
  now =
      let within : at ≤ t.len = omega (arith, prefix_len-le-length (upto o.number) (held_in t), long t) in
      turned_in t.orders ys at t.len o within (omega arith) turned ∙ ap (λ k. insert (listed t) k o) place

  held : map entry_of after ≡ enter (entry_of o) (held_in t)
  held = ap (map entry_of) now ∙ enter_map o (listed t)

pub invariant_of-self-clause-sorted : goal.invariant_of-self-clause-sorted
invariant_of-self-clause-sorted c =
    let t = c.args.self.now in
    let at : ℕ = c.place_for-place.result in
    let o : Order = new_order c.args.number c.args.asked in
    let ys : List Order = c.rotate_right.new.self in
    let place : at ≡ entry_place c.args.number (held_in t) = c.place_for-place.ensures.place ∙ ap (λ l. entry_place c.args.number (map entry_of l)) c.as_slice.ensures in
    let new = c.new.ensures in
    rw new (subst InOrder (sym (held t o at ys (omega arith) place (rw new at c.rotate_right.ensures.after))) (in_order_enter (entry_of o) (held_in t) t.sorted))

pub returns : goal.returns
returns c =
    let t = c.args.self.now in
    let at : ℕ = c.place_for-place.result in
    let o : Order = new_order c.args.number c.args.asked in
    let ys : List Order = c.rotate_right.new.self in
    let place : at ≡ entry_place c.args.number (held_in t) = c.place_for-place.ensures.place ∙ ap (λ l. entry_place c.args.number (map entry_of l)) c.as_slice.ensures in
    let room : has_room t ≡ true = lt-ltb _ 512 (omega (arith, long t)) in
    let new = c.new.ensures in
    let turned = rw new at c.rotate_right.ensures.after in
    record {
      answer = rw room (ap Some place);
      held = rw (new, room) (held t o at ys (omega arith) place turned);
      told = rw (new, room) (ap (map told_span) (now t o at ys (omega arith) place turned) ∙ map_inserted told_span (listed t) _ o);
    }
