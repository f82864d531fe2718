use Rattle.std.proofs.Common.{◌≡◌, ℕ, ◌-◌, List, ◌++◌, map, take, drop, Some, sym, ap, ◌∙◌, subst, arith}
use borrow.Rule.Slice.PartMut.{put_mid, mid_of}
use Rattle.std.specs.List.{remove}
use Rattle.ledger.specs.Orders.{place, without}
use Rattle.orders.specs.declared.order.Order.{Order}
use Rattle.orders.specs.declared.table.Table.{Table}
use Rattle.orders.specs.Records.{told_span, entry_of}
use Rattle.orders.specs.Lists.{InOrder, place_in}
use Rattle.orders.specs.Tables.{listed, held_in}
use Rattle.orders.proofs.Edits.{found, missing, without_map, map_removed, removed_none}
use Rattle.orders.proofs.Sorted.{in_order_without}
use Rattle.orders.proofs.Turns.{turned_out}
use Rattle.orders.proofs.Tables.{found_within}
use Rattle.orders.proofs.table.Table.remove.Goals as goal

-- the order at a place is turned out
module _ (t : Table) (n i : ℕ) (ys : List Order) (found_there : Some i ≡ place_in n (held_in t))
    (turned : let mid : List Order = mid_of i (t.len - i) t.orders in ys ≡ drop 1 mid ++ take 1 mid) where
  abbrev after : List Order
  after = take (t.len - 1) (put_mid i (t.len - i) t.orders ys)

  now : after ≡ remove (listed t) (place n (held_in t))
  now = turned_out t.orders ys i t.len (found_within t n i found_there) (omega arith) turned ∙ ap (remove (listed t)) (found n (held_in t) i found_there).0

  held : map entry_of after ≡ without n (held_in t)
  held = ap (map entry_of) now ∙ without_map n (listed t)

pub invariant_of-self-clause-sorted : goal.invariant_of-self-clause-sorted
invariant_of-self-clause-sorted c =
    let t = c.args.self.now in
    let n : ℕ = c.args.number in
    let i : ℕ = c.in-Some.place in
    let ys : List Order = c.rotate_left.new.self in
    subst InOrder (sym (held t n i ys c.in-Some.ensures c.rotate_left.ensures.after)) (in_order_without n (held_in t) t.sorted)

pub returns-in-Some : goal.returns-in-Some
returns-in-Some c =
    let t = c.args.self.now in
    let n : ℕ = c.args.number in
    let i : ℕ = c.in-Some.place in
    let ys : List Order = c.rotate_left.new.self in
    record {
      held = held t n i ys c.in-Some.ensures c.rotate_left.ensures.after;
      told = ap (map told_span) (now t n i ys c.in-Some.ensures c.rotate_left.ensures.after) ∙ map_removed told_span (listed t) _;
    }

pub returns-in_default : goal.returns-in_default
returns-in_default c =
    let t = c.args.self.now in
    let n : ℕ = c.args.number in
    let os : List Order = take t.len t.orders in
    let no = missing n (held_in t) c.in_default.ensures in
    record { held = removed_none n os entry_of no ∙ sym (map_removed entry_of os _) ∙ without_map n os; told = removed_none n os told_span no }
