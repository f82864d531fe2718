use Rattle.std.proofs.Common.{◌≡◌, ℕ, List, map, get_or, take, set, Some, sym, refl, ap, ◌∙◌, subst}
use Rattle.records.specs.declared.record.bare.Window.{Window}
use Rattle.records.specs.Bare.{span_of}
use Rattle.ledger.specs.Orders.{rewindow}
use Rattle.orders.specs.declared.order.Order.{Order}
use Rattle.orders.specs.declared.table.Table.{Table}
use Rattle.orders.specs.Records.{told_span, reasked, entry_of}
use Rattle.orders.specs.Lists.{InOrder, place_in}
use Rattle.orders.specs.Tables.{listed, held_in}
use Rattle.orders.proofs.Places.{unused}
use Rattle.orders.proofs.Edits.{found, missing, rewindow_map, rewindow_none, told_reasked}
use Rattle.orders.proofs.Sorted.{in_order_rewindow}
use Rattle.orders.proofs.Turns.{front_changed}
use Rattle.orders.proofs.Tables.{found_within}
use Rattle.orders.proofs.table.Table.change.Goals as goal

-- the order at a place is asked for another window
module _ (t : Table) (n : ℕ) (w : Window) (i : ℕ) (found_there : Some i ≡ place_in n (held_in t)) where
  abbrev after : List Order
  after = take t.len (set t.orders i (reasked w (get_or t.orders i unused)))

  now : after ≡ set (listed t) i (reasked w (get_or (listed t) i unused))
  now = front_changed (reasked w) t.orders t.len i unused (found_within t n i found_there)

  held : map entry_of after ≡ rewindow n (span_of w) (held_in t)
  held =
      ap (map entry_of) now ∙ ap (λ p. map entry_of (set (listed t) p (reasked w (get_or (listed t) p unused)))) (found n (held_in t) i found_there).0
      ∙ rewindow_map n w (listed t) unused

pub invariant_of-self-clause-sorted : goal.invariant_of-self-clause-sorted
invariant_of-self-clause-sorted c =
    let t = c.args.self.now in
    let n : ℕ = c.args.number in
    let e = held t n c.args.asked c.in-Some.place c.in-Some.ensures in
    subst InOrder (sym e) (in_order_rewindow n (span_of c.args.asked) (held_in t) t.sorted)

pub returns-in-Some : goal.returns-in-Some
returns-in-Some c =
    let t = c.args.self.now in
    let n : ℕ = c.args.number in
    let w = c.args.asked in
    let i : ℕ = c.in-Some.place in
    record { held = held t n w i c.in-Some.ensures; told = ap (map told_span) (now t n w i c.in-Some.ensures) ∙ told_reasked w (listed t) i unused }

pub returns-in_default : goal.returns-in_default
returns-in_default c =
    let t = c.args.self.now in
    record { held = rewindow_none c.args.number (span_of c.args.asked) (held_in t) (missing c.args.number (held_in t) c.in_default.ensures); told = refl }
