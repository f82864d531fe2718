-- The order as a record, and what the ledger keeps of it.
use Rattle.std.specs.Prelude.{ℕ}
use Rattle.plans.specs.Plans.{Window}
use Rattle.records.specs.declared.record.bare.Window.{Window as Bare}
use Rattle.records.specs.Bare.{span_of, put_in}
use Rattle.ledger.specs.Orders.{Order as Held}
use Rattle.ledger.specs.Ledger.{begun_at}
use Rattle.orders.specs.declared.order.Order.{Order}

-- Its window is the told one.
abbrev pub told_span : Order → Window
told_span o = span_of o.told

-- Told another window: its number and the asked window stay.
abbrev pub retold : Order → Window → Order
retold o w = record { number = o.number; asked = o.asked; told = put_in o.told w }

-- Asked for another window: its number and the told window stay.
abbrev pub reasked : Bare → Order → Order
reasked w o = record { number = o.number; asked = w; told = o.told }

-- An order as it is entered: told what was asked for.
abbrev pub new_order : ℕ → Bare → Order
new_order n w = record { number = n; asked = w; told = w }

-- What the ledger keeps: the number and the asked window.
abbrev pub entry_of : Order → Held
entry_of o = record { number = o.number; asked = span_of o.asked }

-- Told the asked window, begun no earlier than today.
abbrev pub told_begun : ℕ → Order → Order
told_begun today o = retold o (begun_at today (entry_of o))
