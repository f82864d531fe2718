-- What a table holds.
use Rattle.std.specs.Prelude.{ℕ, Bool, List, map, length, take, Ok, Err, nat_le, nat_lt}
use Rattle.plans.specs.Plans.{Window, Pair}
use Rattle.plans.specs.Narrowing.{narrowed}
use Rattle.records.specs.Checks.{Outcome}
use Rattle.ledger.specs.Orders.{Order as Held, leaving}
use Rattle.ledger.specs.Ledger.{begun_at}
use Rattle.orders.specs.declared.order.Order.{Order}
use Rattle.orders.specs.declared.table.Table.{Table}
use Rattle.orders.specs.Records.{told_span, entry_of}

-- The orders that it holds, what the ledger keeps of them, and the windows that they are told.
abbrev pub listed : Table → List Order
listed t = take t.len t.orders

abbrev pub held_in : Table → List Held
held_in t = map entry_of (listed t)

abbrev pub told_in : Table → List Window
told_in t = map told_span (listed t)

-- The asked windows, begun no earlier than today.
abbrev pub begun : ℕ → Table → List Window
begun today t = map (begun_at today) (held_in t)

-- There is room for one order more; a list has room for all orders held.
abbrev pub has_room : Table → Bool
has_room t = nat_lt (length (held_in t)) 512

abbrev pub room_for : Table → List ℕ → Bool
room_for t list = nat_le (length (held_in t)) (length list)

-- The days of the orders held, the first of a list; and the numbers that it puts on today.
abbrev pub days_of : Table → List ℕ → List ℕ
days_of t days = take (length (held_in t)) days

abbrev pub due : ℕ → Table → List ℕ → List ℕ
due today t days = leaving today (held_in t) (days_of t days)

-- The told windows after a narrowing of windows: narrowed where there is a plan, and else these windows.
abbrev pub told_after : Outcome → ℕ → List Pair → List Window → List Window
told_after (Ok _) k pairs ws = narrowed k pairs ws
told_after (Err fault) k pairs ws = ws
