-- What the type of a state keeps of its orders: nothing that a calendar has a part in.
use Rattle.std.specs.Prelude.{ℕ, ◌+◌, Bool, true, ◌&&◌, List, [], ◌∷◌, nat_le, nat_lt}
use Rattle.ledger.specs.Orders.{Order}
use Rattle.ledger.specs.Ledger.{horizon}

-- The window of an order is in order, not past, and ends within the horizon; and so are those of all orders.
abbrev pub near : ℕ → Order → Bool
near today o = nat_le o.asked.0 o.asked.1 && nat_le today o.asked.1 && nat_lt o.asked.1 (today + horizon)

abbrev pub near_all : ℕ → List Order → Bool
near_all today [] = true
near_all today (o ∷ os) = near today o && near_all today os
