-- The ledger that a state is.
use Rattle.std.specs.Prelude.{ℕ, ◌+◌, ◌%◌, Bool, false, ◌&&◌, List, nat_le, nat_lt, slice_index_or}
use Rattle.ledger.specs.Ledger.{Ledger, horizon}
use Rattle.orders.specs.Tables.{held_in}
use Rattle.state.specs.declared.state.State.{State}

-- A day of the horizon has a slot, the day mod 56; no other day is lit.
abbrev pub lit_by : ℕ → List Bool → ℕ → Bool
lit_by today slots t = nat_le today t && nat_lt t (today + horizon) && slice_index_or slots (t % horizon) false

abbrev pub ledger_of : State → Ledger
ledger_of s = record { today = s.today; lit = lit_by s.today s.lit; held = held_in s.table }
