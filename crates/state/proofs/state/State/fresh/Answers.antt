use Rattle.std.proofs.Common.{ℕ, Bool, List, refl, ap₂}
use Rattle.ledger.specs.Orders.{Order}
use Rattle.ledger.specs.Ledger.{Ledger}
use Rattle.state.proofs.Slots.{lit_none}
use Rattle.state.proofs.state.State.fresh.Goals as goal

pub returns : goal.returns
returns c =
    ap₂ (λ (f : ℕ → Bool) (os : List Order). let L : Ledger = record { today = 0; lit = f; held = os } in L) (lit_none 0 _ refl) c.empty.ensures
