use Rattle.std.proofs.Common.{rules}
use Rattle.state.specs.Model.{ledger_of}
use Rattle.state.proofs.Horizon.{pairs_from}
use Rattle.state.proofs.state.State.pairs.Goals as goal

pub returns : goal.returns
returns g c =
    pairs_from (g.C.Calendar.told c.args.calendar.now) (ledger_of c.args.self.now) _ _ c.from_fn.result c.from_fn.ensures.items
    (λ i y q t. (search rules, search rules))
