use Rattle.state.specs.Model.{ledger_of}
use Rattle.state.proofs.Refusing.{no_fault}
use Rattle.state.proofs.Asking.{douses_to}
use Rattle.state.proofs.state.State.douse.Goals as goal

pub returns : goal.returns
returns g c =
    let t = douses_to (g.C.Calendar.told c.args.calendar.now) (ledger_of c.args.self.now) c.args.day
    (no_fault c.check_douse.result c.check_douse.ensures c.map_err.ensures.variant c.in_ok-map_err.was) _ _ c.settle.result _ _
    c.with_light-next.ensures c.settle.ensures in
    record { told = t.0; ledger = t.1 }
