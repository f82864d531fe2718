use Rattle.ledger.specs.Calls.{Edit.light}
use Rattle.state.specs.Model.{ledger_of}
use Rattle.state.proofs.Refusing.{no_fault}
use Rattle.state.proofs.Settling.{edits_to}
use Rattle.state.proofs.state.State.light.Goals as goal

pub returns : goal.returns
returns g c =
    edits_to (g.C.Calendar.told c.args.calendar.now) (ledger_of c.args.self.now) (light c.args.day) _ _
    (no_fault c.check_light.result c.check_light.ensures c.map_err.ensures.variant c.in_ok-map_err.was) c.settle.auto.marks _ _
    c.settle.result c.with_light-next.ensures c.settle.ensures
