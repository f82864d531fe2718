use Rattle.std.proofs.Common.{ap, ◌∙◌}
use Rattle.ledger.specs.Calls.{Edit.withdraw, with_held}
use Rattle.state.specs.Model.{ledger_of}
use Rattle.state.specs.Near.{near_all}
use Rattle.state.proofs.Nearness.{near_without}
use Rattle.state.proofs.Refusing.{no_fault}
use Rattle.state.proofs.Settling.{edits_to}
use Rattle.state.proofs.state.State.withdraw.Goals as goal

pub invariant_of-next : goal.invariant_of-next
invariant_of-next g c =
    let s = c.args.self.now in
    record {
      early = s.early;
      slots = s.slots;
      near = ap (near_all s.today) c.remove.ensures.held ∙ near_without s.today c.args.number (ledger_of s).held s.near;
    }

pub returns : goal.returns
returns g c =
    let s = c.args.self.now in
    edits_to (g.C.Calendar.told c.args.calendar.now) (ledger_of s) (withdraw c.args.number) _ _
    (no_fault c.check_withdraw.result c.check_withdraw.ensures c.map_err.ensures.variant c.in_ok-map_err.was) c.settle.auto.marks _ _
    c.settle.result (ap (λ os. with_held os (ledger_of s)) c.remove.ensures.held) c.settle.ensures
