use Rattle.std.proofs.Common.{length, ap, ◌∙◌}
use Rattle.ledger.specs.Calls.{Edit.change, with_held}
use Rattle.state.specs.Model.{ledger_of}
use Rattle.state.specs.Near.{near_all}
use Rattle.state.proofs.Nearness.{near_rewindow}
use Rattle.state.proofs.Passing.{change_passed}
use Rattle.state.proofs.Refusing.{no_fault}
use Rattle.state.proofs.Settling.{edits_to}
use Rattle.state.proofs.state.State.change.Goals as goal

pub invariant_of-next : goal.invariant_of-next
invariant_of-next g c =
    let s = c.args.self.now in
    let n = c.args.number in
    let f = c.args.asked.first in
    let l = c.args.asked.last in
    let pass = no_fault c.check_change.result c.check_change.ensures c.map_err.ensures.variant c.in_ok-map_err.was in
    record {
      early = s.early;
      slots = s.slots;
      near = ap (near_all s.today) c.change.ensures.held
          ∙ near_rewindow s.today n (f, l) (ledger_of s).held (change_passed (ledger_of s) n f l (length c.args.marks.now) pass) s.near;
    }

pub returns : goal.returns
returns g c =
    let s = c.args.self.now in
    edits_to (g.C.Calendar.told c.args.calendar.now) (ledger_of s) (change c.args.number c.args.asked.first c.args.asked.last) _ _
    (no_fault c.check_change.result c.check_change.ensures c.map_err.ensures.variant c.in_ok-map_err.was) c.settle.auto.marks _ _
    c.settle.result (ap (λ os. with_held os (ledger_of s)) c.change.ensures.held) c.settle.ensures
