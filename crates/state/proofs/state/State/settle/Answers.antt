use Rattle.std.proofs.Common.{rules}
use Rattle.std.proofs.lemmas.Result.{err_from_is_err_and}
use Rattle.ledger.specs.Ledger.{weigh}
use Rattle.state.specs.Answers.{horizon_marks}
use Rattle.state.specs.Model.{ledger_of}
use Rattle.state.proofs.Refusing.{heard}
use Rattle.state.proofs.Judging.{settles_ok, settles_err}
use Rattle.state.proofs.state.State.settle.Goals as goal

pub returns-in_err-map_err : goal.returns-in_err-map_err
returns-in_err-map_err g c =
    let C = g.C.Calendar.told c.args.calendar.now in
    let M = ledger_of c.args.next in
    let a = c.args.subject in
    let m = heard a (weigh C M (horizon_marks c.weigh.new.marks)) c.weigh.result c.weigh.ensures.answer c.map_err.ensures.cases (λ e f q. search rules) in
    let p = err_from_is_err_and c.from_residual.result c.from_residual.ensures.1 in
    rw (p.1, p.2) (settles_err C (ledger_of c.args.self.now) M a _ _ c.weigh.ensures.marks c.map_err.result m c.in_err-map_err.field-0.0 c.in_err-map_err.was)

pub returns : goal.returns
returns g c =
    let C = g.C.Calendar.told c.args.calendar.now in
    let M = ledger_of c.args.next in
    let a = c.args.subject in
    let m = heard a (weigh C M (horizon_marks c.weigh.new.marks)) c.weigh.result c.weigh.ensures.answer c.map_err.ensures.cases (λ e f q. search rules) in
    settles_ok C (ledger_of c.args.self.now) M a _ _ c.weigh.ensures.marks c.map_err.result m (ledger_of c.weigh.new.self) c.in_ok-map_err.was
    c.weigh.ensures.ledger
