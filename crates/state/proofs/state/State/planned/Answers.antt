use Rattle.std.proofs.Common.{◌≡◌, ◌∙◌, Some, is_some, ap, arith}
use Rattle.std.specs.Result.{is_ok}
use Rattle.std.proofs.lemmas.Result.{err_from_is_err_and}
use Rattle.lists.specs.Fronts.{items}
use Rattle.planning.specs.Planned.{told_plan}
use Rattle.planning.proofs.Answered.{handed_out}
use Rattle.ledger.specs.Ledger.{plan_of}
use Rattle.state.specs.Model.{ledger_of}
use Rattle.state.proofs.Nearness.{weighable}
use Rattle.state.proofs.Planning.{days_planned, plan_fits}
use Rattle.state.proofs.state.State.planned.Goals as goal

pub returns-in_err-weighed-clause-refusal : goal.returns-in_err-weighed-clause-refusal
returns-in_err-weighed-clause-refusal g c =
    let p = err_from_is_err_and c.from_residual.result c.from_residual.ensures.1 in
    rw (p.1, p.2) c.in_err-weighed.ensures.refusal

pub unwrap-plan-requires : goal.unwrap-plan-requires
unwrap-plan-requires g c =
    let s = c.args.self.now in
    let C = g.C.Calendar.told c.args.calendar.now in
    let pass = weighable C s 56 (g.C.Calendar.sound c.args.calendar.now) (omega arith) in
    let d = handed_out c.plan.result (plan_of C (ledger_of s)) (days_planned C (ledger_of s) c.args.subject pass c.in_ok-weighed.ensures.refusal c.pairs-pairs.result c.pairs-pairs.ensures (told_plan c.plan.result) c.plan.ensures) in
    ap is_ok d.1

pub unwrap-requires : goal.unwrap-requires
unwrap-requires g c =
    let s = c.args.self.now in
    let C = g.C.Calendar.told c.args.calendar.now in
    let pass = weighable C s 56 (g.C.Calendar.sound c.args.calendar.now) (omega arith) in
    let d = handed_out c.plan.result (plan_of C (ledger_of s)) (days_planned C (ledger_of s) c.args.subject pass c.in_ok-weighed.ensures.refusal c.pairs-pairs.result c.pairs-pairs.ensures (told_plan c.plan.result) c.plan.ensures) in
    let o : c.unwrap-plan.result ≡ Some d.0 = cc (d.1, c.unwrap-plan.ensures) in
    ap is_some o

pub returns-clause-planned : goal.returns-clause-planned
returns-clause-planned g c =
    let s = c.args.self.now in
    let C = g.C.Calendar.told c.args.calendar.now in
    let L = ledger_of s in
    let pass = weighable C s 56 (g.C.Calendar.sound c.args.calendar.now) (omega arith) in
    let q = c.in_ok-weighed.ensures.refusal in
    let d = handed_out c.plan.result (plan_of C L) (days_planned C L c.args.subject pass q c.pairs-pairs.result c.pairs-pairs.ensures (told_plan c.plan.result) c.plan.ensures) in
    let t : c.unwrap.result ≡ d.0 = cc (d.1, c.unwrap-plan.ensures, c.unwrap.ensures) in
    (ap items t ∙ d.2, plan_fits C L c.args.subject pass q)
