use Rattle.std.proofs.Common.{sym, ap, ◌∙◌, rules}
use Rattle.std.proofs.lemmas.Result.{err_from_is_err_and}
use Rattle.ledger.specs.Ledger.{Ledger, weigh}
use Rattle.state.specs.Answers.{horizon_marks}
use Rattle.state.specs.Model.{ledger_of}
use Rattle.state.specs.Weights.{refusal_in}
use Rattle.state.proofs.Refusing.{heard, was_ok}
use Rattle.state.proofs.Asking.{answer_quiet, quiet_same}
use Rattle.state.proofs.state.State.weighed.Goals as goal

pub returns-in_err-map_err-clause-refusal : goal.returns-in_err-map_err-clause-refusal
returns-in_err-map_err-clause-refusal g c =
    let C = g.C.Calendar.told c.args.calendar.now in
    let L = ledger_of c.args.self.now in
    let a = c.args.subject in
    let hm = horizon_marks c.weigh.new.marks in
    let m = heard a (weigh C L hm) c.weigh.result c.weigh.ensures.answer c.map_err.ensures.cases (λ e f q. search rules) in
    let p = err_from_is_err_and c.from_residual.result c.from_residual.ensures.1 in
    rw (p.1, p.2) (ap refusal_in (sym c.in_err-map_err.was) ∙ answer_quiet a (weigh C L hm) c.map_err.result m ∙ quiet_same C L a hm)

pub returns-clause-refusal : goal.returns-clause-refusal
returns-clause-refusal g c =
    let C = g.C.Calendar.told c.args.calendar.now in
    let L = ledger_of c.args.self.now in
    let a = c.args.subject in
    let hm = horizon_marks c.weigh.new.marks in
    let m = heard a (weigh C L hm) c.weigh.result c.weigh.ensures.answer c.map_err.ensures.cases (λ e f q. search rules) in
    ap refusal_in (sym c.in_ok-map_err.was) ∙ answer_quiet a (weigh C L hm) c.map_err.result m ∙ quiet_same C L a hm

pub returns-clause-told : goal.returns-clause-told
returns-clause-told g c =
    (ap (λ (x : Ledger). x.held) c.weigh.ensures.ledger, c.weigh.ensures.told (was_ok c.weigh.result c.map_err.ensures.variant c.in_ok-map_err.was))
