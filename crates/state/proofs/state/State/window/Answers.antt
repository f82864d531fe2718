use Rattle.std.proofs.Common.{◌≡◌, is_some, refl, ap, ◌∙◌}
use Rattle.std.proofs.lemmas.Result.{err_from_is_err_and}
use Rattle.plans.specs.Plans.{Window}
use Rattle.ledger.specs.Ledger.{days_of}
use Rattle.ledger.specs.Calls.{Call.window}
use Rattle.ledger.specs.Law.{Passes}
use Rattle.ledger.specs.Replies.{Reply.days}
use Rattle.orders.specs.Tables.{held_in, told_in}
use Rattle.state.specs.Model.{ledger_of}
use Rattle.state.proofs.Refusing.{no_fault}
use Rattle.state.proofs.Asking.{window_held, ask_refused, ask_told, told_days}
use Rattle.state.proofs.state.State.window.Goals as goal

pub returns-in_err-told : goal.returns-in_err-told
returns-in_err-told g c =
    let L = ledger_of c.args.self.now in
    let n = c.args.number in
    let pass : Passes L (window n) = no_fault c.check_window.result c.check_window.ensures c.map_err.ensures.variant c.in_ok-map_err.was in
    let p = err_from_is_err_and c.from_residual-in_err-told.result c.from_residual-in_err-told.ensures.1 in
    rw (p.1, p.2) (ask_refused (g.C.Calendar.told c.args.calendar.now) L (window n) refl pass refl c.in_err-told.field-0.0 c.in_err-told.ensures.refusal)

pub unwrap-requires : goal.unwrap-requires
unwrap-requires g c =
    let C = g.C.Calendar.told c.args.calendar.now in
    let L = ledger_of c.args.self.now in
    let n = c.args.number in
    let pass : Passes L (window n) = no_fault c.check_window.result c.check_window.ensures c.map_err.ensures.variant c.in_ok-map_err.was in
    let t = c.in_ok-told.told.table in
    let e = c.in_ok-told.ensures.told in
    ap is_some (c.told.ensures ∙ told_days C L n (window_held L n pass) (held_in t) (told_in t) e.0 e.1)

pub returns : goal.returns
returns g c =
    let C = g.C.Calendar.told c.args.calendar.now in
    let L = ledger_of c.args.self.now in
    let n = c.args.number in
    let pass : Passes L (window n) = no_fault c.check_window.result c.check_window.ensures c.map_err.ensures.variant c.in_ok-map_err.was in
    let t = c.in_ok-told.told.table in
    let e = c.in_ok-told.ensures in
    let d = told_days C L n (window_held L n pass) (held_in t) (told_in t) e.told.0 e.told.1 in
    let w : c.unwrap.result ≡ days_of C L n = cc (d, c.told.ensures, c.unwrap.ensures) in
    ap (λ (p : Window). days p.0 p.1) w ∙ ask_told C L (window n) refl pass refl e.refusal
