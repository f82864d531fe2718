use Rattle.std.proofs.Common.{◌≡◌, Some, refl, ap, ◌∙◌, arith}
use Rattle.std.specs.Result.{is_ok}
use Rattle.std.proofs.lemmas.Result.{err_from_is_err_and}
use Rattle.ledger.specs.Ledger.{may_have}
use Rattle.ledger.specs.Calls.{Call.probe}
use Rattle.ledger.specs.Law.{Passes}
use Rattle.ledger.specs.Replies.{Reply.says}
use Rattle.orders.specs.Lists.{place_in}
use Rattle.state.specs.Model.{ledger_of}
use Rattle.state.proofs.Nearness.{few, weighable}
use Rattle.state.proofs.Refusing.{no_fault, held_on}
use Rattle.state.proofs.Asking.{probe_held, ask_refused, ask_told, supported_told}
use Rattle.state.proofs.state.State.probe.Goals as goal

pub returns-in_err-weighed : goal.returns-in_err-weighed
returns-in_err-weighed g c =
    let C = g.C.Calendar.told c.args.calendar.now in
    let L = ledger_of c.args.self.now in
    let n = c.args.number in
    let d = c.args.day in
    let pass : Passes L (probe n d) = no_fault c.check_probe.result c.check_probe.ensures.checked c.map_err.ensures.variant c.in_ok-place.was in
    let p = err_from_is_err_and c.from_residual-in_err-weighed.result c.from_residual-in_err-weighed.ensures.1 in
    rw (p.1, p.2) (ask_refused C L (probe n d) refl pass refl c.in_err-weighed.field-0.0 c.in_err-weighed.ensures.refusal)

pub unwrap-requires : goal.unwrap-requires
unwrap-requires g c =
    let s = c.args.self.now in
    let C = g.C.Calendar.told c.args.calendar.now in
    let L = ledger_of s in
    let n = c.args.number in
    let d = c.args.day in
    let pass : Passes L (probe n d) = no_fault c.check_probe.result c.check_probe.ensures.checked c.map_err.ensures.variant c.in_ok-place.was in
    ap is_ok
    (supported_told C L n c.in_ok-place.place d (held_on (λ i. Some i ≡ place_in n L.held) _ c.in_ok-place.place c.check_probe.result c.map_err.result c.check_probe.ensures.place c.map_err.ensures.cases c.map_err.ensures.variant c.in_ok-place.was) (probe_held L n d pass).1 (few s)
    (weighable C s 56 (g.C.Calendar.sound c.args.calendar.now) (omega arith)) c.pairs-pairs.result c.pairs-pairs.ensures c.supports.result c.supports.ensures)

pub returns : goal.returns
returns g c =
    let s = c.args.self.now in
    let C = g.C.Calendar.told c.args.calendar.now in
    let L = ledger_of s in
    let n = c.args.number in
    let d = c.args.day in
    let pass : Passes L (probe n d) = no_fault c.check_probe.result c.check_probe.ensures.checked c.map_err.ensures.variant c.in_ok-place.was in
    let e = supported_told C L n c.in_ok-place.place d (held_on (λ i. Some i ≡ place_in n L.held) _ c.in_ok-place.place c.check_probe.result c.map_err.result c.check_probe.ensures.place c.map_err.ensures.cases c.map_err.ensures.variant c.in_ok-place.was) (probe_held L n d pass).1 (few s)
    (weighable C s 56 (g.C.Calendar.sound c.args.calendar.now) (omega arith)) c.pairs-pairs.result c.pairs-pairs.ensures c.supports.result c.supports.ensures in
    let y : c.unwrap.result ≡ may_have C L n d = cc (e, c.unwrap.ensures) in
    ap says y ∙ ask_told C L (probe n d) refl pass refl c.in_ok-weighed.ensures.refusal
