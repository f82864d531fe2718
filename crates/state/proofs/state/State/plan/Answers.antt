use Rattle.std.proofs.Common.{◌≡◌, ℕ, ◌≤◌, List, ◌++◌, length, drop, sym, refl, ap, ◌∙◌, arith, rules}
use Rattle.std.proofs.lemmas.List.{length-take-le}
use Rattle.std.proofs.lemmas.Result.{err_from_is_err_and}
use Rattle.ledger.specs.Ledger.{plan_of}
use Rattle.ledger.specs.Calls.{Call.plan}
use Rattle.ledger.specs.Law.{Passes}
use Rattle.state.specs.Model.{ledger_of}
use Rattle.state.proofs.Passing.{plan_room}
use Rattle.state.proofs.Refusing.{no_fault}
use Rattle.state.proofs.Asking.{ask_refused, ask_told}
use Rattle.state.proofs.Planning.{days_long}
use Rattle.state.proofs.Writing.{lists_refused, plan_lists}
use Rattle.state.proofs.state.State.plan.Goals as goal

pub returns-in_err-days : goal.returns-in_err-days
returns-in_err-days g c =
    let C = g.C.Calendar.told c.args.calendar.now in
    let L = ledger_of c.args.self.now in
    let ns = c.args.list.now in
    let pass : Passes L (plan (length ns)) = no_fault c.check_plan.result c.check_plan.ensures c.map_err.ensures.variant c.in_ok-map_err.was in
    let p = err_from_is_err_and c.from_residual-in_err-days.result c.from_residual-in_err-days.ensures.1 in
    rw (p.1, p.2)
    (lists_refused C L (plan (length ns)) c.in_err-days.field-0.0 ns (ask_refused C L (plan (length ns)) refl pass refl c.in_err-days.field-0.0 c.in_err-days.ensures.refusal)).0

pub slice_bounds-copy_from_slice-end : goal.slice_bounds-copy_from_slice-end
slice_bounds-copy_from_slice-end g c =
    let C = g.C.Calendar.told c.args.calendar.now in
    let L = ledger_of c.args.self.now in
    let ns = c.args.list.now in
    let pass : Passes L (plan (length ns)) = no_fault c.check_plan.result c.check_plan.ensures c.map_err.ensures.variant c.in_ok-map_err.was in
    let P = c.in_ok-days.ensures.planned in
    let ds : List ℕ = c.as_slice-days.result.now in
    let h : length ds ≤ length ns = omega (arith, plan_room L (length ns) pass, days_long C L ds (c.as_slice-days.ensures ∙ P.0) P.1) in
    search rules

pub slice_bounds-copy_from_slice-end-2 : goal.slice_bounds-copy_from_slice-end-2
slice_bounds-copy_from_slice-end-2 g c =
    let C = g.C.Calendar.told c.args.calendar.now in
    let L = ledger_of c.args.self.now in
    let ns = c.args.list.now in
    let pass : Passes L (plan (length ns)) = no_fault c.check_plan.result c.check_plan.ensures c.map_err.ensures.variant c.in_ok-map_err.was in
    let P = c.in_ok-days.ensures.planned in
    let ds : List ℕ = c.as_slice-days.result.now in
    let h : length ds ≤ length ns = omega (arith, plan_room L (length ns) pass, days_long C L ds (c.as_slice-days.ensures ∙ P.0) P.1) in
    sym (length-take-le (length ds) ns h)

pub copy_from_slice-requires : goal.copy_from_slice-requires
copy_from_slice-requires g c =
    let C = g.C.Calendar.told c.args.calendar.now in
    let L = ledger_of c.args.self.now in
    let ns = c.args.list.now in
    let pass : Passes L (plan (length ns)) = no_fault c.check_plan.result c.check_plan.ensures c.map_err.ensures.variant c.in_ok-map_err.was in
    let P = c.in_ok-days.ensures.planned in
    let ds : List ℕ = c.as_slice-days.result.now in
    let h : length ds ≤ length ns = omega (arith, plan_room L (length ns) pass, days_long C L ds (c.as_slice-days.ensures ∙ P.0) P.1) in
    length-take-le (length ds) ns h

pub returns : goal.returns
returns g c =
    let C = g.C.Calendar.told c.args.calendar.now in
    let L = ledger_of c.args.self.now in
    let ns = c.args.list.now in
    let pass : Passes L (plan (length ns)) = no_fault c.check_plan.result c.check_plan.ensures c.map_err.ensures.variant c.in_ok-map_err.was in
    let D = c.in_ok-days.ensures in
    let ds : List ℕ = c.as_slice-days.result.now in
    let is : ds ≡ plan_of C L = c.as_slice-days.ensures ∙ D.planned.0 in
    plan_lists C L ns _ (length ds) (ap length is) (ask_told C L (plan (length ns)) refl pass refl D.refusal)
    (ap (λ xs. xs ++ drop (length ds) ns) (c.copy_from_slice.ensures.after ∙ is))
