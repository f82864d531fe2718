use Rattle.std.proofs.Common.{◌≡◌, ℕ, ◌<◌, ◌≤◌, List, length, is_some, sym, refl, ap, ◌∙◌, arith, rules}
use Rattle.std.proofs.lemmas.Result.{err_from_is_err_and}
use Rattle.ledger.specs.Orders.{leaving, staying}
use Rattle.ledger.specs.Ledger.{plan_of}
use Rattle.ledger.specs.Calls.{Call.turn}
use Rattle.ledger.specs.Replies.{onto}
use Rattle.ledger.specs.Law.{Passes}
use Rattle.ledger.proofs.Checks.{turn_checks}
use Rattle.orders.specs.Tables.{held_in}
use Rattle.state.specs.Model.{ledger_of}
use Rattle.state.proofs.Passing.{turn_room}
use Rattle.state.proofs.Refusing.{no_fault}
use Rattle.state.proofs.Asking.{ask_refused}
use Rattle.state.proofs.Planning.{days_long, days_all}
use Rattle.state.proofs.Writing.{lists_refused, turn_lists, turn_ledger, some_same, let_some, let_those, near_next, turned_to}
use Rattle.state.proofs.state.State.turn.Goals as goal

pub returns-in_err-days : goal.returns-in_err-days
returns-in_err-days g c =
    let C = g.C.Calendar.told c.args.calendar.now in
    let L = ledger_of c.args.self.now in
    let ns = c.args.list.now in
    let pass : Passes L (turn (length ns)) = no_fault c.check_turn.result c.check_turn.ensures c.map_err.ensures.variant c.in_ok-map_err.was in
    let p = err_from_is_err_and c.from_residual-in_err-days.result c.from_residual-in_err-days.ensures.1 in
    let t = lists_refused C L (turn (length ns)) c.in_err-days.field-0.0 ns (ask_refused C L (turn (length ns)) refl pass refl c.in_err-days.field-0.0 c.in_err-days.ensures.refusal) in
    rw (p.1, p.2) (record { told = t.0; ledger = t.1 })

pub unwrap-out-requires : goal.unwrap-out-requires
unwrap-out-requires g c =
    let C = g.C.Calendar.told c.args.calendar.now in
    let L = ledger_of c.args.self.now in
    let ns = c.args.list.now in
    let pass : Passes L (turn (length ns)) = no_fault c.check_turn.result c.check_turn.ensures c.map_err.ensures.variant c.in_ok-map_err.was in
    let P = c.in_ok-days.ensures.planned in
    let ts : List ℕ = c.as_slice.result.now in
    let is : ts ≡ plan_of C L = c.as_slice.ensures ∙ P.0 in
    let enough : length L.held ≤ length ts = omega (arith, days_long C L ts is P.1) in
    ap is_some (let_some L.held ts ns enough (turn_room L (length ns) pass) _ c.let_out.ensures.answer)

pub invariant_of-self : goal.invariant_of-self
invariant_of-self g c =
    let C = g.C.Calendar.told c.args.calendar.now in
    let s = c.args.self.now in
    let L = ledger_of s in
    let ns = c.args.list.now in
    let pass : Passes L (turn (length ns)) = no_fault c.check_turn.result c.check_turn.ensures c.map_err.ensures.variant c.in_ok-map_err.was in
    let P = c.in_ok-days.ensures.planned in
    let ts : List ℕ = c.as_slice.result.now in
    let is : ts ≡ plan_of C L = c.as_slice.ensures ∙ P.0 in
    let enough : length L.held ≤ length ts = omega (arith, days_long C L ts is P.1) in
    let held = let_those L.held ts ns enough (turn_room L (length ns) pass) _ c.let_out.ensures.answer _ c.let_out.ensures.held in
    let early : s.today < 65480 = omega (arith, s.early, turn_checks L (length ns) pass) in
    record {
      early = omega arith;
      slots = search rules;
      near = near_next C L P.1 s.near (held_in c.let_out.new.self) (held ∙ ap (staying s.today L.held) (days_all C L ts is P.1));
    }

pub returns-clause-told : goal.returns-clause-told
returns-clause-told g c =
    let C = g.C.Calendar.told c.args.calendar.now in
    let s = c.args.self.now in
    let L = ledger_of s in
    let ns = c.args.list.now in
    let pass : Passes L (turn (length ns)) = no_fault c.check_turn.result c.check_turn.ensures c.map_err.ensures.variant c.in_ok-map_err.was in
    let P = c.in_ok-days.ensures.planned in
    let ts : List ℕ = c.as_slice.result.now in
    let is : ts ≡ plan_of C L = c.as_slice.ensures ∙ P.0 in
    let enough : length L.held ≤ length ts = omega (arith, days_long C L ts is P.1) in
    let room = turn_room L (length ns) pass in
    let D = c.in_ok-days.ensures in
    let E = c.let_out.ensures in
    let n : c.unwrap-out.result ≡ length (leaving s.today L.held (plan_of C L)) =
    some_same (sym c.unwrap-out.ensures ∙ let_some L.held ts ns enough room _ E.answer) ∙ ap (λ ts. length (leaving s.today L.held ts)) (days_all C L ts is P.1) in
    turn_lists C L ns pass D.refusal c.let_out.new.list c.unwrap-out.result n
    (let_those L.held ts ns enough room _ E.answer _ E.list ∙ ap (λ ts. onto (leaving s.today L.held ts) ns) (days_all C L ts is P.1))

pub returns-clause-ledger : goal.returns-clause-ledger
returns-clause-ledger g c =
    let C = g.C.Calendar.told c.args.calendar.now in
    let s = c.args.self.now in
    let L = ledger_of s in
    let ns = c.args.list.now in
    let pass : Passes L (turn (length ns)) = no_fault c.check_turn.result c.check_turn.ensures c.map_err.ensures.variant c.in_ok-map_err.was in
    let P = c.in_ok-days.ensures.planned in
    let ts : List ℕ = c.as_slice.result.now in
    let is : ts ≡ plan_of C L = c.as_slice.ensures ∙ P.0 in
    let enough : length L.held ≤ length ts = omega (arith, days_long C L ts is P.1) in
    let D = c.in_ok-days.ensures in
    let E = c.let_out.ensures in
    let held = let_those L.held ts ns enough (turn_room L (length ns) pass) _ E.answer _ E.held in
    turn_ledger C L ns pass D.refusal _
    (turned_to s c.from.result (held_in c.let_out.new.self) (plan_of C L) c.from.ensures (held ∙ ap (staying s.today L.held) (days_all C L ts is P.1)))
