use Rattle.std.proofs.Common.{◌≡◌, true, cond, Some, None, is_some, length, refl, ap, ◌∙◌}
use Rattle.std.proofs.lemmas.Bool.{lt-ltb}
use Rattle.ledger.specs.Orders.{Order}
use Rattle.ledger.specs.Calls.{Edit.admit, with_held}
use Rattle.orders.specs.Lists.{entry_place}
use Rattle.orders.specs.Tables.{held_in, has_room}
use Rattle.state.specs.Model.{ledger_of}
use Rattle.state.specs.Near.{near_all}
use Rattle.state.proofs.Nearness.{near_from, near_enter}
use Rattle.state.proofs.Passing.{admit_passed}
use Rattle.state.proofs.Refusing.{no_fault}
use Rattle.state.proofs.Settling.{edits_to, entered}
use Rattle.state.proofs.state.State.admit.Goals as goal

pub unwrap-requires : goal.unwrap-requires
unwrap-requires g c =
    let s = c.args.self.now in
    let pass = no_fault c.check_admit.result c.check_admit.ensures c.map_err.ensures.variant c.in_ok-map_err.was in
    let p = admit_passed (ledger_of s) c.args.number c.args.asked.first c.args.asked.last (length c.args.marks.now) pass in
    let room : has_room s.table ≡ true = lt-ltb (length (held_in s.table)) 512 p.0 in
    ap is_some (c.enter.ensures.answer ∙ ap (λ b. cond b (Some (entry_place c.args.number (held_in s.table))) None) room)

pub invariant_of-next : goal.invariant_of-next
invariant_of-next g c =
    let s = c.args.self.now in
    let o : Order = record { number = c.args.number; asked = (c.args.asked.first, c.args.asked.last) } in
    let pass = no_fault c.check_admit.result c.check_admit.ensures c.map_err.ensures.variant c.in_ok-map_err.was in
    let p = admit_passed (ledger_of s) o.number o.asked.0 o.asked.1 (length c.args.marks.now) pass in
    record {
      early = s.early;
      slots = s.slots;
      near = ap (near_all s.today) (entered (held_in s.table) (held_in c.enter.new.self) o (has_room s.table) p.0 refl c.enter.ensures.held)
          ∙ near_enter s.today o (ledger_of s).held (near_from s.today o p.1) s.near;
    }

pub returns : goal.returns
returns g c =
    let s = c.args.self.now in
    let n = c.args.number in
    let f = c.args.asked.first in
    let l = c.args.asked.last in
    let o : Order = record { number = n; asked = (f, l) } in
    let pass = no_fault c.check_admit.result c.check_admit.ensures c.map_err.ensures.variant c.in_ok-map_err.was in
    let p = admit_passed (ledger_of s) n f l (length c.args.marks.now) pass in
    let h = entered (held_in s.table) (held_in c.enter.new.self) o (has_room s.table) p.0 refl c.enter.ensures.held in
    edits_to (g.C.Calendar.told c.args.calendar.now) (ledger_of s) (admit n f l) _ _ pass c.settle.auto.marks _ _ c.settle.result
    (ap (λ os. with_held os (ledger_of s)) h) c.settle.ensures
