use Rattle.std.proofs.Common.{ℕ, List, length, ap, ◌∙◌}
use Rattle.ledger.specs.Orders.{Order}
use Rattle.ledger.specs.Ledger.{Calendar, Ledger}
use Rattle.state.specs.Model.{lit_by, ledger_of}
use Rattle.state.proofs.Nearness.{weighable}
use Rattle.state.proofs.Judging.{weigh_answer, weigh_marks, weigh_told}
use Rattle.state.proofs.state.State.weigh.Goals as goal

pub returns : goal.returns
returns g c =
    let s = c.args.self.now in
    let C : Calendar = g.C.Calendar.told c.args.calendar.now in
    let ms : List ℕ = c.args.marks.now in
    let pass = weighable C s (length ms) (g.C.Calendar.sound c.args.calendar.now) c.requires in
    record {
      answer = c.narrow.ensures.answer ∙ weigh_answer C (ledger_of s) ms c.narrow.new.marks pass c.pairs-pairs.result c.pairs-pairs.ensures;
      marks = weigh_marks C (ledger_of s) ms c.narrow.new.marks pass c.pairs-pairs.result c.pairs-pairs.ensures c.narrow.ensures.marks;
      ledger = ap (λ (os : List Order). let L : Ledger = record { today = s.today; lit = lit_by s.today s.lit; held = os } in L) c.narrow.ensures.held;
      told = λ e. c.narrow.ensures.told ∙ weigh_told C (ledger_of s) c.pairs-pairs.result c.narrow.result c.pairs-pairs.ensures e;
    }
