-- What a weighing makes of a call: the answer, and the ledger.
use Rattle.std.specs.Prelude.{◌≡◌, ℕ, List, Some, None, Ok, Err, Option, Result}
use Rattle.plans.specs.Narrowing.{narrowed}
use Rattle.plans.specs.Replies.{Reply as Weight, Reply.accepted, Reply.overfull, Reply.short}
use Rattle.records.specs.declared.fault.NarrowingFault.TheVariants.{Overfull, Short}
use Rattle.narrowing.specs.Verdict.{Marked}
use Rattle.lists.specs.Fronts.{items}
use Rattle.planning.specs.Planned.{Days}
use Rattle.ledger.specs.Ledger.{Calendar, Ledger, pairs, windows, weigh, Fits, plan_of}
use Rattle.ledger.specs.Replies.{Reply, Reply.refused}
use Rattle.orders.specs.Tables.{held_in, told_in}
use Rattle.state.specs.Answers.{horizon_marks, plainly}
use Rattle.faults.specs.declared.Cause.{Cause}
use Rattle.faults.specs.declared.Cause.TheVariants.{Engine}
use Rattle.faults.specs.declared.BookFault.{BookFault}
use Rattle.state.specs.declared.state.State.{State}

-- A cause with what it is about.
abbrev pub fault_about : ℕ → Cause → BookFault
fault_about about cause = record { cause = cause; subject = about }

-- Accepted where there is a plan, refused with the engine's fault where there is none.
abbrev pub answer_of : ℕ → Weight → Result (Unit {0}) BookFault
answer_of about accepted = Ok tt
answer_of about (overfull run windows mosts) = Err (fault_about about (Engine (Overfull windows mosts)))
answer_of about (short windows fewests) = Err (fault_about about (Engine (Short windows fewests)))

-- M where there is a plan, else L.
abbrev pub ledger_by : Ledger → Ledger → Weight → Ledger
ledger_by L M accepted = M
ledger_by L M (overfull run windows mosts) = L
ledger_by L M (short windows fewests) = L

-- How the ledger M is weighed: the answer, the marks, and that M stands afterwards in the place of L where it has a plan.
pub record Settles (c : Calendar) (L M : Ledger) (about : ℕ) (r : Result (Unit {0}) BookFault) (before after : List ℕ) (N : Ledger) : Type 0 where
  pub answer : r ≡ answer_of about (weigh c M (horizon_marks after))
  pub marks : Marked M.today (pairs c M) (windows M) before after (weigh c M (horizon_marks after))
  pub ledger : N ≡ ledger_by L M (weigh c M (horizon_marks after))

-- What a call that takes no marks is told: nothing where there is a plan, else 20 or 21 alone.
abbrev pub quiet : ℕ → Weight → Option Reply
quiet about accepted = None
quiet about (overfull run windows mosts) = Some (refused 20 about)
quiet about (short windows fewests) = Some (refused 21 about)

abbrev pub refusal_in : {A : Type 0} → Result A BookFault → Option Reply
refusal_in (Ok a) = None
refusal_in (Err fault) = Some (plainly fault)

-- A state with the same orders, each told its smallest and its largest day.
abbrev pub Told : Calendar → Ledger → Result State BookFault → Type 0
Told c L (Ok s) = (held_in s.table ≡ L.held) × (told_in s.table ≡ narrowed L.today (pairs c L) (windows L))
Told c L (Err fault) = Unit {0}

-- The days of the first plan, which fits.
abbrev pub Planned : Calendar → Ledger → Result Days BookFault → Type 0
Planned c L (Ok days) = (items days ≡ plan_of c L) × Fits c L (plan_of c L)
Planned c L (Err fault) = Unit {0}
