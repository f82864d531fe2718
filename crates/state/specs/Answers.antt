-- The answers of a state, read as replies of the ledger.
use Rattle.std.specs.Prelude.{◌≡◌, ℕ, ◌≤◌, Bool, List, [], length, take, Some, None, Ok, Err, Option, Result}
use Rattle.records.specs.declared.fault.NarrowingFault.{NarrowingFault}
use Rattle.records.specs.declared.fault.NarrowingFault.TheVariants.{BadRange, BadPair, TooManyRecords, BadWindow, Overfull, Short}
use Rattle.ledger.specs.Ledger.{Calendar, Ledger, horizon}
use Rattle.ledger.specs.Calls.{Edit, Call, Call.edit, checks, first_fault}
use Rattle.ledger.specs.Replies.{Reply, Reply.done, Reply.days, Reply.says, Reply.planned, Reply.out, Reply.refused, Reply.lacks, reply, Allowed, marks_after, list_after, ledger_after}
use Rattle.faults.specs.Faults.{check_number, number_of}
use Rattle.faults.specs.declared.Check.{Check}
use Rattle.faults.specs.declared.Cause.{Cause}
use Rattle.faults.specs.declared.Cause.TheVariants.{Failed, Engine}
use Rattle.faults.specs.declared.BookFault.{BookFault}

-- The number of the first check that failed.
abbrev pub failed : {A : Type 0} → Result A Check → Option ℕ
failed (Ok _) = None
failed (Err check) = Some (check_number check)

-- The outcome of the checks of a call: the first that comes.
abbrev pub Checked : {A : Type 0} → Ledger → Call → Result A Check → Type 0
Checked L k r = failed r ≡ first_fault (checks L k)

-- A refusal by its number and what it is about.
abbrev pub plainly : BookFault → Reply
plainly fault = refused (number_of fault.cause) fault.subject

-- The engine's refusal of an edit: 20 and 21 come with the marked set and the counts.
abbrev pub with_set : NarrowingFault → ℕ → List ℕ → Reply
with_set BadRange about marks = refused 10 about
with_set (BadPair day) about marks = refused 11 about
with_set TooManyRecords about marks = refused 12 about
with_set (BadWindow place) about marks = refused 13 about
with_set (Overfull windows mosts) about marks = lacks 20 about marks windows mosts
with_set (Short windows fewests) about marks = lacks 21 about marks windows fewests

abbrev pub refusal : Cause → ℕ → List ℕ → Reply
refusal (Failed check) about marks = refused (check_number check) about
refusal (Engine fault) about marks = with_set fault about marks

-- The answer of an edit that leaves `marks` for the days of the horizon, of douse, of the two questions about one order, and of plan and
-- turn, which tell how many entries of the list they wrote.
abbrev pub edit_reply : Result (Unit {0}) BookFault → List ℕ → Reply
edit_reply (Ok _) marks = done
edit_reply (Err fault) marks = refusal fault.cause fault.subject marks

abbrev pub douse_reply : Result (Unit {0}) BookFault → Reply
douse_reply (Ok _) = done
douse_reply (Err fault) = plainly fault

abbrev pub window_reply : Result (ℕ × ℕ) BookFault → Reply
window_reply (Ok w) = days w.0 w.1
window_reply (Err fault) = plainly fault

abbrev pub probe_reply : Result Bool BookFault → Reply
probe_reply (Ok b) = says b
probe_reply (Err fault) = plainly fault

abbrev pub plan_reply : Result ℕ BookFault → List ℕ → Reply
plan_reply (Ok n) list = planned (take n list)
plan_reply (Err fault) list = plainly fault

abbrev pub turn_reply : Result ℕ BookFault → List ℕ → Reply
turn_reply (Ok n) list = out (take n list)
turn_reply (Err fault) list = plainly fault

-- How many entries were written: no more than the list has.
abbrev pub Written : Result ℕ BookFault → List ℕ → Type 0
Written (Ok n) list = n ≤ length list
Written (Err fault) list = Unit {0}

-- The marks of the days of the horizon.
abbrev pub horizon_marks : List ℕ → List ℕ
horizon_marks marks = take horizon marks

-- What an edit on a ledger answers, and how it leaves the marks: the set of 21 is free within its rule, and all else is the
-- ledger's.
pub record Edits (c : Calendar) (L : Ledger) (e : Edit) (r : Result (Unit {0}) BookFault) (before after : List ℕ) : Type 0 where
  pub answer : edit_reply r (horizon_marks after) ≡ reply c L (edit e (length before)) (horizon_marks after)
  pub set : Allowed c L (edit e (length before)) (horizon_marks after)
  pub marks : after ≡ marks_after (reply c L (edit e (length before)) (horizon_marks after)) before

-- An edit as the ledger makes it: what it answers, and the ledger N after it.
pub record Edited (c : Calendar) (L : Ledger) (e : Edit) (r : Result (Unit {0}) BookFault) (before after : List ℕ) (N : Ledger) : Type 0 where
  pub told : Edits c L e r before after
  pub ledger : N ≡ ledger_after c L (edit e (length before))

-- What plan and turn answer, read as the reply `told`, and how they leave the list.
pub record Lists (c : Calendar) (L : Ledger) (k : Call) (r : Result ℕ BookFault) (told : Reply) (before after : List ℕ) : Type 0 where
  pub answer : told ≡ reply c L k []
  pub written : Written r after
  pub list : after ≡ list_after (reply c L k []) before
