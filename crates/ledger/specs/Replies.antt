-- The reply to each call, and how the caller's lists and the ledger stand afterwards.
use Rattle.std.specs.Prelude.{◌≡◌, ℕ, Bool, true, false, cond, List, [], ◌++◌, length, drop, Some, None, Option}
use Rattle.plans.specs.Sets.{Marks, run_marks, ShowsShortage}
use Rattle.plans.specs.Replies.{Reply as Weight, Reply.accepted, Reply.overfull, Reply.short}
use Rattle.ledger.specs.Orders.{leaving}
use Rattle.ledger.specs.Ledger.{Calendar, Ledger, horizon, pairs, windows, weigh, days_of, may_have, plan_of}
use Rattle.ledger.specs.Calls.{Call, Call.edit, Call.douse, Call.window, Call.probe, Call.plan, Call.turn, Call.begin, Call.keep, Call.undo, edits, subject, edited, with_light, made, checks, first_fault}

-- What an accepted call tells or writes; or the number of a refusal and what it is about; or 20 or 21 with the marks of a
-- set of days, the windows that are counted and the sum that they are compared with.
pub data Reply : Type 0 where
  done : Reply
  days : (first last : ℕ) → Reply
  says : Bool → Reply
  planned : (days : List ℕ) → Reply
  out : (numbers : List ℕ) → Reply
  refused : (number about : ℕ) → Reply
  lacks : (number about : ℕ) (set : List ℕ) (windows sum : ℕ) → Reply

-- What an accepted call tells or writes. A turn writes the numbers that the plan puts on today.
abbrev pub told : Calendar → Ledger → Call → Reply
told c L (edit e m) = done
told c L (douse d) = done
told c L (window n) = days (days_of c L n).0 (days_of c L n).1
told c L (probe n d) = says (may_have c L n d)
told c L (plan r) = planned (plan_of c L)
told c L (turn r) = out (leaving L.today L.held (plan_of c L))
told c L begin = done
told c L keep = done
told c L undo = done

-- The ledger that has to have a plan: for an edit and douse the one that they would make, for a question and a turn the
-- ledger as it is. Trials begin and end without.
abbrev pub weighed : Ledger → Call → Option Ledger
weighed L (edit e m) = Some (edited e L)
weighed L (douse d) = Some (with_light d false L)
weighed L (window n) = Some L
weighed L (probe n d) = Some L
weighed L (plan r) = Some L
weighed L (turn r) = Some L
weighed L begin = None
weighed L keep = None
weighed L undo = None

-- Where there is a plan the reply r stands. Else an edit is told the set and the two counts, and any other call only 20 or 21.
abbrev pub settled : Call → (about today : ℕ) → List ℕ → Reply → Weight → Reply
settled k about today marks r accepted = r
settled k about today marks r (overfull run windows mosts) =
    cond (edits k) (lacks 20 about (run_marks today horizon run) windows mosts) (refused 20 about)
settled k about today marks r (short windows fewests) = cond (edits k) (lacks 21 about marks windows fewests) (refused 21 about)

abbrev pub past_weighing : Calendar → Ledger → Call → List ℕ → Option Ledger → Reply
past_weighing c L k marks None = told c L k
past_weighing c L k marks (Some M) = settled k (subject L k) L.today marks (told c L k) (weigh c M marks)

abbrev pub past_checks : Calendar → Ledger → Call → List ℕ → Option ℕ → Reply
past_checks c L k marks (Some n) = refused n (subject L k)
past_checks c L k marks None = past_weighing c L k marks (weighed L k)

-- THE REPLY: the first check that fails, else by the plans. With 21 the set is `marks`, those of the horizon as the call
-- leaves them.
abbrev pub reply : Calendar → Ledger → Call → List ℕ → Reply
reply c L k marks = past_checks c L k marks (first_fault (checks L k))

-- The number of a refusal, and 0 for an accepted call.
abbrev pub number_of : Reply → ℕ
number_of done = 0
number_of (days f l) = 0
number_of (says b) = 0
number_of (planned ts) = 0
number_of (out ns) = 0
number_of (refused n a) = n
number_of (lacks n a s w m) = n

abbrev pub refuses : Reply → Bool
refuses done = false
refuses (days f l) = false
refuses (says b) = false
refuses (planned ts) = false
refuses (out ns) = false
refuses (refused n a) = true
refuses (lacks n a s w m) = true

-- The sets that 21 may mark: fewer windows meet them than the sum of their fewests.
abbrev pub Allowed : Calendar → Ledger → Call → List ℕ → Type 0
Allowed c L k marks =
    edits k ≡ true → number_of (reply c L k marks) ≡ 21
    → Marks horizon marks × ShowsShortage L.today (pairs c (made c L k)) (windows (made c L k)) marks

-- A list with others at its front; its later entries stay.
abbrev pub onto : List ℕ → List ℕ → List ℕ
onto xs old = xs ++ drop (length xs) old

-- How the marks stand afterwards, and the list that plan and turn write to.
abbrev pub marks_after : Reply → List ℕ → List ℕ
marks_after done old = old
marks_after (days f l) old = old
marks_after (says b) old = old
marks_after (planned ts) old = old
marks_after (out ns) old = old
marks_after (refused n a) old = old
marks_after (lacks n a s w m) old = onto s old

abbrev pub list_after : Reply → List ℕ → List ℕ
list_after done old = old
list_after (days f l) old = old
list_after (says b) old = old
list_after (planned ts) old = onto ts old
list_after (out ns) old = onto ns old
list_after (refused n a) old = old
list_after (lacks n a s w m) old = old

-- THE LEDGER AFTER a call that begins or ends no trial: a refused one alters nothing. Which set 21 marks is no matter.
abbrev pub ledger_after : Calendar → Ledger → Call → Ledger
ledger_after c L k = cond (refuses (reply c L k [])) L (made c L k)
