-- The support question: whether some plan gives a record a day.
use Rattle.std.specs.Prelude.{ℕ, ◌+◌, Bool, cond, ◌&&◌, List, length, None, Ok, Err, Option, Result, nat_le, nat_lt}
use Rattle.plans.specs.Plans.{Pair}
use Rattle.plans.specs.Narrowing.{supported}
use Rattle.records.specs.declared.record.bare.Window.{Window}
use Rattle.narrowing.specs.declared.support.SupportFault.{SupportFault}
use Rattle.narrowing.specs.declared.support.SupportFault.TheVariants.{Refused, NoSuchQuestion}
use Rattle.records.specs.Bare.{copied}
use Rattle.records.specs.Faults.{number_of, place_of}
use Rattle.records.specs.Checks.{Outcome, checked}

-- Yes or no, or refused with a fault.
abbrev pub Support : Type 0
Support = Result Bool SupportFault

-- The number, the place and the letter of a refusal.
abbrev pub support_number : SupportFault → ℕ
support_number (Refused fault) = number_of fault
support_number NoSuchQuestion = 14

abbrev pub support_place : SupportFault → Option ℕ
support_place (Refused fault) = place_of fault
support_place NoSuchQuestion = None

abbrev pub support_layer : SupportFault → ℕ
support_layer fault = 75

-- Place i is one of n, day t is one of the d days, and m entries are enough for the n windows.
abbrev pub askable : ℕ → ℕ → ℕ → ℕ → ℕ → ℕ → Bool
askable k d n i t m = nat_lt i n && nat_le k t && nat_lt t (k + d) && nat_le n m

-- A refusal of the checks stands; otherwise what comes next decides.
abbrev pub past_checks : Outcome → Support → Support
past_checks (Ok _) next = next
past_checks (Err fault) next = Err (Refused fault)

-- The answer, for a working list of m entries: yes exactly when some plan gives place i the day t.
abbrev pub support_of : ℕ → List Pair → List (ℕ × ℕ) → ℕ → ℕ → ℕ → Support
support_of k pairs ws i t m =
    past_checks (checked k pairs ws (length pairs))
    (cond (askable k (length pairs) (length ws) i t m) (Ok (supported k pairs ws i t)) (Err NoSuchQuestion))

-- The working list afterwards: the windows at its front, and its later entries as they were; all of it after a refusal.
abbrev pub work_after : Support → List (ℕ × ℕ) → List Window → List Window
work_after (Ok _) ws work = copied ws work
work_after (Err fault) ws work = work
