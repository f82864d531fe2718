-- The first plan: what is answered, and what that means.
use Rattle.std.specs.Prelude.{ℕ, List, length, Some, None, Ok, Err, Option, Result}
use Rattle.std.specs.Option.{option_map}
use Rattle.lists.specs.declared.front.Front.{Front}
use Rattle.lists.specs.Fronts.{items}
use Rattle.plans.specs.Plans.{Window, Pair, Plan}
use Rattle.plans.specs.Narrowing.{first_plan, Leads}
use Rattle.records.specs.declared.fault.NarrowingFault.{NarrowingFault}
use Rattle.records.specs.Checks.{Outcome, checked}

-- The days of a plan, in memory of a fixed size.
abbrev pub Days : Type 0
Days = Front 512

-- A list of days, if there is a plan; or refused with a fault.
abbrev pub Planned : Type 0
Planned = Result (Option (List ℕ)) NarrowingFault

-- The list that is handed out.
abbrev pub told_plan : Result (Option Days) NarrowingFault → Planned
told_plan (Ok plan) = Ok (option_map items plan)
told_plan (Err fault) = Err fault

-- A refusal of the checks stands; otherwise it is the plan, if there is one.
abbrev pub past_checks : Outcome → Option (List ℕ) → Planned
past_checks (Ok _) plan = Ok plan
past_checks (Err fault) plan = Err fault

-- The answer. No marks are asked for, so there are enough of them.
abbrev pub planned_of : ℕ → List Pair → List Window → Planned
planned_of k pairs ws = past_checks (checked k pairs ws (length pairs)) (first_plan k pairs ws)

-- What it means: the list is the plan that comes before every other; or there is no plan.
abbrev pub PlannedMeans : ℕ → List Pair → List Window → Planned → Type 0
PlannedMeans k pairs ws (Ok (Some days)) = Leads k pairs ws days
PlannedMeans k pairs ws (Ok None) = (ts : List ℕ) → Plan k pairs ws ts → ⊥
PlannedMeans k pairs ws (Err fault) = Unit {0}
