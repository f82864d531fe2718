-- What the answer means.
use Rattle.std.proofs.Common.{◌≡◌, ℕ, List, length, Some, None, Ok, Err, Option, Result, refl}
use Rattle.lists.specs.Fronts.{items}
use Rattle.plans.specs.Plans.{Window, Pair}
use Rattle.plans.specs.Narrowing.{first_plan}
use Rattle.plans.proofs.First.{first_leads}
use Rattle.records.specs.Checks.{Outcome, checked}
use Rattle.records.specs.declared.fault.NarrowingFault.{NarrowingFault}
use Rattle.planning.specs.Planned.{Days, told_plan, past_checks, planned_of, PlannedMeans}

pub planned_means : (k : ℕ) (pairs : List Pair) (ws : List Window) → PlannedMeans k pairs ws (planned_of k pairs ws)
planned_means k pairs ws = go (checked k pairs ws (length pairs)) (first_plan k pairs ws) refl
  where
    go : (o : Outcome) (plan : Option (List ℕ)) → first_plan k pairs ws ≡ plan → PlannedMeans k pairs ws (past_checks o plan)
    go (Err fault) plan e = tt
    go (Ok _) None e = (first_leads k pairs ws).1.0 e
    go (Ok _) (Some ts) e = ((first_leads k pairs ws).0 ts).0 e

-- a plan that is told was handed out
pub handed_out : (r : Result (Option Days) NarrowingFault) (ts : List ℕ) → told_plan r ≡ Ok (Some ts) → (days : Days) × (r ≡ Ok (Some days)) × (items days ≡ ts)
handed_out (Err fault) ts e = cc
handed_out (Ok None) ts e = cc
handed_out (Ok (Some days)) ts e = (days, refl, cc)
