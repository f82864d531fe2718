-- The windows on the way to the first plan.
use Rattle.std.specs.Prelude.{◌≡◌, ℕ, List, length, Ok}
use Rattle.plans.specs.Plans.{Pair, Plan}
use Rattle.plans.specs.Plans as plans
use Rattle.plans.specs.Narrowing.{narrowed, Singles}
use Rattle.records.specs.declared.record.bare.Window.{Window}
use Rattle.records.specs.Checks.{checked}

-- The first day of a bare window.
abbrev pub first_of : Window → ℕ
first_of w = w.first

-- The first i places are closed to a day each: the windows pass the checks, they are narrowed, and there is a plan.
pub record Closed (k : ℕ) (pairs : List Pair) (i : ℕ) (ws : List plans.Window) : Type 0 where
  pub passes : checked k pairs ws (length pairs) ≡ Ok tt
  pub plan : (ts : List ℕ) × Plan k pairs ws ts
  pub narrow : narrowed k pairs ws ≡ ws
  pub singles : Singles i ws
