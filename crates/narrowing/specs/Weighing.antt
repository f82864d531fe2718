-- What the tables say of windows and days.
use Rattle.std.specs.Prelude.{ℕ, ◌+◌, ◌*◌, ◌<◌, ◌≤◌, List, length, Ok, Err, Result}
use Rattle.plans.specs.Plans.{Window, Pair, fewest, Plan}
use Rattle.plans.specs.Runs.{Roomy, Named}
use Rattle.plans.specs.Needs.{NeedLeft}
use Rattle.narrowing.specs.declared.tables.Tables.{Tables}
use Rattle.narrowing.specs.declared.tables.Lack.{Lack}
use Rattle.narrowing.specs.declared.tables.Lack.TheVariants.{Room, Windows}
use Rattle.narrowing.specs.Counting.{tabled, Counted, Summed, NeedsOf}

-- There is a plan, and the tables have the counts, the sums and the needs.
pub record Planned (k : ℕ) (pairs : List Pair) (ws : List Window) (t : Tables) : Type 0 where
  pub plan : (ts : List ℕ) × Plan k pairs ws ts
  pub counted : Counted k (length pairs) ws t.held
  pub summed : Summed pairs t.before
  pub needs : NeedLeft k (length pairs) (fewest pairs) ws (tabled t.left)

-- The run from day p to day b is the one that 20 names.
pub record Crowded (k : ℕ) (pairs : List Pair) (ws : List Window) (t : Tables) (p b : ℕ) : Type 0 where
  pub named : Named k pairs ws (k + p, k + b)
  pub counted : Counted k (length pairs) ws t.held
  pub summed : Summed pairs t.before

-- No run is overfull, but the days need more windows than there are.
pub record Wanting (k : ℕ) (pairs : List Pair) (ws : List Window) (t : Tables) : Type 0 where
  pub roomy : Roomy k pairs ws
  pub counted : Counted k (length pairs) ws t.held
  pub needs : NeedsOf pairs t.held t.left
  pub small : (v : ℕ) → v ≤ length pairs → tabled t.left v ≤ v * 65535
  pub over : length ws < tabled t.left (length pairs)

abbrev pub Weighed : ℕ → List Pair → List Window → Tables → Result (Unit {0}) Lack → Type 0
Weighed k pairs ws t (Ok _) = Planned k pairs ws t
Weighed k pairs ws t (Err (Room p b)) = Crowded k pairs ws t p b
Weighed k pairs ws t (Err Windows) = Wanting k pairs ws t
