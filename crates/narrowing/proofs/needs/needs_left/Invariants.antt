use Rattle.std.proofs.Common.{ℕ, ◌*◌, ◌≤◌, List, length, get_or}
use Rattle.plans.specs.Plans.{Window, fewest}
use Rattle.plans.specs.Needs.{NeedLeft}
use Rattle.narrowing.specs.Counting.{Counted, tabled}
use Rattle.narrowing.proofs.needs.needs_left.Given as goal

-- the need of the days before v
abbrev pub invariant-loop-v : goal.invariant-loop-v
invariant-loop-v l =
    ((k : ℕ) (ws : List Window) → Counted k (length l.days.pairs.now) ws l.table → NeedLeft k l.v (fewest l.days.pairs.now) ws (tabled l.left))
    × ((j : ℕ) → j ≤ l.v → get_or l.left j 0 ≤ j * 65535)
