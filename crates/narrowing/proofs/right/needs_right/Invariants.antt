use Rattle.std.proofs.Common.{ℕ, ◌+◌, ◌*◌, ◌≤◌, List, length, get_or}
use Rattle.plans.specs.Plans.{Window, fewest}
use Rattle.narrowing.specs.Counting.{Counted, tabled}
use Rattle.narrowing.proofs.Backward.{RightFrom}
use Rattle.narrowing.proofs.right.needs_right.Given as goal

-- the rows from v on are in
abbrev pub invariant-loop-v : goal.invariant-loop-v
invariant-loop-v l =
    ((k : ℕ) (ws : List Window) → Counted k (length l.days.pairs.now) ws l.table → RightFrom k (length l.days.pairs.now) l.v (fewest l.days.pairs.now) ws (tabled l.right))
    × ((j : ℕ) → j ≤ length l.days.pairs.now → get_or l.right j 0 + j * 65535 ≤ length l.days.pairs.now * 65535)
