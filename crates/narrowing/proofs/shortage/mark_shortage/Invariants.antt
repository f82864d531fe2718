use Rattle.std.proofs.Common.{◌≡◌, ℕ, ◌+◌, ◌<◌, ◌≤◌, List, length, get_or}
use Rattle.plans.specs.Plans.{Window}
use Rattle.plans.specs.Sets.{in_set, needed}
use Rattle.narrowing.specs.Counting.{Counted, tabled}
use Rattle.narrowing.proofs.Missing.{missing}
use Rattle.narrowing.proofs.shortage.mark_shortage.Given as goal

-- no day before v is marked, and the marks so far tell why the need is so much larger than that before v
abbrev pub invariant-loop-v : goal.invariant-loop-v
invariant-loop-v l =
    (l.v ≤ length l.days.pairs.now)
    × ((j : ℕ) → get_or l.marks j 0 ≤ 1)
    × ((j : ℕ) → j < l.v → get_or l.marks j 0 ≡ 0)
    × ((k : ℕ) (ws : List Window) → Counted k (length l.days.pairs.now) ws l.tables.held
    → tabled l.tables.left (length l.days.pairs.now) ≤ tabled l.tables.left l.v + needed k l.marks l.days.pairs.now + missing (in_set k l.marks) (k + l.v) ws)

abbrev pub decreases-loop-v : goal.decreases-loop-v
decreases-loop-v l = l.v
