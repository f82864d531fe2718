use Rattle.std.proofs.Common.{◌≡◌, ℕ, ◌≤◌, List, length}
use Rattle.plans.specs.Plans.{Window}
use Rattle.narrowing.specs.Counting.{Counted, tabled}
use Rattle.narrowing.proofs.TightEnds.{EarlyTo, LateTo}
use Rattle.narrowing.proofs.tight.tight_ends.Given as goal

-- the runs that end at v or before are in; an array that is lent in parts tells its length by the invariant
abbrev pub invariant-loop-v : goal.invariant-loop-v
invariant-loop-v l =
    ((k : ℕ) (ws : List Window) → Counted k (length l.days.pairs.now) ws l.tables.held → length ws ≡ l.windows
    → EarlyTo k l.days.pairs.now ws (tabled l.tables.left) (tabled l.right) l.v (tabled l.earliest)
    × LateTo k l.days.pairs.now ws (tabled l.tables.left) (tabled l.right) l.v (tabled l.latest))
    × ((p : ℕ) → tabled l.latest p ≤ l.v)
    × (length l.earliest ≡ 129) × (length l.latest ≡ 129)
