use Rattle.std.proofs.Common.{◌≡◌, ℕ, ◌+◌, ◌<◌, ◌≤◌, max, get_or}
use Rattle.narrowing.proofs.right.lift.Given as goal

abbrev pub invariant-loop-p : goal.invariant-loop-p
invariant-loop-p l =
    ((j : ℕ) → j < l.p → get_or l.needs j 0 ≡ max (get_or l.initial.needs j 0) (get_or l.row j 0 + l.after))
    × ((j : ℕ) → l.p ≤ j → get_or l.needs j 0 ≡ get_or l.initial.needs j 0)
