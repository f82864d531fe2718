use Rattle.std.proofs.Common.{◌≡◌, ℕ, ◌<◌, ◌≤◌, get_or}
use Rattle.narrowing.specs.Scanning.{Stepped}
use Rattle.narrowing.proofs.scans.step.Given as goal

abbrev pub invariant-loop-i : goal.invariant-loop-i
invariant-loop-i g l =
    ((j : ℕ) → j < l.i → Stepped (goal.F-post g l.takes) l.day (get_or l.initial.found j 0) (get_or l.found j 0))
    × ((j : ℕ) → l.i ≤ j → get_or l.found j 0 ≡ get_or l.initial.found j 0)
    × ((j : ℕ) → j < l.i → get_or l.row j 0 ≡ get_or l.found j 0)
