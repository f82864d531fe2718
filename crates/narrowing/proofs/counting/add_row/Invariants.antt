use Rattle.std.proofs.Common.{◌≡◌, ℕ, ◌+◌, ◌<◌, ◌≤◌, length, get_or, drop, sum}
use Rattle.narrowing.proofs.counting.add_row.Given as goal

abbrev pub invariant-loop-p : goal.invariant-loop-p
invariant-loop-p l =
    (l.run ≡ sum (drop l.p l.initial.row))
    × ((j : ℕ) → j < l.p → get_or l.row j 0 ≡ get_or l.initial.row j 0)
    × ((j : ℕ) → j < l.p → get_or l.sums j 0 ≡ get_or l.initial.sums j 0)
    × ((j : ℕ) → l.p ≤ j → j < length l.row → get_or l.row j 0 ≡ get_or l.initial.sums j 0 + sum (drop j l.initial.row))
    × ((j : ℕ) → l.p ≤ j → j < length l.row → get_or l.sums j 0 ≡ get_or l.initial.sums j 0 + sum (drop j l.initial.row))
