use Rattle.std.proofs.Common.{◌≡◌, ℕ, ◌+◌, ◌*◌, ◌<◌, ◌≤◌, length, get_or}
use Rattle.narrowing.specs.Counting.{tabled}
use Rattle.narrowing.specs.Scanning.{high_day}
use Rattle.narrowing.proofs.scans.highs.Given as goal

-- the rows from a on are in, and the highest days of the last one are at hand
abbrev pub invariant-loop-a : goal.invariant-loop-a
invariant-loop-a l =
    (length l.high ≡ 128)
    × ((a b : ℕ) → l.a ≤ a → a ≤ b → b < length l.days.pairs.now → get_or l.table (a * 128 + b) 0 ≡ high_day (tabled l.latest) a b)
    × ((b : ℕ) → l.a ≤ b → b < length l.days.pairs.now → get_or l.high b 0 ≡ high_day (tabled l.latest) l.a b)
    × ((a b : ℕ) → a < b → b < length l.days.pairs.now → get_or l.table (b * 128 + a) 0 ≡ get_or l.initial.table (b * 128 + a) 0)
