use Rattle.std.proofs.Common.{◌≡◌, ℕ, suc, ◌≤◌, length, get_or}
use Rattle.narrowing.specs.Counting.{tabled}
use Rattle.narrowing.specs.Scanning.{low_day, Lows}
use Rattle.narrowing.proofs.scans.lows.Given as goal

-- the rows before b are in, and the lowest days of the last one are at hand
abbrev pub invariant-loop-b : goal.invariant-loop-b
invariant-loop-b l =
    (length l.low ≡ 128) × Lows l.b l.earliest l.table
    × ((a b : ℕ) → a ≤ b → suc b ≡ l.b → get_or l.low a 0 ≡ low_day (tabled l.earliest) a b)
