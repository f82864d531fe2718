use Rattle.std.proofs.Common.{◌≡◌, ℕ, suc, ◌+◌, ◌*◌, ◌<◌, ◌≤◌, map, length, get_or}
use Rattle.plans.specs.Needs.{forced}
use Rattle.narrowing.specs.Counting.{matching}
use Rattle.narrowing.proofs.counting.count_runs.Given as goal

-- the rows before this last day are counted, the others still tallied, and the sums are those of the rows before
abbrev pub invariant-loop-last : goal.invariant-loop-last
invariant-loop-last g l =
    let ws = map g.R.Record.span l.records in
    (length l.sums ≡ 128)
    × ((b : ℕ) → b < l.last → (p : ℕ) → p ≤ b → get_or l.table (b * 128 + p) 0 ≡ forced l.days.first ws p (suc b))
    × ((b : ℕ) → l.last ≤ b → b < 128 → (a : ℕ) → a < 128 → get_or l.table (b * 128 + a) 0 ≡ matching ws (l.days.first + a) (l.days.first + b))
    × ((p : ℕ) → p < l.last → get_or l.sums p 0 ≡ forced l.days.first ws p l.last)
    × ((p : ℕ) → l.last ≤ p → get_or l.sums p 0 ≡ 0)
