use Rattle.std.proofs.Common.{ℕ, suc, ◌+◌, ◌*◌, ◌<◌, ◌≤◌, get_or}
use Rattle.plans.specs.Plans.{most}
use Rattle.plans.specs.Runs.{sum}
use Rattle.narrowing.proofs.runs.overfull.Given as goal

-- no run that ends before this last day is overfull
abbrev pub invariant-loop-last : goal.invariant-loop-last
invariant-loop-last l = (p e : ℕ) → p ≤ e → e < l.last → get_or l.table (e * 128 + p) 0 ≤ sum (most l.days.pairs.now) p (suc e)
