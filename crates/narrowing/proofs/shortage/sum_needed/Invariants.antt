use Rattle.std.proofs.Common.{◌≡◌, ℕ, ◌*◌, ◌≤◌, length}
use Rattle.plans.specs.Plans.{fewest}
use Rattle.plans.specs.Sets.{sum_over}
use Rattle.narrowing.proofs.shortage.sum_needed.Given as goal

abbrev pub invariant-loop-pair : goal.invariant-loop-pair
invariant-loop-pair l = (l.fewests ≤ length l.yielded * 65535) × ((k : ℕ) → l.fewests ≡ sum_over k l.marks (fewest l.days.pairs.now) (length l.yielded))
