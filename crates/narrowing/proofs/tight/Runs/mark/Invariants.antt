use Rattle.std.proofs.Common.{◌≡◌, ℕ, ◌<◌, ◌≤◌, false, cond, get_or}
use Rattle.narrowing.specs.Tight.{tight_at}
use Rattle.narrowing.proofs.tight.Runs.mark.Given as goal

abbrev pub invariant-loop-p : goal.invariant-loop-p
invariant-loop-p l =
    (l.seen ≡ false → (j : ℕ) → j < l.p → tight_at l.self j ≡ false)
    × ((j : ℕ) → j < l.p → get_or l.latest j 0 ≡ cond (tight_at l.self j) l.end (get_or l.initial.latest j 0))
    × ((j : ℕ) → l.p ≤ j → get_or l.latest j 0 ≡ get_or l.initial.latest j 0)
