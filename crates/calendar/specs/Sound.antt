-- A closing layer has sound pairs where the calendar below has.
use Rattle.std.specs.Prelude.{ℕ, Bool, true, false, cond, List}
use Rattle.std.proofs.Common.{arith}
use Rattle.pairs.specs.Pairs.{Sound}
use Rattle.calendar.specs.Pairs.{in_runs, closed}

either_sound : (b : Bool) (p : ℕ × ℕ) → Sound p → Sound (cond b (0, 0) p)
either_sound true p s = (omega arith, omega arith)
either_sound false p s = s

pub sound_closed : (runs : List (ℕ × ℕ)) (below : ℕ → ℕ × ℕ) (t : ℕ) → Sound (below t) → Sound (closed runs below t)
sound_closed runs below t s = either_sound (in_runs runs t) (below t) s
