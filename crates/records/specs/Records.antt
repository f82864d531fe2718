-- What a record does with a window.
use Rattle.std.specs.Prelude.{ℕ, cond, nat_le}

-- A record takes a window with first ≤ last, and is left as it is by any other.
abbrev pub taking : {R : Type 0} → (R → ℕ × ℕ → R) → R → ℕ × ℕ → R
taking put r w = cond (nat_le w.0 w.1) (put r w) r
