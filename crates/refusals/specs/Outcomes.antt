-- What a check answers: nothing, or why it refuses.
use Rattle.std.specs.Prelude.{ℕ, Some, None, Ok, Err, Option, Result}

-- refused with the place that was found, or accepted where there is none
abbrev pub unless : {E : Type 0} → (ℕ → E) → Option ℕ → Result (Unit {0}) E
unless fault None = Ok tt
unless fault (Some i) = Err (fault i)
