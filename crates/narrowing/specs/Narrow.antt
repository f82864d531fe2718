-- The narrowing: how the records stand afterwards.
use Rattle.std.specs.Prelude.{ℕ, ◌<◌, List, [], ◌∷◌, length, Ok, Err}
use Rattle.plans.specs.Plans.{Window, Pair}
use Rattle.plans.specs.Narrowing.{window, narrowed, Smallest, Largest}
use Rattle.records.specs.Checks.{Outcome}

-- Each record is put into the window at its place; the rest of it stays.
abbrev pub placed : {R : Type 0} → (R → ℕ × ℕ → R) → List Window → List R → List R
placed put [] rs = rs
placed put (w ∷ ws) [] = []
placed put (w ∷ ws) (r ∷ rs) = put r w ∷ placed put ws rs

-- If the answer is that there is a plan, each record is put into its narrowed window; a refusal leaves all as they were.
abbrev pub narrow_of : {R : Type 0} → (R → ℕ × ℕ → R) → ℕ → List Pair → List Window → Outcome → List R → List R
narrow_of put k pairs ws (Ok _) rs = placed put (narrowed k pairs ws) rs
narrow_of put k pairs ws (Err fault) rs = rs

-- What that means: each end of a window is the day of its place in some plan, and no plan gives the place a day outside.
pub record Narrowest (k : ℕ) (pairs : List Pair) (before after : List Window) : Type 0 where
  pub first : (i : ℕ) → i < length before → Smallest k pairs before i (window after i).0
  pub last : (i : ℕ) → i < length before → Largest k pairs before i (window after i).1
