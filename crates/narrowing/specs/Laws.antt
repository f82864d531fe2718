-- What narrowing means, wherever there is a plan.
use Rattle.std.specs.Prelude.{◌≡◌, ℕ, ◌↔◌, List, map}
use Rattle.plans.specs.Plans.{Window, Pair, Plan}
use Rattle.plans.specs.Narrowing.{narrowed}
use Rattle.narrowing.specs.Narrow.{placed, Narrowest}

-- Each narrowed window is from the smallest to the largest day of its place in any plan.
abbrev pub NarrowedEnds : Type 0
NarrowedEnds = (k : ℕ) (pairs : List Pair) (ws : List Window) → ((ts : List ℕ) × Plan k pairs ws ts) → Narrowest k pairs ws (narrowed k pairs ws)

-- The narrowed windows have the same plans.
abbrev pub PlansStay : Type 0
PlansStay =
    (k : ℕ) (pairs : List Pair) (ws : List Window) → ((ts : List ℕ) × Plan k pairs ws ts) → (ts : List ℕ)
    → Plan k pairs (narrowed k pairs ws) ts ↔ Plan k pairs ws ts

-- Narrowing twice changes nothing the second time.
abbrev pub NarrowedTwice : Type 0
NarrowedTwice =
    (k : ℕ) (pairs : List Pair) (ws : List Window) → ((ts : List ℕ) × Plan k pairs ws ts)
    → narrowed k pairs (narrowed k pairs ws) ≡ narrowed k pairs ws

-- Records that are put into windows tell these windows, and put back into their own they are what they were: nothing else
-- of them has changed.
pub record RestStays {R : Type 0} (span : R → ℕ × ℕ) (put : R → ℕ × ℕ → R) (rs : List R) (ws : List Window) : Type 0 where
  pub told : map span (placed put ws rs) ≡ ws
  pub back : placed put (map span rs) (placed put ws rs) ≡ rs
  pub again : placed put ws (placed put ws rs) ≡ placed put ws rs
