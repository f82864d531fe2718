-- Runs of days that are asked for more than their mosts: what reply 20 names.
use Rattle.std.specs.Prelude.{◌≡◌, ℕ, zero, suc, ◌+◌, ◌-◌, ◌<◌, ◌≤◌, Bool, ◌&&◌, ◌↔◌, List, [], ◌∷◌, ◌++◌, map, reverse, length, Some, None, filter, Option, nat_le, nat_lt}
use Rattle.plans.specs.Plans.{Window, Pair, from, head, tick, most}

-- The window has all its days from day p on and before day q; and how many windows do.
abbrev pub lies : ℕ → ℕ → Window → Bool
lies p q w = nat_le p w.0 && nat_lt w.1 q

abbrev pub inside : List Window → ℕ → ℕ → ℕ
inside [] p q = 0
inside (w ∷ ws) p q = tick (lies p q w) + inside ws p q

-- f 0 + .. + f (n - 1), and f p + .. + f (q - 1).
abbrev pub total : (ℕ → ℕ) → ℕ → ℕ
total f zero = 0
total f (suc n) = total f n + f n

abbrev pub sum : (ℕ → ℕ) → ℕ → ℕ → ℕ
sum f p q = total f q - total f p

-- A run of days is a first and a last day of the d days.
pub record Run (k d : ℕ) (run : Window) : Type 0 where
  pub begins : k ≤ run.0
  pub ordered : run.0 ≤ run.1
  pub ends : run.1 < k + d

-- How many windows stand inside a run, and the sum of its mosts.
abbrev pub held : List Window → Window → ℕ
held ws run = inside ws run.0 (suc run.1)

abbrev pub room : ℕ → List Pair → Window → ℕ
room k pairs run = sum (most pairs) (run.0 - k) (suc run.1 - k)

-- No run is overfull: each holds at most as many windows as the sum of its mosts.
abbrev pub Roomy : ℕ → List Pair → List Window → Type 0
Roomy k pairs ws = (run : Window) → Run k (length pairs) run → held ws run ≤ room k pairs run

-- The windows inside a run outnumber the sum of its mosts.
abbrev pub overfull? : ℕ → List Pair → List Window → Window → Bool
overfull? k pairs ws run = nat_lt (room k pairs run) (held ws run)

-- The runs of the first n days, by their last day, and those with the same last day from the largest first day back.
abbrev pub runs : ℕ → ℕ → List Window
runs k zero = []
runs k (suc n) = runs k n ++ map (λ first. (first, k + n)) (reverse (from k (suc n)))

-- The overfull run with the smallest last day and, among those, the largest first day.
abbrev pub overfull_run : ℕ → List Pair → List Window → Option Window
overfull_run k pairs ws = head (filter (overfull? k pairs ws) (runs k (length pairs)))

-- The rule by which 20 names its run.
pub record Named (k : ℕ) (pairs : List Pair) (ws : List Window) (run : Window) : Type 0 where
  pub is_run : Run k (length pairs) run
  pub over : room k pairs run < held ws run
  pub smallest_last : (other : Window) → Run k (length pairs) other → other.1 < run.1 → held ws other ≤ room k pairs other
  pub largest_first : (other : Window) → Run k (length pairs) other → other.1 ≡ run.1 → run.0 < other.0
      → held ws other ≤ room k pairs other

-- The run found is the one that the rule names, and none is found just where no run is overfull.
abbrev pub RunNamed : Type 0
RunNamed =
    (k : ℕ) (pairs : List Pair) (ws : List Window)
    → ((run : Window) → (overfull_run k pairs ws ≡ Some run) ↔ Named k pairs ws run)
    × ((overfull_run k pairs ws ≡ None) ↔ Roomy k pairs ws)
