-- The tables of the verdict. They count days from day k on, so that their day v is day k + v.
use Rattle.std.specs.Prelude.{◌≡◌, ℕ, suc, ◌+◌, ◌-◌, ◌*◌, ◌<◌, ◌≤◌, ◌&&◌, ◌⊎◌, List, [], ◌∷◌, length, Option, MatchOption, ◌==◌, slice_index}
use Rattle.plans.specs.Plans.{Window, Pair, tick, fewest, most}
use Rattle.plans.specs.Runs.{total, Roomy, Named}
use Rattle.plans.specs.Sets.{ShowsShortage}
use Rattle.plans.specs.Needs.{Within, forced, NeedLeft}

-- A table of zeros.
abbrev pub Blank : List ℕ → Type 0
Blank xs = (i : ℕ) → slice_index xs i ≡ 0

-- What a list has for day v.
abbrev pub tabled : List ℕ → ℕ → ℕ
tabled xs v = slice_index xs v

-- How many windows begin on day a and end on day b.
abbrev pub matching : List Window → ℕ → ℕ → ℕ
matching [] a b = 0
matching (w ∷ ws) a b = tick (a == w.0 && b == w.1) + matching ws a b

-- Row b has, for each first day a, how many windows begin on day a and end on day b.
abbrev pub Tallied : ℕ → List Window → List ℕ → Type 0
Tallied k ws xs = (b : ℕ) → b < 128 → (a : ℕ) → a < 128 → slice_index xs (b * 128 + a) ≡ matching ws (k + a) (k + b)

-- Row b has, for each first day p, how many windows lie inside the days p to b.
pub record Counted (k d : ℕ) (ws : List Window) (table : List ℕ) : Type 0 where
  pub within : Within k d ws
  pub cells : (b : ℕ) → b < d → (p : ℕ) → p ≤ b → slice_index table (b * 128 + p) ≡ forced k ws p (suc b)

-- The sums of the mosts before each day.
abbrev pub Summed : List Pair → List ℕ → Type 0
Summed pairs before = (v : ℕ) → v ≤ length pairs → slice_index before v ≡ total (most pairs) v

-- From first day p on, no cell of the row is above what is left of the mosts.
abbrev pub Fits : List ℕ → List ℕ → ℕ → ℕ → Type 0
Fits row before top p = (i : ℕ) → p ≤ i → i < length row → slice_index row i ≤ top - slice_index before i

-- The largest of the start and of the first n sums of a need and a cell.
pub record Reach (row needs : List ℕ) (start n r : ℕ) : Type 0 where
  pub from_start : start ≤ r
  pub above : (p : ℕ) → p < n → slice_index needs p + slice_index row p ≤ r
  pub attained : (r ≡ start) ⊎ ((p : ℕ) × (p < n) × (r ≡ slice_index needs p + slice_index row p))

-- Whatever windows the table counts, where no run is found none is overfull, and a run that is found, told as its first
-- and its last day, is the one that the rule names.
abbrev pub Found : List Pair → List ℕ → Option (ℕ × ℕ) → Type 0
Found pairs table r =
    (k : ℕ) (ws : List Window) → Counted k (length pairs) ws table
    → MatchOption r (Roomy k pairs ws) (λ run. Named k pairs ws (k + run.0, k + run.1))

-- Whatever windows the table counts, the list has their need from the left.
abbrev pub NeedsOf : List Pair → List ℕ → List ℕ → Type 0
NeedsOf pairs table left =
    (k : ℕ) (ws : List Window) → Counted k (length pairs) ws table → NeedLeft k (length pairs) (fewest pairs) ws (tabled left)

-- Whatever windows the table counts, if the need of all days is above their number the marks show the shortage.
abbrev pub Shown : List Pair → List ℕ → List ℕ → List ℕ → Type 0
Shown pairs table left marks =
    (k : ℕ) (ws : List Window) → Counted k (length pairs) ws table → length ws < tabled left (length pairs) → ShowsShortage k pairs ws marks
