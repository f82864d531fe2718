-- Which days a window can have in a plan: tight runs leave it no other. Runs p..q are half open, as in `Needs`.
use Rattle.std.specs.Prelude.{◌≡◌, ℕ, zero, suc, ◌+◌, ◌-◌, ◌<◌, ◌≤◌, cond, ◌⊎◌, ◌↔◌, List, map, length, nat_le, nat_lt}
use Rattle.plans.specs.Plans.{Window, Pair, fewest, most, Plan}
use Rattle.plans.specs.Runs.{sum, Roomy}
use Rattle.plans.specs.Needs.{Within, Proper, forced, NeedLeft, NeedRight}
use Rattle.plans.specs.Narrowing.{window, narrowed, Possible, Smallest, Largest}

-- What is asked is proper and has a plan, and M and N are its needs.
pub record Ready (k : ℕ) (pairs : List Pair) (ws : List Window) (M N : ℕ → ℕ) : Type 0 where
  pub proper : Proper k pairs ws
  pub left : NeedLeft k (length pairs) (fewest pairs) ws M
  pub right : NeedRight k (length pairs) (fewest pairs) ws N
  pub roomy : Roomy k pairs ws
  pub fits : M (length pairs) ≤ length ws

-- A run is tight if the windows inside it fill it, or if with the needs before and after it they are all windows.
abbrev pub Tight : ℕ → List Pair → List Window → (ℕ → ℕ) → (ℕ → ℕ) → ℕ → ℕ → Type 0
Tight k pairs ws M N p q = (forced k ws p q ≡ sum (most pairs) p q) ⊎ (M p + forced k ws p q + N q ≡ length ws)

-- Each tight run that has day t holds the whole window.
abbrev pub Free : ℕ → List Pair → List Window → (ℕ → ℕ) → (ℕ → ℕ) → Window → ℕ → Type 0
Free k pairs ws M N w t =
    (p q : ℕ) → k + p ≤ t → t < k + q → q ≤ length pairs → Tight k pairs ws M N p q → (k + p ≤ w.0) × (w.1 < k + q)

-- A day of a window is its day in some plan exactly when each tight run that has the day holds the whole window.
abbrev pub DayPossible : Type 0
DayPossible =
    (k : ℕ) (pairs : List Pair) (ws : List Window) (M N : ℕ → ℕ) → Ready k pairs ws M N
    → (i : ℕ) → i < length ws → (t : ℕ) → (window ws i).0 ≤ t → t ≤ (window ws i).1
    → Possible k pairs ws i t ↔ Free k pairs ws M N (window ws i) t

-- m q is the earliest p such that p..q is tight, or no less than q where none is.
pub record Earliest (k : ℕ) (pairs : List Pair) (ws : List Window) (M N m : ℕ → ℕ) : Type 0 where
  pub earliest : (p q : ℕ) → p < q → q ≤ length pairs → Tight k pairs ws M N p q → m q ≤ p
  pub tight : (q : ℕ) → q ≤ length pairs → m q < q → Tight k pairs ws M N (m q) q

-- m p is the latest q such that p..q is tight, or no more than p where none is.
pub record Latest (k : ℕ) (pairs : List Pair) (ws : List Window) (M N m : ℕ → ℕ) : Type 0 where
  pub latest : (p q : ℕ) → p < q → q ≤ length pairs → Tight k pairs ws M N p q → q ≤ m p
  pub tight : (p : ℕ) → p < m p → (m p ≤ length pairs) × Tight k pairs ws M N p (m p)

-- The lowest day goes up from the first day of the window: to q wherever a tight run that has it ends at q.
abbrev pub scan_up : (ℕ → ℕ) → ℕ → ℕ → ℕ → ℕ
scan_up m low q zero = low
scan_up m low q (suc n) = scan_up m (cond (nat_le (m q) low) q low) (suc q) n

abbrev pub lowest : ℕ → (ℕ → ℕ) → Window → ℕ
lowest k m w = k + scan_up m (w.0 - k) (suc (w.0 - k)) (w.1 - w.0)

-- The highest day goes down from its last day: to the day before p wherever a tight run that has it begins at p.
abbrev pub scan_down : (ℕ → ℕ) → ℕ → ℕ → ℕ → ℕ
scan_down m high a zero = high
scan_down m high a (suc n) = scan_down m (cond (nat_lt high (m (suc (a + n)))) (a + n) high) a n

abbrev pub highest : ℕ → (ℕ → ℕ) → Window → ℕ
highest k m w = k + scan_down m (w.1 - k) (w.0 - k) (w.1 - w.0)

-- The two scans find the smallest and the largest day.
abbrev pub LowestSmallest : Type 0
LowestSmallest =
    (k : ℕ) (pairs : List Pair) (ws : List Window) (M N m : ℕ → ℕ) → Ready k pairs ws M N → Earliest k pairs ws M N m
    → (i : ℕ) → i < length ws → Smallest k pairs ws i (lowest k m (window ws i))

abbrev pub HighestLargest : Type 0
HighestLargest =
    (k : ℕ) (pairs : List Pair) (ws : List Window) (M N m : ℕ → ℕ) → Ready k pairs ws M N → Latest k pairs ws M N m
    → (i : ℕ) → i < length ws → Largest k pairs ws i (highest k m (window ws i))

-- So narrowing is the two scans of each window.
abbrev pub NarrowedScanned : Type 0
NarrowedScanned =
    (k : ℕ) (pairs : List Pair) (ws : List Window) (M N early late : ℕ → ℕ) → Ready k pairs ws M N → Earliest k pairs ws M N early
    → Latest k pairs ws M N late → narrowed k pairs ws ≡ map (λ w. (lowest k early w, highest k late w)) ws

-- Where there is a plan, there are the needs,
abbrev pub ReadyFromPlan : Type 0
ReadyFromPlan =
    (k : ℕ) (pairs : List Pair) (ws : List Window) (ts : List ℕ) → Within k (length pairs) ws → Plan k pairs ws ts
    → (M : ℕ → ℕ) × (N : ℕ → ℕ) × Ready k pairs ws M N

-- and there always are the earliest and the latest ends of tight runs.
abbrev pub TightEndsExist : Type 0
TightEndsExist =
    (k : ℕ) (pairs : List Pair) (ws : List Window) (M N : ℕ → ℕ)
    → ((m : ℕ → ℕ) × Earliest k pairs ws M N m) × ((m : ℕ → ℕ) × Latest k pairs ws M N m)
