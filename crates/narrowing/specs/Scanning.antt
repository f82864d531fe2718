-- The tables of the narrowing. They count days from day k on, as those of the verdict do.
use Rattle.std.specs.Prelude.{◌≡◌, ℕ, suc, ◌+◌, ◌-◌, ◌*◌, ◌<◌, ◌≤◌, Bool, cond, ◌||◌, List, length, ◌==◌, slice_index}
use Rattle.plans.specs.Plans.{Window, Pair, fewest}
use Rattle.plans.specs.Needs.{NeedRight}
use Rattle.plans.specs.Narrowing.{window}
use Rattle.plans.specs.Tight.{Earliest, Latest, scan_up, scan_down}
use Rattle.narrowing.specs.Counting.{tabled, Counted}

-- Whatever windows the table counts, the list has their need from the right.
abbrev pub RightNeedsOf : List Pair → List ℕ → List ℕ → Type 0
RightNeedsOf pairs table right =
    (k : ℕ) (ws : List Window) → Counted k (length pairs) ws table → NeedRight k (length pairs) (fewest pairs) ws (tabled right)

-- Of the runs with one last day, the one from first day p on is tight: its cell is all that is left of the mosts, `top` in
-- all, or it comes with the need before it to `rest`, the windows that the days after it do not need.
abbrev pub tight? : List ℕ → List ℕ → List ℕ → ℕ → ℕ → ℕ → Bool
tight? row before left top rest p = slice_index row p == top - slice_index before p || slice_index left p + slice_index row p == rest

-- The two needs of each day are together within the n windows.
abbrev pub NeedsMeet : ℕ → List ℕ → List ℕ → ℕ → Type 0
NeedsMeet d left right n = (v : ℕ) → v ≤ d → tabled left v + tabled right v ≤ n

-- Whatever n windows the table counts, the list has for each end the earliest begin of a tight run,
abbrev pub EarliestOf : List Pair → List ℕ → List ℕ → List ℕ → ℕ → List ℕ → Type 0
EarliestOf pairs table left right n earliest =
    (k : ℕ) (ws : List Window) → Counted k (length pairs) ws table → length ws ≡ n → Earliest k pairs ws (tabled left) (tabled right) (tabled earliest)

-- or for each begin the latest end.
abbrev pub LatestOf : List Pair → List ℕ → List ℕ → List ℕ → ℕ → List ℕ → Type 0
LatestOf pairs table left right n latest =
    (k : ℕ) (ws : List Window) → Counted k (length pairs) ws table → length ws ≡ n → Latest k pairs ws (tabled left) (tabled right) (tabled latest)

-- After a step of a scan a window that had the old day has the new one if the test takes the old one.
abbrev pub Stepped : (ℕ → Bool → Type 0) → ℕ → ℕ → ℕ → Type 0
Stepped takes day old new = (old < 256) × ((taken : Bool) × takes old taken × (new ≡ cond taken day old))

-- The lowest and the highest day of the window from day a to day b, by the scans.
abbrev pub low_day : (ℕ → ℕ) → ℕ → ℕ → ℕ
low_day m a b = scan_up m a (suc a) (b - a)

abbrev pub high_day : (ℕ → ℕ) → ℕ → ℕ → ℕ
high_day m a b = scan_down m b a (b - a)

-- Row b has the lowest day for each first day a, and row a the highest for each last day b.
abbrev pub Lows : ℕ → List ℕ → List ℕ → Type 0
Lows d earliest table = (a b : ℕ) → a ≤ b → b < d → slice_index table (b * 128 + a) ≡ low_day (tabled earliest) a b

abbrev pub Highs : ℕ → List ℕ → List ℕ → Type 0
Highs d latest table = (a b : ℕ) → a ≤ b → b < d → slice_index table (a * 128 + b) ≡ high_day (tabled latest) a b

-- The window that such a table gives for a window, and that for each it gives one that has a day and ends no later.
abbrev pub found : ℕ → List ℕ → Window → Window
found k table w = let a = w.0 - k in let b = w.1 - k in (k + slice_index table (b * 128 + a), k + slice_index table (a * 128 + b))

abbrev pub Shorter : ℕ → List ℕ → List Window → Type 0
Shorter k table ws =
    (i : ℕ) → i < length ws → ((found k table (window ws i)).0 ≤ (found k table (window ws i)).1) × ((found k table (window ws i)).1 ≤ (window ws i).1)

-- A window of the days for which the table gives one that has a day and ends no later.
pub record AtHand (k : ℕ) (table : List ℕ) (w : Window) : Type 0 where
  pub begins : k ≤ w.0
  pub ordered : w.0 ≤ w.1
  pub ends : w.1 < k + 128
  pub has_day : (found k table w).0 ≤ (found k table w).1
  pub no_later : (found k table w).1 ≤ w.1
