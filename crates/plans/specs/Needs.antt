-- When there is a plan: what the days before each day need, and the theorem. A run p..q here has the days k + p to
-- k + q - 1, so p..p has none.
use Rattle.std.specs.Prelude.{◌≡◌, ℕ, suc, ◌+◌, ◌<◌, ◌≤◌, ◌⊎◌, ◌↔◌, List, [], ◌∷◌, length, Some}
use Rattle.plans.specs.Plans.{Window, Pair, fewest, most, KeepsMosts, Plan}
use Rattle.plans.specs.Runs.{inside, Roomy, overfull_run}
use Rattle.plans.specs.Sets.{Marks, ShowsShortage}

-- Each window has a day, and all its days are of the d days.
abbrev pub Within : ℕ → ℕ → List Window → Type 0
Within k d [] = Unit {0}
Within k d (w ∷ ws) = (k ≤ w.0) × (w.0 ≤ w.1) × (w.1 < k + d) × Within k d ws

-- What may be asked: windows within the d days, and no fewest above its most.
pub record Proper (k : ℕ) (pairs : List Pair) (ws : List Window) : Type 0 where
  pub within : Within k (length pairs) ws
  pub ordered : (v : ℕ) → v < length pairs → fewest pairs v ≤ most pairs v

-- How many windows stand inside the run p..q.
abbrev pub forced : ℕ → List Window → ℕ → ℕ → ℕ
forced k ws p q = inside ws (k + p) (k + q)

-- M v is the need from the left: how many the days before day k + v have at least. It grows by the fewest of each day
-- and by what each run is forced to hold, and is no larger than one of the two makes it.
pub record NeedLeft (k d : ℕ) (ls : ℕ → ℕ) (ws : List Window) (M : ℕ → ℕ) : Type 0 where
  pub start : M 0 ≡ 0
  pub by_day : (v : ℕ) → v < d → M v + ls v ≤ M (suc v)
  pub by_run : (p q : ℕ) → p ≤ q → q ≤ d → M p + forced k ws p q ≤ M q
  pub attained : (v : ℕ) → v < d → (M (suc v) ≡ M v + ls v) ⊎ ((p : ℕ) × (p ≤ v) × (M (suc v) ≡ M p + forced k ws p (suc v)))

-- N v is the need from the right: how many day k + v and the days after it have at least.
pub record NeedRight (k d : ℕ) (ls : ℕ → ℕ) (ws : List Window) (N : ℕ → ℕ) : Type 0 where
  pub end : N d ≡ 0
  pub by_day : (v : ℕ) → v < d → ls v + N (suc v) ≤ N v
  pub by_run : (p q : ℕ) → p ≤ q → q ≤ d → forced k ws p q + N q ≤ N p
  pub attained : (v : ℕ) → v < d → (N v ≡ ls v + N (suc v)) ⊎ ((q : ℕ) × (v < q) × (q ≤ d) × (N v ≡ forced k ws v q + N q))

-- There are such needs.
abbrev pub NeedsExist : Type 0
NeedsExist =
    (k d : ℕ) (ls : ℕ → ℕ) (ws : List Window) → Within k d ws
    → ((M : ℕ → ℕ) × NeedLeft k d ls ws M) × ((N : ℕ → ℕ) × NeedRight k d ls ws N)

-- A plan exists exactly when no run is overfull and the need of all days is within the number of windows.
abbrev pub PlanExists : Type 0
PlanExists =
    (k : ℕ) (pairs : List Pair) (ws : List Window) (M : ℕ → ℕ) → Proper k pairs ws → NeedLeft k (length pairs) (fewest pairs) ws M
    → ((ts : List ℕ) × Plan k pairs ws ts) ↔ (Roomy k pairs ws × (M (length pairs) ≤ length ws))

-- Some assignment keeps the mosts exactly when no run is overfull.
abbrev pub MostsKept : Type 0
MostsKept =
    (k : ℕ) (pairs : List Pair) (ws : List Window) → Within k (length pairs) ws
    → ((ts : List ℕ) × KeepsMosts k pairs ws ts) ↔ Roomy k pairs ws

-- Where the need is too large, some set shows the shortage.
abbrev pub NeedShown : Type 0
NeedShown =
    (k : ℕ) (pairs : List Pair) (ws : List Window) (M : ℕ → ℕ) → Within k (length pairs) ws → NeedLeft k (length pairs) (fewest pairs) ws M
    → length ws < M (length pairs) → (marks : List ℕ) × Marks (length pairs) marks × ShowsShortage k pairs ws marks

-- No assignment keeps the mosts exactly when an overfull run is found.
abbrev pub RunFound : Type 0
RunFound =
    (k : ℕ) (pairs : List Pair) (ws : List Window) → Within k (length pairs) ws
    → ((ts : List ℕ) → KeepsMosts k pairs ws ts → ⊥) ↔ ((run : Window) × (overfull_run k pairs ws ≡ Some run))

-- Where some assignment keeps the mosts and there is no plan, some set shows the shortage.
abbrev pub ShortageFound : Type 0
ShortageFound =
    (k : ℕ) (pairs : List Pair) (ws : List Window) → Proper k pairs ws → ((ts : List ℕ) × KeepsMosts k pairs ws ts)
    → ((ts : List ℕ) → Plan k pairs ws ts → ⊥) → (marks : List ℕ) × Marks (length pairs) marks × ShowsShortage k pairs ws marks
