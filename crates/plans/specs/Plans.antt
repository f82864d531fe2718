-- Windows, assignments and plans. The days that count are k to k + d - 1, and `pairs` has a pair (fewest, most) for
-- each of these d days, day k first.
use Rattle.std.specs.Prelude.{◌≡◌, ℕ, zero, suc, ◌+◌, ◌-◌, ◌<◌, ◌≤◌, Bool, true, false, ◌&&◌, ◌⊎◌, ◌↔◌, List, [], ◌∷◌, ◌++◌, map, length, Some, None, filter, Option, ◌==◌, nat_le, slice_index_or}

-- A window is a first and a last day; it has both and the days between.
abbrev pub Window : Type 0
Window = ℕ × ℕ

-- The fewest and the most of a day.
abbrev pub Pair : Type 0
Pair = ℕ × ℕ

-- Day t and the days after it, n in all.
abbrev pub from : ℕ → ℕ → List ℕ
from t zero = []
from t (suc n) = t ∷ from (suc t) n

-- The days of a window in ascending order; none if its first day comes after its last.
abbrev pub days : Window → List ℕ
days w = from w.0 (suc w.1 - w.0)

-- Each of the days in front of each of the lists, day by day.
abbrev pub fronts : List ℕ → List (List ℕ) → List (List ℕ)
fronts [] lists = []
fronts (t ∷ ts) lists = map (λ s. t ∷ s) lists ++ fronts ts lists

-- Every list with one day of each window, in lexicographic order.
abbrev pub assignments : List Window → List (List ℕ)
assignments [] = [] ∷ []
assignments (w ∷ ws) = fronts (days w) (assignments ws)

-- One for a test that passes.
abbrev pub tick : Bool → ℕ
tick true = 1
tick false = 0

-- How often day t stands in a list of days.
abbrev pub count : ℕ → List ℕ → ℕ
count t [] = 0
count t (u ∷ us) = tick (t == u) + count t us

-- No day has more than its most.
abbrev pub keeps_mosts : ℕ → List Pair → List ℕ → Bool
keeps_mosts k [] ts = true
keeps_mosts k (pair ∷ pairs) ts = nat_le (count k ts) pair.1 && keeps_mosts (suc k) pairs ts

-- Each day has at least its fewest.
abbrev pub keeps_fewests : ℕ → List Pair → List ℕ → Bool
keeps_fewests k [] ts = true
keeps_fewests k (pair ∷ pairs) ts = nat_le pair.0 (count k ts) && keeps_fewests (suc k) pairs ts

-- The assignments that keep the mosts, and of these the plans; both in lexicographic order.
abbrev pub mosts_kept : ℕ → List Pair → List Window → List (List ℕ)
mosts_kept k pairs ws = filter (keeps_mosts k pairs) (assignments ws)

abbrev pub plans : ℕ → List Pair → List Window → List (List ℕ)
plans k pairs ws = filter (keeps_fewests k pairs) (mosts_kept k pairs ws)

-- The first of a list, if it has one.
abbrev pub head : {A : Type 0} → List A → Option A
head [] = None
head (x ∷ xs) = Some x

-- The same as relations. The fewest and the most of day k + v.
abbrev pub fewest : List Pair → ℕ → ℕ
fewest pairs v = (slice_index_or pairs v (0, 0)).0

abbrev pub most : List Pair → ℕ → ℕ
most pairs v = (slice_index_or pairs v (0, 0)).1

-- Each window has one of its days.
abbrev pub Assignment : List Window → List ℕ → Type 0
Assignment [] [] = Unit {0}
Assignment [] (t ∷ ts) = ⊥
Assignment (w ∷ ws) [] = ⊥
Assignment (w ∷ ws) (t ∷ ts) = (w.0 ≤ t) × (t ≤ w.1) × Assignment ws ts

-- An assignment that gives no day more than its most.
pub record KeepsMosts (k : ℕ) (pairs : List Pair) (ws : List Window) (ts : List ℕ) : Type 0 where
  pub assigned : Assignment ws ts
  pub at_most : (v : ℕ) → v < length pairs → count (k + v) ts ≤ most pairs v

-- A plan: an assignment that gives each day at most its most and at least its fewest.
pub record Plan (k : ℕ) (pairs : List Pair) (ws : List Window) (ts : List ℕ) : Type 0 where
  pub assigned : Assignment ws ts
  pub at_most : (v : ℕ) → v < length pairs → count (k + v) ts ≤ most pairs v
  pub at_least : (v : ℕ) → v < length pairs → fewest pairs v ≤ count (k + v) ts

-- x stands in the list.
abbrev pub Among : {A : Type 0} → A → List A → Type 0
Among x [] = ⊥
Among x (y ∷ ys) = (x ≡ y) ⊎ Among x ys

-- One list comes before another, compared from the front.
abbrev pub Before : List ℕ → List ℕ → Type 0
Before [] [] = ⊥
Before [] (y ∷ ys) = Unit {0}
Before (x ∷ xs) [] = ⊥
Before (x ∷ xs) (y ∷ ys) = (x < y) ⊎ ((x ≡ y) × Before xs ys)

-- Each list comes before all that follow it, so none stands there twice.
abbrev pub Ascending : List (List ℕ) → Type 0
Ascending [] = Unit {0}
Ascending (x ∷ xs) = ((y : List ℕ) → Among y xs → Before x y) × Ascending xs

-- The lists have exactly the assignments that keep the mosts and exactly the plans, each once and in ascending order.
pub record Listed (k : ℕ) (pairs : List Pair) (ws : List Window) : Type 0 where
  pub mosts : (ts : List ℕ) → Among ts (mosts_kept k pairs ws) ↔ KeepsMosts k pairs ws ts
  pub plan : (ts : List ℕ) → Among ts (plans k pairs ws) ↔ Plan k pairs ws ts
  pub ascending : Ascending (plans k pairs ws)

abbrev pub PlansListed : Type 0
PlansListed = (k : ℕ) (pairs : List Pair) (ws : List Window) → Listed k pairs ws
