-- What plans say of one window: its least and greatest day, whether a day is possible; and the first plan.
use Rattle.std.specs.Prelude.{◌≡◌, ℕ, zero, suc, ◌<◌, ◌≤◌, min, max, Bool, true, false, ◌||◌, ◌⊎◌, ◌↔◌, List, [], ◌∷◌, map, length, Some, None, Option, ◌==◌, slice_index, slice_index_or, slice_set}
use Rattle.plans.specs.Plans.{Window, Pair, from, plans, head, Plan, Before}

-- The window at place i.
abbrev pub window : List Window → ℕ → Window
window ws i = slice_index_or ws i (0, 0)

-- The day that a list gives place i, and the days that several lists give it.
abbrev pub entry : List ℕ → ℕ → ℕ
entry ts i = slice_index ts i

abbrev pub entries : ℕ → List (List ℕ) → List ℕ
entries i tss = map (λ ts. entry ts i) tss

-- The least and the greatest of a list of days, which has one wherever they are asked for.
abbrev pub least : List ℕ → ℕ
least [] = 0
least (t ∷ []) = t
least (t ∷ (u ∷ us)) = min t (least (u ∷ us))

abbrev pub greatest : List ℕ → ℕ
greatest [] = 0
greatest (t ∷ ts) = max t (greatest ts)

-- If there is a plan, the window at each place becomes the least and the greatest day of that place in any plan.
abbrev pub narrowed_at : ℕ → List Pair → List Window → ℕ → Window
narrowed_at k pairs ws i = (least (entries i (plans k pairs ws)), greatest (entries i (plans k pairs ws)))

abbrev pub narrowed : ℕ → List Pair → List Window → List Window
narrowed k pairs ws = map (narrowed_at k pairs ws) (from 0 (length ws))

-- Whether t stands in a list of days.
abbrev pub stands : ℕ → List ℕ → Bool
stands t [] = false
stands t (u ∷ us) = t == u || stands t us

-- Whether some plan gives place i the day t.
abbrev pub supported : ℕ → List Pair → List Window → ℕ → ℕ → Bool
supported k pairs ws i t = stands t (entries i (plans k pairs ws))

-- The first plan, if there is one.
abbrev pub first_plan : ℕ → List Pair → List Window → Option (List ℕ)
first_plan k pairs ws = head (plans k pairs ws)

-- The same as relations. Some plan gives place i the day t.
abbrev pub Possible : ℕ → List Pair → List Window → ℕ → ℕ → Type 0
Possible k pairs ws i t = (ts : List ℕ) × Plan k pairs ws ts × (entry ts i ≡ t)

-- Some plan gives place i the day t, and none an earlier one.
pub record Smallest (k : ℕ) (pairs : List Pair) (ws : List Window) (i t : ℕ) : Type 0 where
  pub possible : Possible k pairs ws i t
  pub none_before : (ts : List ℕ) → Plan k pairs ws ts → t ≤ entry ts i

-- Some plan gives place i the day t, and none a later one.
pub record Largest (k : ℕ) (pairs : List Pair) (ws : List Window) (i t : ℕ) : Type 0 where
  pub possible : Possible k pairs ws i t
  pub none_after : (ts : List ℕ) → Plan k pairs ws ts → entry ts i ≤ t

-- A plan that comes before every other.
pub record Leads (k : ℕ) (pairs : List Pair) (ws : List Window) (ts : List ℕ) : Type 0 where
  pub plan : Plan k pairs ws ts
  pub before : (other : List ℕ) → Plan k pairs ws other → (ts ≡ other) ⊎ Before ts other

-- Where there is a plan, the narrowed window is from the smallest to the largest day of its place in any plan.
abbrev pub NarrowedMeans : Type 0
NarrowedMeans =
    (k : ℕ) (pairs : List Pair) (ws : List Window) (ts : List ℕ) → Plan k pairs ws ts → (i t : ℕ)
    → (((narrowed_at k pairs ws i).0 ≡ t) ↔ Smallest k pairs ws i t) × (((narrowed_at k pairs ws i).1 ≡ t) ↔ Largest k pairs ws i t)

-- A day is supported exactly when some plan gives it to the place.
abbrev pub SupportedMeans : Type 0
SupportedMeans = (k : ℕ) (pairs : List Pair) (ws : List Window) (i t : ℕ) → (supported k pairs ws i t ≡ true) ↔ Possible k pairs ws i t

-- Some plan gives a place the day t exactly when t is a day of its window and there is a plan with that place closed to t.
abbrev pub PossibleClosed : Type 0
PossibleClosed =
    (k : ℕ) (pairs : List Pair) (ws : List Window) (i t : ℕ) → i < length ws
    → Possible k pairs ws i t ↔ (((window ws i).0 ≤ t) × (t ≤ (window ws i).1) × ((ts : List ℕ) × Plan k pairs (slice_set ws i (t, t)) ts))

-- The first plan is the one that leads, and there is none just where there is no plan.
abbrev pub FirstLeads : Type 0
FirstLeads =
    (k : ℕ) (pairs : List Pair) (ws : List Window)
    → ((ts : List ℕ) → (first_plan k pairs ws ≡ Some ts) ↔ Leads k pairs ws ts)
    × ((first_plan k pairs ws ≡ None) ↔ ((ts : List ℕ) → Plan k pairs ws ts → ⊥))

-- The first i windows are single days.
abbrev pub Singles : ℕ → List Window → Type 0
Singles zero ws = Unit {0}
Singles (suc i) [] = Unit {0}
Singles (suc i) (w ∷ ws) = (w.0 ≡ w.1) × Singles i ws

-- Once the places before it are single days, a place can be closed to its smallest day, and the first plan stays.
abbrev pub FirstStep : Type 0
FirstStep =
    (k : ℕ) (pairs : List Pair) (ws : List Window) (i t : ℕ) → i < length ws → Singles i ws → Smallest k pairs ws i t
    → first_plan k pairs ws ≡ first_plan k pairs (slice_set ws i (t, t))

-- Once all places are single days, the first plan is the list of these.
abbrev pub FirstSingle : Type 0
FirstSingle =
    (k : ℕ) (pairs : List Pair) (ws : List Window) (ts : List ℕ) → Singles (length ws) ws → Plan k pairs ws ts
    → first_plan k pairs ws ≡ Some (map (λ w. w.0) ws)
