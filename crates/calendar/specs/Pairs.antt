-- Weekdays, closed runs, and the pair that each kind of calendar has on a day.
use Rattle.std.specs.Prelude.{ℕ, ◌+◌, ◌%◌, Bool, cond, ◌&&◌, not, List, Option, nat_le, slice_index_or}
use Rattle.std.specs.List.{list_any, position}

-- a run of days, its first and its last: it does not end before it begins
abbrev pub ordered : ℕ × ℕ → Bool
ordered r = nat_le r.0 r.1

-- the first run that ends before it begins
abbrev pub bad_run : List (ℕ × ℕ) → Option ℕ
bad_run runs = position (λ r. not (ordered r)) runs

-- the weekday of day t, where day 0 has the weekday w
abbrev pub weekday_on : ℕ → ℕ → ℕ
weekday_on w t = (w + t) % 7

-- whether day t lies in one of the runs
abbrev pub in_runs : List (ℕ × ℕ) → ℕ → Bool
in_runs runs t = list_any (λ r. nat_le r.0 t && nat_le t r.1) runs

-- the listed pairs for the first days, and (0, 0) later
abbrev pub listed : List (ℕ × ℕ) → ℕ → ℕ × ℕ
listed rows t = slice_index_or rows t (0, 0)

-- each day has the pair of its weekday
abbrev pub weekly : List (ℕ × ℕ) → ℕ → ℕ → ℕ × ℕ
weekly rows w t = slice_index_or rows (weekday_on w t) (0, 0)

-- (0, 0) on a day in a run, and the pair from below on any other
abbrev pub closed : List (ℕ × ℕ) → (ℕ → ℕ × ℕ) → ℕ → ℕ × ℕ
closed runs below t = cond (in_runs runs t) (0, 0) (below t)
