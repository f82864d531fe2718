-- What each kind of calendar is asked to be, said of its pairs day by day.
use Rattle.std.specs.Prelude.{◌≡◌, ℕ, ◌+◌, ◌%◌, ◌<◌, ◌≤◌, List, length, slice_index_or}

-- the first days have the pairs of the list, in its order, and all later days (0, 0)
pub record AsListed (rows : List (ℕ × ℕ)) (told : ℕ → ℕ × ℕ) : Type 0 where
  pub first_days : (t : ℕ) → t < length rows → told t ≡ slice_index_or rows t (0, 0)
  pub later_days : (t : ℕ) → length rows ≤ t → told t ≡ (0, 0)

-- day t falls on weekday (w + t) mod 7, and has the pair of that weekday
pub record AsWeekly (rows : List (ℕ × ℕ)) (w : ℕ) (told : ℕ → ℕ × ℕ) : Type 0 where
  pub weekdays : (t : ℕ) → told t ≡ slice_index_or rows ((w + t) % 7) (0, 0)

-- day t lies in a run: not before its first day and not after its last
abbrev pub Within : ℕ × ℕ → ℕ → Type 0
Within run t = (run.0 ≤ t) × (t ≤ run.1)

-- a day within some run has (0, 0); a day within none has the pair from below
pub record AsClosing (runs : List (ℕ × ℕ)) (below told : ℕ → ℕ × ℕ) : Type 0 where
  pub closed_days : (t i : ℕ) → i < length runs → Within (slice_index_or runs i (0, 0)) t → told t ≡ (0, 0)
  pub other_days : (t : ℕ) → ((i : ℕ) → i < length runs → Within (slice_index_or runs i (0, 0)) t → ⊥) → told t ≡ below t
