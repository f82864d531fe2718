-- Sets of days, as lists of marks: what replies 20 and 21 mark.
use Rattle.std.specs.Prelude.{◌≡◌, ℕ, ◌+◌, ◌-◌, ◌<◌, ◌≤◌, Bool, false, cond, ◌&&◌, ◌||◌, List, [], ◌∷◌, map, length, ◌==◌, nat_le, slice_index}
use Rattle.plans.specs.Plans.{Window, Pair, from, days, tick, fewest, most, Plan}
use Rattle.plans.specs.Runs.{total, Run, room}

-- A set of days is a list of marks, day k first: day t is in the set if its mark is 1.
abbrev pub in_set : ℕ → List ℕ → ℕ → Bool
in_set k marks t = nat_le k t && slice_index marks (t - k) == 1

-- The marks of those of the days k to k + d - 1 that pass a test, and of a run.
abbrev pub marks_of : (ℕ → Bool) → ℕ → ℕ → List ℕ
marks_of test k d = map (λ t. tick (test t)) (from k d)

abbrev pub run_marks : ℕ → ℕ → Window → List ℕ
run_marks k d run = marks_of (λ t. nat_le run.0 t && nat_le t run.1) k d

-- Some day of a list passes a test.
abbrev pub some_day : (ℕ → Bool) → List ℕ → Bool
some_day test [] = false
some_day test (t ∷ ts) = test t || some_day test ts

-- How many windows have a day that passes; those with a day in a set meet it.
abbrev pub having : (ℕ → Bool) → List Window → ℕ
having test [] = 0
having test (w ∷ ws) = tick (some_day test (days w)) + having test ws

abbrev pub meeting : ℕ → List ℕ → List Window → ℕ
meeting k marks ws = having (in_set k marks) ws

-- The sum of f over those of the d days that are in a set, where f v is of day k + v; and the sum of their fewests.
abbrev pub sum_over : ℕ → List ℕ → (ℕ → ℕ) → ℕ → ℕ
sum_over k marks f d = total (λ v. cond (in_set k marks (k + v)) (f v) 0) d

abbrev pub needed : ℕ → List ℕ → List Pair → ℕ
needed k marks pairs = sum_over k marks (fewest pairs) (length pairs)

-- Fewer windows meet the set than its days need: a set that 21 may mark.
abbrev pub ShowsShortage : ℕ → List Pair → List Window → List ℕ → Type 0
ShowsShortage k pairs ws marks = meeting k marks ws < needed k marks pairs

-- A mark of 0 or 1 for each of the d days.
pub record Marks (d : ℕ) (marks : List ℕ) : Type 0 where
  pub long : length marks ≡ d
  pub marked : (v : ℕ) → slice_index marks v ≤ 1

-- A set that shows a shortage excludes every plan.
abbrev pub ShortageExcludes : Type 0
ShortageExcludes =
    (k : ℕ) (pairs : List Pair) (ws : List Window) (marks ts : List ℕ) → ShowsShortage k pairs ws marks → Plan k pairs ws ts → ⊥

-- The marks of a run are a mark for each day, 1 just for the days of the run, and the sum of its mosts is that of the set.
pub record RunMarked (k : ℕ) (pairs : List Pair) (run : Window) (marks : List ℕ) : Type 0 where
  pub are_marks : Marks (length pairs) marks
  pub days : (t : ℕ) → k ≤ t → t < k + length pairs → in_set k marks t ≡ (nat_le run.0 t && nat_le t run.1)
  pub mosts : room k pairs run ≡ sum_over k marks (most pairs) (length pairs)

abbrev pub RunsMarked : Type 0
RunsMarked =
    (k : ℕ) (pairs : List Pair) (run : Window) → Run k (length pairs) run → RunMarked k pairs run (run_marks k (length pairs) run)
