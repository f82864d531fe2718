-- What each check answers, and what a making keeps of what it is given.
use Rattle.std.specs.Prelude.{ℕ, cond, List, [], length, replicate, Ok, Err, Result, nat_le}
use Rattle.calendar.specs.declared.fault.CalendarFault.{CalendarFault}
use Rattle.calendar.specs.declared.fault.CalendarFault.TheVariants.{NoWeekday, TooManyPairs, BadRow, BadRun, TooManyRuns}
use Rattle.refusals.specs.Outcomes.{unless}
use Rattle.pairs.specs.Pairs.{bad_pair}
use Rattle.calendar.specs.Pairs.{bad_run}

abbrev pub Verdict : Type 0
Verdict = Result (Unit {0}) CalendarFault

abbrev pub rows_check : List (ℕ × ℕ) → Verdict
rows_check rows = unless BadRow (bad_pair rows)

-- first the length of the list, then its rows
abbrev pub listed_check : List (ℕ × ℕ) → Verdict
listed_check rows = cond (nat_le (length rows) 65536) (rows_check rows) (Err TooManyPairs)

-- first the weekday, then the rows
abbrev pub weekly_check : List (ℕ × ℕ) → ℕ → Verdict
weekly_check rows w = cond (nat_le w 6) (rows_check rows) (Err NoWeekday)

-- first how many runs there are, then each run
abbrev pub closing_check : List (ℕ × ℕ) → Verdict
closing_check runs = cond (nat_le (length runs) 16) (unless BadRun (bad_run runs)) (Err TooManyRuns)

-- the pairs asked for; (0, 0) on every day where the check refuses
abbrev pub kept : Verdict → (ℕ → ℕ × ℕ) → ℕ → ℕ × ℕ
kept (Ok _) pairs t = pairs t
kept (Err f) pairs t = (0, 0)

-- the weekday of day 0 and the seven pairs asked for; weekday 0 and seven times (0, 0) where the check refuses
abbrev pub kept_week : Verdict → ℕ × List (ℕ × ℕ) → ℕ × List (ℕ × ℕ)
kept_week (Ok _) week = week
kept_week (Err f) week = (0, replicate 7 (0, 0))

-- the runs asked for; none where the check refuses
abbrev pub kept_runs : Verdict → List (ℕ × ℕ) → List (ℕ × ℕ)
kept_runs (Ok _) runs = runs
kept_runs (Err f) runs = []
