-- The meaning of each kind of calendar, read off its fields.
use Rattle.std.specs.Prelude.{ℕ, List}
use Rattle.calendar.specs.declared.list.Listed.{Listed}
use Rattle.calendar.specs.declared.week.Weekly.{Weekly}
use Rattle.calendar.specs.declared.layer.Closing.{Closing}
use Rattle.calendar.specs.Pairs.{listed, weekly}

abbrev pub listed_told : Listed → ℕ → ℕ × ℕ
listed_told c = listed c.rows.now

-- the weekday of day 0 and the seven pairs
abbrev pub week_of : Weekly → ℕ × List (ℕ × ℕ)
week_of c = (c.start, c.rows)

abbrev pub weekly_told : Weekly → ℕ → ℕ × ℕ
weekly_told c = weekly c.rows c.start

-- the closed runs of a layer
abbrev pub runs_of : {C : Type 0} → Closing C → List (ℕ × ℕ)
runs_of c = c.runs.items

-- the calendar under a layer
abbrev pub below_of : {C : Type 0} → Closing C → C
below_of c = c.below
