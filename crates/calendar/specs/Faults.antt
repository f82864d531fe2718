-- What each fault of a calendar tells: its number, its place and its layer.
use Rattle.std.specs.Prelude.{ℕ, Some, None, Option}
use Rattle.calendar.specs.declared.fault.CalendarFault.{CalendarFault}
use Rattle.calendar.specs.declared.fault.CalendarFault.TheVariants.{NoWeekday, TooManyPairs, BadRow, BadRun, TooManyRuns}

abbrev pub number_of : CalendarFault → ℕ
number_of NoWeekday = 40
number_of TooManyPairs = 40
number_of (BadRow i) = 41
number_of (BadRun i) = 42
number_of TooManyRuns = 43

-- a row or a run, counted from 0
abbrev pub place_of : CalendarFault → Option ℕ
place_of NoWeekday = None
place_of TooManyPairs = None
place_of (BadRow i) = Some i
place_of (BadRun i) = Some i
place_of TooManyRuns = None

-- the letter C
abbrev pub layer_of : CalendarFault → ℕ
layer_of f = 67
