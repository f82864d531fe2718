-- What is shown of a day.
use Rattle.std.specs.Prelude.{ℕ}
use Rattle.calendar.specs.declared.layer.Closing.{Closing}
use Rattle.calendar.specs.declared.week.Weekly.{Weekly}
use Rattle.calendar.specs.Pairs.{weekday_on, in_runs, closed}
use Rattle.calendar.specs.Told.{week_of, weekly_told, runs_of, below_of}
use Rattle.oven_days.specs.declared.day.Day.{Day}

-- its number, its weekday, its pair, and whether a closed run covers it
abbrev pub shown_day : Closing Weekly → ℕ → Day
shown_day c t =
    record {
      number = t;
      weekday = weekday_on (week_of (below_of c)).0 t;
      fewest = (closed (runs_of c) (weekly_told (below_of c)) t).0;
      most = (closed (runs_of c) (weekly_told (below_of c)) t).1;
      closed = in_runs (runs_of c) t;
    }
