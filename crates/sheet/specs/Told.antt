-- What the reading of a header stands for.
use Rattle.std.specs.Prelude.{ℕ, Ok, Err, Result}
use Rattle.calendar.specs.declared.week.Weekly.{Weekly}
use Rattle.calendar.specs.declared.layer.Closing.{Closing}
use Rattle.calendar.specs.Told.{week_of, runs_of, below_of}
use Rattle.sheet.specs.declared.fault.Refusal.{Refusal}
use Rattle.sheet.specs.Header.{Asked}

-- how many lines a header has read: three, or those up to the line where it was refused
abbrev pub lines_read : {A : Type 0} → Result A Refusal → ℕ
lines_read (Ok x) = 3
lines_read (Err f) = f.line

-- what a calendar of a header was asked for
abbrev pub asked_of : Closing Weekly → Asked
asked_of c = (week_of (below_of c), runs_of c)
