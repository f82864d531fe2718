-- What each fault of a sheet tells: its number, its place, its layer and its column.
use Rattle.std.specs.Prelude.{ℕ, Some, None, Option}
use Rattle.calendar.specs.Faults as calendars
use Rattle.reading.specs.declared.words.Unfit.{Unfit}
use Rattle.sheet.specs.declared.fault.SheetFault.{SheetFault}
use Rattle.sheet.specs.declared.fault.SheetFault.TheVariants.{TooLong, NoMark, BadLine, BadField, Missing, Calendar}
use Rattle.sheet.specs.declared.fault.Refusal.{Refusal}

abbrev pub number_of : SheetFault → ℕ
number_of TooLong = 50
number_of NoMark = 50
number_of BadLine = 51
number_of (BadField c) = 52
number_of (Missing n) = 53
number_of (Calendar f) = calendars.number_of f

-- the column of a bad field, the number of a missing line, or the calendar's row or run
abbrev pub place_of : SheetFault → Option ℕ
place_of TooLong = None
place_of NoMark = None
place_of BadLine = None
place_of (BadField c) = Some c
place_of (Missing n) = Some n
place_of (Calendar f) = calendars.place_of f

-- the letter S, or that of the layer that refused
abbrev pub layer_of : SheetFault → ℕ
layer_of TooLong = 83
layer_of NoMark = 83
layer_of BadLine = 83
layer_of (BadField c) = 83
layer_of (Missing n) = 83
layer_of (Calendar f) = calendars.layer_of f

-- a bad field's own column, and 1 with any other fault
abbrev pub column_of : SheetFault → ℕ
column_of TooLong = 1
column_of NoMark = 1
column_of BadLine = 1
column_of (BadField c) = c
column_of (Missing n) = 1
column_of (Calendar f) = 1

-- a fault on a line of the sheet
abbrev pub refused_at : ℕ → SheetFault → Refusal
refused_at n f = record { fault = f; line = n; column = column_of f }

-- what the reading of a line's numbers refuses
abbrev pub from_unfit : Unfit → SheetFault
from_unfit Unfit.BadLine = BadLine
from_unfit (Unfit.BadField c) = BadField c
