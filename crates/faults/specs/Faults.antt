-- What a fault of the book tells: its number, its place, its counts and its layer.
use Rattle.std.specs.Prelude.{ℕ, None, Option}
use Rattle.records.specs.Faults.{number_of as engine_number, place_of as engine_place, counts_of as engine_counts, layer_of as engine_layer}
use Rattle.faults.specs.declared.Check.{Check}
use Rattle.faults.specs.declared.Check.TheVariants.{NumberZero, NumberHeld, NumberUnknown, BookFull, BadWindow, DayOutside, LitAlready, TooShort, LastDay}
use Rattle.faults.specs.declared.Cause.{Cause}
use Rattle.faults.specs.declared.Cause.TheVariants.{Failed, Engine}

abbrev pub check_number : Check → ℕ
check_number NumberZero = 30
check_number NumberHeld = 31
check_number NumberUnknown = 32
check_number BookFull = 33
check_number BadWindow = 34
check_number DayOutside = 35
check_number LitAlready = 36
check_number TooShort = 37
check_number LastDay = 38

abbrev pub number_of : Cause → ℕ
number_of (Failed check) = check_number check
number_of (Engine fault) = engine_number fault

-- Only the engine names places and counts.
abbrev pub place_of : Cause → Option ℕ
place_of (Failed check) = None
place_of (Engine fault) = engine_place fault

abbrev pub counts_of : Cause → Option (ℕ × ℕ)
counts_of (Failed check) = None
counts_of (Engine fault) = engine_counts fault

-- The letter B; what the engine refuses keeps its letter.
abbrev pub layer_of : Cause → ℕ
layer_of (Failed check) = 66
layer_of (Engine fault) = engine_layer fault
