-- What each fault tells: its number, its place, its two counts and its layer.
use Rattle.std.specs.Prelude.{ℕ, Some, None, Option}
use Rattle.records.specs.declared.fault.NarrowingFault.{NarrowingFault}
use Rattle.records.specs.declared.fault.NarrowingFault.TheVariants.{BadRange, BadPair, TooManyRecords, BadWindow, Overfull, Short}

abbrev pub number_of : NarrowingFault → ℕ
number_of BadRange = 10
number_of (BadPair day) = 11
number_of TooManyRecords = 12
number_of (BadWindow i) = 13
number_of (Overfull windows mosts) = 20
number_of (Short windows fewests) = 21

-- A day, or the place of a record, counted from 0.
abbrev pub place_of : NarrowingFault → Option ℕ
place_of BadRange = None
place_of (BadPair day) = Some day
place_of TooManyRecords = None
place_of (BadWindow i) = Some i
place_of (Overfull windows mosts) = None
place_of (Short windows fewests) = None

-- The windows of the marked set, and the sum of its mosts or of its fewests.
abbrev pub counts_of : NarrowingFault → Option (ℕ × ℕ)
counts_of BadRange = None
counts_of (BadPair day) = None
counts_of TooManyRecords = None
counts_of (BadWindow i) = None
counts_of (Overfull windows mosts) = Some (windows, mosts)
counts_of (Short windows fewests) = Some (windows, fewests)

-- The letter K.
abbrev pub layer_of : NarrowingFault → ℕ
layer_of fault = 75
