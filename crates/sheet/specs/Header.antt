-- The three lines that open a sheet.
use Rattle.std.specs.Prelude.{ℕ, Bool, cond, ◌&&◌, List, [], ◌∷◌, length, drop, Some, None, Ok, Err, Option, Result, ◌==◌, nat_le, slice_index}
use Rattle.calendar.specs.Checks.{weekly_check, closing_check}
use Rattle.sheet.specs.declared.fault.SheetFault.{SheetFault}
use Rattle.sheet.specs.declared.fault.SheetFault.TheVariants.{TooLong, NoMark, BadLine, Missing, Calendar}
use Rattle.reading.specs.declared.words.Count.TheVariants.{Exactly, Even}
use Rattle.sheet.specs.declared.fault.Refusal.{Refusal}
use Rattle.reading.specs.Results.{map_err, and_then}
use Rattle.reading.specs.Numbers.{number_of}
use Rattle.reading.specs.Pieces.{lines, first}
use Rattle.reading.specs.Words.{headed, fits, fitting}
use Rattle.sheet.specs.Faults.{refused_at, from_unfit}

-- whether the bytes `OVB` and a space come first
abbrev pub marked : List ℕ → Bool
marked l = slice_index l 0 == 79 && (slice_index l 1 == 86 && (slice_index l 2 == 66 && slice_index l 3 == 32))

-- the version after the mark
abbrev pub version_of : List ℕ → Option ℕ
version_of l = cond (marked l) (number_of (drop 4 l)) None

abbrev pub if_one : Option ℕ → Result (Unit {0}) SheetFault
if_one None = Err NoMark
if_one (Some v) = cond (v == 1) (Ok tt) (Err NoMark)

-- line 1 has the mark and version 1
abbrev pub mark_line : List ℕ → Result (Unit {0}) SheetFault
mark_line l = if_one (version_of l)

-- numbers two by two
abbrev pub in_pairs : List ℕ → List (ℕ × ℕ)
in_pairs [] = []
in_pairs (a ∷ []) = []
in_pairs (a ∷ b ∷ ns) = (a, b) ∷ in_pairs ns

-- the weekday of day 0 and the seven pairs, where the calendar's check accepts them
abbrev pub week_from : List ℕ → Result (ℕ × List (ℕ × ℕ)) SheetFault
week_from [] = Err BadLine
week_from (w ∷ ns) = and_then (map_err Calendar (weekly_check (in_pairs ns) w)) (λ _. Ok (w, in_pairs ns))

-- line 2 is the letter W and fifteen numbers
abbrev pub week_line : List ℕ → Result (ℕ × List (ℕ × ℕ)) SheetFault
week_line l = and_then (map_err from_unfit (fitting 87 (fits (Exactly 15)) (headed l))) week_from

-- the closed runs, where the calendar's check accepts them
abbrev pub runs_from : List ℕ → Result (List (ℕ × ℕ)) SheetFault
runs_from ns = and_then (map_err Calendar (closing_check (in_pairs ns))) (λ _. Ok (in_pairs ns))

-- line 3 is the letter X and an even number of numbers
abbrev pub runs_line : List ℕ → Result (List (ℕ × ℕ)) SheetFault
runs_line l = and_then (map_err from_unfit (fitting 88 (fits Even) (headed l))) runs_from

-- a line of the sheet, read; refused where the sheet ends before it
abbrev pub on_line : {A : Type 0} → ℕ → Option (List ℕ) → (List ℕ → Result A SheetFault) → Result A Refusal
on_line n None reading = Err (refused_at n (Missing n))
on_line n (Some l) reading = map_err (refused_at n) (reading l)

-- what a header asks for: the weekday of day 0 with the seven pairs, and the closed runs
abbrev pub Asked : Type 0
Asked = (ℕ × List (ℕ × ℕ)) × List (ℕ × ℕ)

-- line by line, so that a bad line is told before a later one is missed
abbrev pub opened : List (List ℕ) → Result Asked Refusal
opened ls =
    and_then (on_line 1 (first ls) mark_line) (λ _.
    and_then (on_line 2 (first (drop 1 ls)) week_line) (λ week.
    and_then (on_line 3 (first (drop 2 ls)) runs_line) (λ runs.
    Ok (week, runs))))

-- the header of a sheet of at most 60,000 bytes
abbrev pub header : List ℕ → Result Asked Refusal
header sheet = cond (nat_le (length sheet) 60000) (opened (lines sheet)) (Err (refused_at 1 TooLong))
