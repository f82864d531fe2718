-- What the readers and their results stand for.
use Rattle.std.specs.Prelude.{ℕ, ◌+◌, ◌-◌, cond, List, [], map, length, drop, nat_le}
use Rattle.std.specs.Borrow.{Bor}
use Rattle.reading.specs.declared.reader.Lines.{Lines}
use Rattle.lists.specs.declared.front.Front.{Front}
use Rattle.lists.specs.Fronts.{items}
use Rattle.reading.specs.declared.words.Field.{Field}
use Rattle.reading.specs.declared.words.Field.TheVariants.{Letter, Number, Bad}
use Rattle.reading.specs.declared.words.Fields.{Fields}
use Rattle.reading.specs.Pieces.{lines, parts, PartAt}
use Rattle.reading.specs.Words.{Word, letter, number, bad, columns, word}

-- the lines that a reader has not yet handed out
abbrev pub lines_left : Lines → List (List ℕ)
lines_left r = lines (drop r.place r.sheet.now)

-- a field by its bytes where it is bad
abbrev pub told : Field → Word
told (Letter c b) = letter c b
told (Number c n) = number c n
told (Bad c r) = bad c r.now

-- a bad field is that very part of the line which begins in its column
abbrev pub Borrows : Bor (List ℕ) → Field → Type 0
Borrows line (Letter c b) = Unit {0}
Borrows line (Number c n) = Unit {0}
Borrows line (Bad c r) = PartAt line (c - 1) r

-- the fields of a line from place p on; none past its end
abbrev pub words_from : List ℕ → ℕ → List Word
words_from line p = cond (nat_le p (length line)) (map word (columns (p + 1) (parts (drop p line)))) []

-- the fields that a reader has not yet handed out
abbrev pub fields_left : Fields → List Word
fields_left r = words_from r.line.now r.place

-- the numbers of a line
abbrev pub numbers_of : Front 200 → List ℕ
numbers_of n = items n
