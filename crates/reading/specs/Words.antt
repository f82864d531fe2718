-- The fields of a line.
use Rattle.std.specs.Prelude.{ℕ, ◌+◌, ◌%◌, Bool, cond, ◌&&◌, List, [], ◌∷◌, map, length, Some, None, Ok, Err, Option, Result, ◌==◌, nat_le}
use Rattle.reading.specs.declared.words.Unfit.{Unfit}
use Rattle.reading.specs.declared.words.Unfit.TheVariants.{BadLine, BadField}
use Rattle.reading.specs.declared.words.Count.{Count}
use Rattle.reading.specs.declared.words.Count.TheVariants.{Exactly, Even}
use Rattle.reading.specs.Numbers.{number_of}
use Rattle.reading.specs.Pieces.{parts}

-- a field, with the column where it begins, counted from 1
pub data Word : Type 0 where
  letter : ℕ → ℕ → Word
  number : ℕ → ℕ → Word
  bad : ℕ → List ℕ → Word

-- each part with its column, where the first has column c
abbrev pub columns : ℕ → List (List ℕ) → List (ℕ × List ℕ)
columns c [] = []
columns c (p ∷ ps) = (c, p) ∷ columns (c + length p + 1) ps

-- one byte from A to Z
abbrev pub letter_of : List ℕ → Option ℕ
letter_of [] = None
letter_of (b ∷ []) = cond (nat_le 65 b && nat_le b 90) (Some b) None
letter_of (b ∷ c ∷ bs) = None

abbrev pub as_letter : ℕ × List ℕ → Option ℕ → Word
as_letter p None = bad p.0 p.1
as_letter p (Some b) = letter p.0 b

abbrev pub as_number : ℕ × List ℕ → Option ℕ → Word
as_number p None = bad p.0 p.1
as_number p (Some n) = number p.0 n

-- the field in column 1 is to be a letter, any later one a number
abbrev pub word : ℕ × List ℕ → Word
word p = cond (p.0 == 1) (as_letter p (letter_of p.1)) (as_number p (number_of p.1))

-- the fields of a line
abbrev pub words : List ℕ → List Word
words line = map word (columns 1 (parts line))

-- the letter that comes first, and the later fields
abbrev pub lettered : List Word → Option (ℕ × List Word)
lettered [] = None
lettered (letter c b ∷ ws) = Some (b, ws)
lettered (number c n ∷ ws) = None
lettered (bad c bs ∷ ws) = None

-- the same of a line of at most 200 bytes
abbrev pub headed : List ℕ → Option (ℕ × List Word)
headed line = cond (nat_le (length line) 200) (lettered (words line)) None

-- whether n later fields are as many as a line is to have
abbrev pub fits : Count → ℕ → Bool
fits (Exactly m) n = n == m
fits Even n = n % 2 == 0

abbrev pub with_first : ℕ → Result (List ℕ) Unfit → Result (List ℕ) Unfit
with_first n (Ok ns) = Ok (n ∷ ns)
with_first n (Err u) = Err u

-- the values of fields that are all numbers, or the column of the first that is none
abbrev pub values : List Word → Result (List ℕ) Unfit
values [] = Ok []
values (letter c b ∷ ws) = Err (BadField c)
values (number c n ∷ ws) = with_first n (values ws)
values (bad c bs ∷ ws) = Err (BadField c)

-- the numbers of a line that has the wanted letter first and the right count of fields after it
abbrev pub fitting : ℕ → (ℕ → Bool) → Option (ℕ × List Word) → Result (List ℕ) Unfit
fitting wanted right None = Err BadLine
fitting wanted right (Some h) = cond (h.0 == wanted && right (length h.1)) (values h.1) (Err BadLine)
