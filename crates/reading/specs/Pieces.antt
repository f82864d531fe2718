-- Bytes cut into pieces: a sheet into lines, a line into fields.
use Rattle.std.specs.Prelude.{◌≡◌, ℕ, ◌+◌, cond, List, [], ◌∷◌, length, take, drop, Some, None, Option, ◌==◌, nat_lt}
use Rattle.std.specs.List.{slice_split, position_or_len}
use Rattle.std.specs.Borrow.{Bor}

-- the pieces between the bytes `end`, which belong to none; there is always one more piece than such bytes
abbrev pub pieces : ℕ → List ℕ → List (List ℕ)
pieces end bs = slice_split (λ b. b == end) bs

-- a piece, unless it is empty
abbrev pub unless_empty : List ℕ → List (List ℕ)
unless_empty [] = []
unless_empty (b ∷ bs) = (b ∷ bs) ∷ []

-- pieces without a last one that is empty
abbrev pub unended : List (List ℕ) → List (List ℕ)
unended [] = []
unended (p ∷ []) = unless_empty p
unended (p ∷ q ∷ ps) = p ∷ unended (q ∷ ps)

-- the lines of a sheet: each ends with byte 10, which the last may lack, so a final byte 10 begins no further line
abbrev pub lines : List ℕ → List (List ℕ)
lines sheet = unended (pieces 10 sheet)

-- the parts of a line, split at each single space, byte 32
abbrev pub parts : List ℕ → List (List ℕ)
parts line = pieces 32 line

-- the first of a list
abbrev pub first : {A : Type 0} → List A → Option A
first [] = None
first (x ∷ xs) = Some x

-- how many bytes come before the first `end`
abbrev pub before : ℕ → List ℕ → ℕ
before end bs = position_or_len (λ b. b == end) bs

-- the bytes from place p up to the next `end`
abbrev pub piece_at : ℕ → List ℕ → ℕ → List ℕ
piece_at end bs p = take (before end (drop p bs)) (drop p bs)

-- where the line after the one at place p begins: past its byte 10, even where the last line lacks it
abbrev pub line_end : List ℕ → ℕ → ℕ
line_end sheet p = cond (nat_lt p (length sheet)) (p + length (piece_at 10 sheet p) + 1) p

-- l is that very part of s, in memory, which begins at place p
abbrev pub PartAt : Bor (List ℕ) → ℕ → Bor (List ℕ) → Type 0
PartAt s p l = (l.ref_ptr.0 ≡ s.ref_ptr.0) × (l.ref_ptr.1 ≡ s.ref_ptr.1 + p)
