-- Decimal numbers, written without leading zeros.
use Rattle.std.specs.Prelude.{ℕ, ◌+◌, ◌-◌, ◌*◌, Bool, true, false, cond, not, ◌&&◌, List, [], ◌∷◌, Some, None, Option, ◌==◌, nat_le}

-- the bytes 48 to 57 are the digits 0 to 9
abbrev pub digit : ℕ → Bool
digit b = nat_le 48 b && nat_le b 57

abbrev pub digits : List ℕ → Bool
digits [] = true
digits (b ∷ bs) = digit b && digits bs

-- the value of digits that follow the value n
abbrev pub value : ℕ → List ℕ → ℕ
value n [] = n
value n (b ∷ bs) = value (n * 10 + (b - 48)) bs

-- no digit at all, or a zero in front of others
abbrev pub unfit : List ℕ → Bool
unfit [] = true
unfit (b ∷ []) = false
unfit (b ∷ c ∷ bs) = b == 48

abbrev pub numeral : List ℕ → Bool
numeral bs = not (unfit bs) && digits bs

-- the number that the bytes write, where they write one of at most 65,535
abbrev pub number_of : List ℕ → Option ℕ
number_of bs = cond (numeral bs && nat_le (value 0 bs) 65535) (Some (value 0 bs)) None
