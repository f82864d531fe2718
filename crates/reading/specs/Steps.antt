-- One digit of a number.
use Rattle.std.specs.Prelude.{ℕ, ◌+◌, ◌-◌, ◌*◌, cond, ◌&&◌, Some, None, Option, nat_le}
use Rattle.reading.specs.Numbers.{digit}

-- the number with one more digit, where the byte is a digit and the number stays within 65,535
abbrev pub step_of : ℕ → ℕ → Option ℕ
step_of n b = cond (digit b && nat_le (n * 10 + (b - 48)) 65535) (Some (n * 10 + (b - 48))) None
