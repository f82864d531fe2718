-- The pair (fewest, most) of a day.
use Rattle.std.specs.Prelude.{ℕ, ◌≤◌, Bool, ◌&&◌, not, List, Option, nat_le}
use Rattle.std.specs.List.{position}

-- its fewest is at most its most, and its most at most 512
abbrev pub Sound : ℕ × ℕ → Type 0
Sound p = (p.0 ≤ p.1) × (p.1 ≤ 512)

abbrev pub sound : ℕ × ℕ → Bool
sound p = nat_le p.0 p.1 && nat_le p.1 512

-- the first place whose pair is not so
abbrev pub bad_pair : List (ℕ × ℕ) → Option ℕ
bad_pair pairs = position (λ p. not (sound p)) pairs
