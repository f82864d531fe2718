-- Lists of orders in ascending order of number, and places in them.
use Rattle.std.specs.Prelude.{ℕ, ◌≤◌, Bool, cond, List, [], ◌∷◌, Some, None, Option, ◌==◌, nat_le}
use Rattle.std.specs.List.{AllByRecursion, AllByRecursion-prop, prefix_len}
use Rattle.std.specs.Coded.{×_prop, Unit-prop, le_prop}
use Rattle.ledger.specs.Orders.{Order, holds, place}

-- No order stands before one with a smaller number.
abbrev pub InOrder : List Order → Type 0
InOrder [] = Unit {0}
InOrder (o ∷ os) = AllByRecursion (λ p. o.number ≤ p.number) os × InOrder os

-- That has at most one proof.
pub InOrder-prop : (os : List Order) → IsProp (InOrder os)
InOrder-prop [] = Unit-prop
InOrder-prop (o ∷ os) = ×_prop (AllByRecursion-prop (λ p. o.number ≤ p.number) (λ p. le_prop) os) (InOrder-prop os)

-- The place of a number, if it is held.
abbrev pub place_in : ℕ → List Order → Option ℕ
place_in n os = cond (holds n os) (Some (place n os)) None

-- An order with no larger number; the place at which a number is entered, before the first that is larger.
abbrev pub upto : ℕ → Order → Bool
upto n o = nat_le o.number n

abbrev pub entry_place : ℕ → List Order → ℕ
entry_place n os = prefix_len (upto n) os

-- What stands at the places to which a list of days gives another day than t.
abbrev pub off : {A : Type 0} → ℕ → List A → List ℕ → List A
off t [] ts = []
off t (x ∷ xs) [] = []
off t (x ∷ xs) (u ∷ ts) = cond (t == u) (off t xs ts) (x ∷ off t xs ts)
