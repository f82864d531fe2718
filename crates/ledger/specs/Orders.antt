-- The orders of a book, a list in ascending order of number.
use Rattle.std.specs.Prelude.{ℕ, suc, Bool, false, cond, ◌||◌, List, [], ◌∷◌, map, ◌==◌, nat_lt}
use Rattle.plans.specs.Plans.{Window}
use Rattle.plans.specs.Narrowing.{entry}

-- An order: its number, and the window last accepted for it.
pub record Order : Type 0 where
  pub number : ℕ
  pub asked : Window

-- Their numbers, and whether a number is among them.
abbrev pub numbers : List Order → List ℕ
numbers os = map (λ o. o.number) os

abbrev pub holds : ℕ → List Order → Bool
holds n [] = false
holds n (o ∷ os) = n == o.number || holds n os

-- The place of a number that is among them, counted from 0.
abbrev pub place : ℕ → List Order → ℕ
place n [] = 0
place n (o ∷ os) = cond (n == o.number) 0 (suc (place n os))

-- The day that a list of days, one for each order, gives a number.
abbrev pub day_of : ℕ → List Order → List ℕ → ℕ
day_of n os ts = entry ts (place n os)

-- One order more, before the first with a larger number.
abbrev pub enter : Order → List Order → List Order
enter o [] = o ∷ []
enter o (p ∷ ps) = cond (nat_lt o.number p.number) (o ∷ (p ∷ ps)) (p ∷ enter o ps)

-- The order under a number gets another window.
abbrev pub rewindow : ℕ → Window → List Order → List Order
rewindow n w [] = []
rewindow n w (o ∷ os) = cond (n == o.number) (record { number = o.number; asked = w } ∷ os) (o ∷ rewindow n w os)

-- The order under a number goes.
abbrev pub without : ℕ → List Order → List Order
without n [] = []
without n (o ∷ os) = cond (n == o.number) os (o ∷ without n os)

-- The numbers that a list of days puts on day t, and the orders that it puts on other days.
abbrev pub leaving : ℕ → List Order → List ℕ → List ℕ
leaving t [] ts = []
leaving t (o ∷ os) [] = []
leaving t (o ∷ os) (u ∷ ts) = cond (t == u) (o.number ∷ leaving t os ts) (leaving t os ts)

abbrev pub staying : ℕ → List Order → List ℕ → List Order
staying t [] ts = []
staying t (o ∷ os) [] = []
staying t (o ∷ os) (u ∷ ts) = cond (t == u) (staying t os ts) (o ∷ staying t os ts)
